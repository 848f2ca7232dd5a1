-- A frame is filled with the words of a page.
use Rattle.std.specs.Prelude.{◌≡◌, ℕ, ◌+◌, ◌*◌, ◌<◌, ◌≤◌, true, List, Some, slice_index}
use Rattle.dude_base.specs.declared.limits.TheConstants.{PAGE}
use Rattle.pmem_trait.specs.Sights.{Sight}
use Rattle.pmem_trait.specs.declared.medium.Medium.{Ghosts}
use Rattle.atomic_table.specs.declared.shared.Seat.{Seat}
use Rattle.core_events.specs.Setups.{page_of}
use Rattle.core_events.specs.Keyed.{find}
use Rattle.core_events.specs.Views.{View}
use Rattle.core_events.specs.Entries.{value}
use Rattle.core_events.specs.Conditions.{IsFilled}
use Rattle.core_table.specs.Known.{Known}
use Rattle.core_table.specs.Layout.{TableSight}
use Rattle.stm_slots.specs.Records.{IsReached, writes_in}
use Rattle.shadow_pages.specs.PageMap.{IsFree}
use Rattle.stm_slots.specs.Beside.{Beside}
use Rattle.stm_slots.specs.Opening.{setup_of, start_sight}
use Rattle.stm_slots.specs.declared.home.Home.{Home as TheHome}
use Rattle.stm_slots.specs.declared.slot.Slot.{Slot}
use Rattle.stm_slots.specs.declared.opening.Opening.{Opening}
use Rattle.stm_turns.specs.Turns.{EndsSettled, HasShown}
use Rattle.tiny_stm.specs.Frames.{MayMakeRoom}

-- all words of the page are filled into the frame
abbrev pub IsFilledIn : View → ℕ → ℕ → Type 0
IsFilledIn v page frame = (i : ℕ) → page_of i ≡ page → IsFilled v.turn.filled i frame

module _ {M : Type 0} {ghosts : Ghosts M} (sight : M → Sight) (t : TableSight (Opening M ghosts)) where
  -- All is settled at a number, the frame is free, and the touch of the page, which the view keeps, is at most the number
  pub record MayPlace (page frame : ℕ) (seat : Seat (Slot M ghosts) (Known Beside)) (h : TheHome M ghosts) : Type 0 where
    pub room : MayMakeRoom sight t page seat h
    pub free : IsFree h.pager frame
    pub number : ℕ
    pub settled : EndsSettled seat h number
    -- the reproduced word is the number
    pub shown : HasShown seat number
    pub touch : ℕ
    pub touched : find seat.me.0.view.turn.touches page ≡ Some touch
    pub reproduced : touch ≤ number

  -- The words are those of the page at the reproduced number, where the medium is visible; the frame is free for them
  pub record MayFill (page frame : ℕ) (words : List ℕ) (seat : Seat (Slot M ghosts) (Known Beside)) (h : TheHome M ghosts) : Type 0 where
    pub room : MayMakeRoom sight t page seat h
    pub free : IsFree h.pager frame
    pub number : ℕ
    pub shown : room.turn.holding.shown ≡ number
    pub touch : ℕ
    pub touched : find seat.me.0.view.turn.touches page ≡ Some touch
    pub reproduced : touch ≤ number
    pub reached : IsReached (setup_of sight t.key).first room.turn.holding.records number
    pub values : (start_sight sight t.key).is_visible ≡ true → (i : ℕ) → i < PAGE
        → slice_index words i ≡ value (setup_of sight t.key).opening (writes_in room.turn.holding.records) number (page * PAGE + i)
