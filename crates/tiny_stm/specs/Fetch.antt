-- What a turn that brings a page into a frame leaves of the seat that has it.
use Rattle.std.specs.Prelude.{◌≡◌, ◌≢◌, ℕ, ◌<◌, ◌≤◌, Bool, true, false, Some, Result, Ok, Err}
use Rattle.pmem_trait.specs.Sights.{Sight}
use Rattle.pmem_trait.specs.declared.medium.Medium.{Ghosts}
use Rattle.back_store.specs.BackView.{state_of}
use Rattle.atomic_table.specs.declared.shared.Seat.{Seat}
use Rattle.core_events.specs.Keyed.{find}
use Rattle.core_events.specs.Conditions.{KeepsFrame}
use Rattle.core_events.specs.Events.{take_turn, give_turn, view_after}
use Rattle.core_table.specs.Known.{Known}
use Rattle.core_table.specs.Layout.{TableSight}
use Rattle.core_table.specs.Steps.{IsAfter}
use Rattle.stm_slots.specs.Beside.{Beside}
use Rattle.stm_slots.specs.declared.home.Home.{Home as TheHome}
use Rattle.stm_slots.specs.declared.slot.Slot.{Slot}
use Rattle.stm_slots.specs.declared.opening.Opening.{Opening}
use Rattle.stm_turns.specs.Bundles.{NextIsNotDrawn}
use Rattle.stm_turns.specs.Pump.{HadTurn}
use Rattle.stm_turns.specs.Turns.{EndsSettled, HasShown}
use Rattle.tiny_stm.specs.Frames.{KeepsAllPinned}
use Rattle.tiny_stm.specs.Paging.{HasTurn, turn_view}
use Rattle.tiny_stm.specs.declared.fetch_fault.FetchFault.{FetchFault}
use Rattle.tiny_stm.specs.declared.fetch_fault.FetchFault.TheVariants.{Held, Device, Dead, Behind, AllPinned}

module _ {M : Type 0} {ghosts : Ghosts M} (sight : M → Sight) (t : TableSight (Opening M ghosts)) where
  -- ---- before the turn is given
  -- The seat has the turn, of which all else is as when it was taken
  pub record KeepsTurn (took gave : Seat (Slot M ghosts) (Known Beside)) (last : TheHome M ghosts) : Type 0 where
    pub id : gave.id ≡ took.id
    pub turn : HasTurn sight t gave last
    pub view : turn_view gave.me.0.view ≡ turn_view took.me.0.view

  -- All up to the number is announced and in the home, and the next one isn't one that the view drew
  pub record SettledTo (number : ℕ) (seat : Seat (Slot M ghosts) (Known Beside)) (h : TheHome M ghosts) : Type 0 where
    pub settled : EndsSettled seat h number
    -- the reproduced word is the number
    pub shown : HasShown seat number
    pub next : NextIsNotDrawn seat number

  -- what the work of a turn comes to, by its answer
  abbrev pub ComesTo : ℕ → Result (Unit {0}) FetchFault → Seat (Slot M ghosts) (Known Beside) → TheHome M ghosts → Type 0
  ComesTo page (Ok done) seat h = (n : ℕ) × SettledTo n seat h × KeepsFrame seat.me.0.view page
  ComesTo page (Err (Behind touch reproduced)) seat h = SettledTo reproduced seat h × (find seat.me.0.view.turn.touches page ≡ Some touch) × (reproduced < touch)
  ComesTo page (Err (AllPinned last seen)) seat h = (n : ℕ) × SettledTo n seat h × KeepsAllPinned t.setup seat.me.0.view last seen
      × ((touch : ℕ) × (find seat.me.0.view.turn.touches page ≡ Some touch) × (touch ≤ n))
  ComesTo page (Err Device) seat h = (state_of h.back).dead ≡ true
  ComesTo page (Err (Held seen)) seat h = ⊥
  ComesTo page (Err Dead) seat h = ⊥

  -- ---- a turn as a whole
  -- but for the page entries that it keeps, the view is that of a seat that took the turn and gave it
  abbrev pub IsTurnOf : Bool → Seat (Slot M ghosts) (Known Beside) → Seat (Slot M ghosts) (Known Beside) → Type 0
  IsTurnOf failed old new = turn_view new.me.0.view ≡ turn_view (view_after t.setup (give_turn failed) (view_after t.setup take_turn old.me.0.view 0) 0)

  -- The back wasn't dead; all up to the number is announced, and in the home
  pub record HasSettled (number : ℕ) (old new : Seat (Slot M ghosts) (Known Beside)) : Type 0 where
    pub turn : HadTurn sight t KeepsTurn false old new
    pub view : IsTurnOf false old new
    pub before : (state_of turn.first.back).dead ≡ false
    pub settled : EndsSettled turn.gave turn.last number
    -- the view knows it, and didn't draw the next number
    pub durable : new.me.0.view.turn.durable ≡ number
    pub next : NextIsNotDrawn new number

  -- The view keeps an entry of the page that was in a frame in this turn
  pub record HasFetched (page : ℕ) (old new : Seat (Slot M ghosts) (Known Beside)) : Type 0 where
    pub number : ℕ
    pub settled : HasSettled number old new
    pub shown : KeepsFrame new.me.0.view page

  -- The touch of the page, which the view keeps, is over the reproduced number
  pub record IsBehind (page touch reproduced : ℕ) (old new : Seat (Slot M ghosts) (Known Beside)) : Type 0 where
    pub settled : HasSettled reproduced old new
    pub touched : find new.me.0.view.turn.touches page ≡ Some touch
    pub over : reproduced < touch

  -- The touch of the page isn't over the reproduced number, but each frame's page was found pinned in this turn, this one last
  pub record HasAllPinned (page last seen : ℕ) (old new : Seat (Slot M ghosts) (Known Beside)) : Type 0 where
    pub number : ℕ
    pub settled : HasSettled number old new
    pub pinned : KeepsAllPinned t.setup new.me.0.view last seen
    pub touch : ℕ
    pub touched : find new.me.0.view.turn.touches page ≡ Some touch
    pub reproduced : touch ≤ number

  -- A turn in which the back was, or became, dead: the view has met a fault
  pub record HasFailed (was_dead : Bool) (old new : Seat (Slot M ghosts) (Known Beside)) : Type 0 where
    pub turn : HadTurn sight t KeepsTurn true old new
    pub view : IsTurnOf true old new
    pub before : (state_of turn.first.back).dead ≡ was_dead
    pub after : (state_of turn.last.back).dead ≡ true
    pub met_fault : new.me.0.view.turn.met_fault ≡ true

  -- The turn word wasn't 0; or a call of the back in this turn failed; or the back was dead before; or as IsBehind and HasAllPinned say
  abbrev pub HasFetchFault : ℕ → FetchFault → Seat (Slot M ghosts) (Known Beside) → Seat (Slot M ghosts) (Known Beside) → Type 0
  HasFetchFault page (Held seen) old new = (seen ≢ 0) × IsAfter t take_turn old new seen
  HasFetchFault page Device old new = HasFailed false old new
  HasFetchFault page Dead old new = HasFailed true old new
  HasFetchFault page (Behind touch reproduced) old new = IsBehind page touch reproduced old new
  HasFetchFault page (AllPinned last seen) old new = HasAllPinned page last seen old new
