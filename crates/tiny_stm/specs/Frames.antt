-- A frame is found for a page, or all frames have pinned pages.
use Rattle.std.specs.Prelude.{◌≡◌, ◌≢◌, ℕ, ◌<◌, Some}
use Rattle.pmem_trait.specs.Sights.{Sight}
use Rattle.pmem_trait.specs.declared.medium.Medium.{Ghosts}
use Rattle.atomic_table.specs.declared.shared.Seat.{Seat}
use Rattle.core_events.specs.Setups.{Setup, frame_in, without_pins}
use Rattle.core_events.specs.Keyed.{find}
use Rattle.core_events.specs.Views.{View}
use Rattle.core_table.specs.Known.{Known}
use Rattle.core_table.specs.Layout.{TableSight}
use Rattle.shadow_pages.specs.PageMap.{PageMap, Holds, frame_at}
use Rattle.stm_slots.specs.Beside.{Beside}
use Rattle.stm_slots.specs.declared.home.Home.{Home as TheHome}
use Rattle.stm_slots.specs.declared.slot.Slot.{Slot}
use Rattle.stm_slots.specs.declared.opening.Opening.{Opening}
use Rattle.tiny_stm.specs.Paging.{HasPins, HasTurn, IsAbsent, IsMapOf, Paged}
use Rattle.tiny_stm.specs.declared.pinned_page.PinnedPage.{PinnedPage}

-- the view keeps an entry that names the frame and has a pin
abbrev pub KeepsPinned : View → ℕ → Type 0
KeepsPinned v f = (page : ℕ) × (n : ℕ) × (find v.paging.entries page ≡ Some n) × (frame_in n ≡ f) × HasPins n

-- For each frame the view keeps an entry that names it and has a pin; this one is of this page
pub record KeepsAllPinned (z : Setup) (v : View) (page seen : ℕ) : Type 0 where
  pub each : (f : ℕ) → f < z.frames → KeepsPinned v f
  pub last : find v.paging.entries page ≡ Some seen
  pub pins : HasPins seen

-- the entry is that of a page in a frame of the map, has no pin, and the view keeps it
pub record IsUnpinned (v : View) (map : PageMap) (page n : ℕ) : Type 0 where
  pub kept : find v.paging.entries page ≡ Some n
  pub some_frame : 0 < n
  pub holds : Holds map (frame_in n) page
  pub no_pin : n ≡ without_pins n

-- The hand of the map went on by one frame, whose page was found pinned
pub record FoundPinned (old new : PageMap) (v w : View) (pinned : PinnedPage) : Type 0 where
  pub map_is : new ≡ record old { hand = frame_at old 1 }
  pub holds : Holds old old.hand pinned.page
  pub kept : find w.paging.entries pinned.page ≡ Some pinned.seen
  pub names : frame_in pinned.seen ≡ old.hand
  pub pins : HasPins pinned.seen
  pub others : (p : ℕ) → p ≢ pinned.page → find w.paging.entries p ≡ find v.paging.entries p

module _ {M : Type 0} {ghosts : Ghosts M} (sight : M → Sight) (t : TableSight (Opening M ghosts)) where
  -- the seat has the turn, and may make room for the page, which is absent
  pub record MayMakeRoom (page : ℕ) (seat : Seat (Slot M ghosts) (Known Beside)) (h : TheHome M ghosts) : Type 0 where
    pub turn : HasTurn sight t seat h
    pub map_is : IsMapOf t.setup h.pager
    pub absent : IsAbsent page seat.me.0.view h.pager

  -- The seat made steps to find a frame for the page, which is absent still; what is kept of its touch stays, and so does the back
  pub record MadeRoom (page : ℕ) (old new : Seat (Slot M ghosts) (Known Beside)) (h h2 : TheHome M ghosts) : Type 0 where
    pub step : Paged sight t old new h2
    pub back : h2.back ≡ h.back
    pub map_is : IsMapOf t.setup h2.pager
    pub absent : IsAbsent page new.me.0.view h2.pager
    pub touches : find new.me.0.view.turn.touches page ≡ find old.me.0.view.turn.touches page
