-- What the thread with the turn has between its steps on pages.
use Rattle.std.specs.Prelude.{◌≡◌, ◌≢◌, ℕ, ◌<◌, [], Some, None, length}
use Rattle.pmem_trait.specs.Sights.{Sight}
use Rattle.pmem_trait.specs.declared.medium.Medium.{Ghosts}
use Rattle.atomic_table.specs.declared.shared.Seat.{Seat}
use Rattle.core_events.specs.Setups.{Setup, frame_in, without_pins}
use Rattle.core_events.specs.Keyed.{find}
use Rattle.core_events.specs.Views.{View}
use Rattle.core_events.specs.Telling.{EntryTold}
use Rattle.core_table.specs.Known.{Known}
use Rattle.core_table.specs.Layout.{TableSight}
use Rattle.shadow_pages.specs.PageMap.{PageMap, Holds, IsIn, IsOneToOne}
use Rattle.stm_slots.specs.Beside.{Beside}
use Rattle.stm_slots.specs.declared.home.Home.{Home as TheHome}
use Rattle.stm_slots.specs.declared.slot.Slot.{Slot}
use Rattle.stm_slots.specs.declared.opening.Opening.{Opening}
use Rattle.stm_turns.specs.Turns.{HasShown, InTurn}

-- ---- views
-- what steps of the turn on pages leave of a view
abbrev pub page_view : View → View
page_view v = record v { paging = record v.paging { entries = [] }; turn = record v.turn { touches = []; filled = [] }; found = None; count = 0 }

-- what steps of the turn leave of a view, also those on pages
abbrev pub turn_view : View → View
turn_view v = record v { paging = record v.paging { entries = [] }; turn = record v.turn { durable = 0; full = []; touches = []; filled = [] }; found = None; count = 0 }

-- the entry has a pin
abbrev pub HasPins : ℕ → Type 0
HasPins n = n ≢ without_pins n

-- ---- maps of pages
-- The map has the pages and frames of the setup, and each page in one frame at most
pub record IsMapOf (z : Setup) (map : PageMap) : Type 0 where
  pub pages : map.pages ≡ z.pages
  pub frames : length map.frames ≡ z.frames
  pub one_to_one : IsOneToOne map

-- The page is in no frame, and the view saw that in this turn
pub record IsAbsent (page : ℕ) (v : View) (map : PageMap) : Type 0 where
  pub inside : page < map.pages
  pub seen : find v.paging.entries page ≡ Some 0
  pub out : ¬ IsIn map page

-- The number was found in the entry of a page: where the page is in a frame of the map, it names that frame
pub record FindsEntry (z : Setup) (map : PageMap) (page n : ℕ) : Type 0 where
  pub map_is : IsMapOf z map
  pub told : EntryTold z n
  pub named : (f : ℕ) → Holds map f page → (0 < n) × (frame_in n ≡ f)

-- ---- the seat with the turn
module _ {M : Type 0} {ghosts : Ghosts M} (sight : M → Sight) (t : TableSight (Opening M ghosts)) where
  -- The seat has the turn and no record in hand, with this of the back's slot
  abbrev pub HasTurn : Seat (Slot M ghosts) (Known Beside) → TheHome M ghosts → Type 0
  HasTurn seat h = InTurn sight t seat h []

  -- The seat has the turn; since its last step the hand of the pager moved
  pub record HandMoved (seat : Seat (Slot M ghosts) (Known Beside)) (h : TheHome M ghosts) : Type 0 where
    pub was : PageMap
    pub turn : HasTurn seat (record h { pager = was })
    pub pages : h.pager.pages ≡ was.pages
    pub frames : h.pager.frames ≡ was.frames
    pub lawful : IsOneToOne was → IsOneToOne h.pager

  -- The seat made steps on pages, and has the turn still, with this of the back's slot
  pub record Paged (old new : Seat (Slot M ghosts) (Known Beside)) (h : TheHome M ghosts) : Type 0 where
    pub id : new.id ≡ old.id
    pub turn : HasTurn new h
    pub view : page_view new.me.0.view ≡ page_view old.me.0.view
    pub shown : (n : ℕ) → HasShown old n → HasShown new n
