-- The kept state, the layer of pages: pins, touches, frames, and what the view with the turn keeps of them.
use Rattle.std.specs.Prelude.{◌≡◌, ◌≢◌, ℕ, ◌*◌, ◌<◌, ◌≤◌, ◌⊎◌, Bool, true, List, length, map, Option, Some, None, slice_index}
use mathlib.Core.Option.{some}
use lib.ListN.{get_elem?}
use Rattle.dude_base.specs.declared.limits.TheConstants.{PAGE}
use Rattle.dude_base.specs.Writes.{written}
use Rattle.core_events.specs.Setups.{Setup, page_of, entry_with, ENTRY}
use Rattle.core_events.specs.Keyed.{find, has, total, one_if}
use Rattle.core_events.specs.Views.{Hand, View}
use Rattle.core_events.specs.Words.{State}
use Rattle.core_events.specs.Entries.{History}
use Rattle.core_events.specs.Conditions.{Keeps, IsUndecided, IsFilled}
use Rattle.core_events.specs.Ghosts.{Ghost}

-- a page that a number may still pin
pub record Pinner : Type 0 where
  pub number : ℕ
  pub pins : List (ℕ × ℕ)

-- the pages that a view pins, with their frames
abbrev pub pins_of : View → List (ℕ × ℕ)
pins_of v = v.paging.pins

-- the number that a view drew, with the pages that it pins
abbrev pub pinner_of : View → Pinner
pinner_of v = record { number = v.tx.hand.number; pins = v.paging.pins }

-- 1 for a view that pins the page
abbrev pub pins_at : ℕ → List (ℕ × ℕ) → ℕ
pins_at p pins = one_if (find pins p)

-- the entry of a page by its frame and its pins; 0 where it is in no frame
abbrev pub entry_word : Option ℕ → ℕ → ℕ
entry_word None pins = 0
entry_word (Some f) pins = entry_with f pins

-- The entry of a page that is in a frame has as many pins as views pin the page; an absent one has none
pub record PinsCounted (z : Setup) (frame : ℕ → Option ℕ) (entries : List ℕ) (pins : List (List (ℕ × ℕ))) : Type 0 where
  pub sized : length entries ≡ z.pages
  pub counted : (p : ℕ) → p < z.pages → slice_index entries p ≡ entry_word (frame p) (total (pins_at p) pins)
  pub pinned : (j p f : ℕ) (ps : List (ℕ × ℕ)) → get_elem? pins j ≡ some ps → find ps p ≡ Some f → frame p ≡ Some f

-- A page's touch is at least every decided number that wrote to it, unless that number's view still pins it
pub record TouchesMade (z : Setup) (hist : History) (touches : List ℕ) (pinners : List Pinner) : Type 0 where
  pub sized : length touches ≡ z.pages
  pub touched : (n i x : ℕ) → written (hist n) i ≡ Some x
      → (n ≤ slice_index touches (page_of i)) ⊎ ((j : ℕ) × (r : Pinner) × (get_elem? pinners j ≡ some r) × (r.number ≡ n) × Keeps r.pins (page_of i))

-- Each frame is named by at most one page
pub record FramesMapped (z : Setup) (frame : ℕ → Option ℕ) (cells : List ℕ) : Type 0 where
  pub sized : length cells ≡ z.frames * PAGE
  pub inside : (p f : ℕ) → frame p ≡ Some f → (p < z.pages) × (f < z.frames)
  pub one_each : (p q f : ℕ) → frame p ≡ Some f → frame q ≡ Some f → p ≡ q

-- Pins of a view: only an open transaction of a thread has some; an undecided number pins the pages of its writes; the touches that it
-- made are made
pub record PinsKept (touches : List ℕ) (thread : Option ℕ) (is_open : Bool) (h : Hand) (pins : List (ℕ × ℕ)) (touched : List ℕ) : Type 0 where
  pub pinner : (p f : ℕ) → find pins p ≡ Some f → (is_open ≡ true) × ((t : ℕ) × (thread ≡ Some t))
  pub written_pinned : IsUndecided h → (i x : ℕ) → written h.writes i ≡ Some x → Keeps pins (page_of i)
  pub touches_made : (p : ℕ) → has touched p ≡ true → (h.decided ≡ true) × (h.number ≤ slice_index touches p)

-- What the view with the turn keeps: a page whose entry it saw as 0 is absent, also one whose touch it keeps; a word that it filled is of
-- an absent page, in a frame that no page has, and the words of a frame are of one page
pub record TurnPages (z : Setup) (frame : ℕ → Option ℕ) (touches : List ℕ) (entries turn_touches filled : List (ℕ × ℕ)) : Type 0 where
  pub absent : (p : ℕ) → find entries p ≡ Some 0 → frame p ≡ None
  pub touches_with : (p y : ℕ) → find turn_touches p ≡ Some y → (frame p ≡ None) × (slice_index touches p ≡ y)
  pub filled_absent : (i f : ℕ) → IsFilled filled i f → (frame (page_of i) ≡ None) × ((q : ℕ) → frame q ≢ Some f) × (i < z.pages * PAGE) × (f < z.frames)
  pub filled_one : (i k f : ℕ) → IsFilled filled i f → IsFilled filled k f → page_of i ≡ page_of k

-- what a view knows of pages
pub record KnowsPages (z : Setup) (frame : ℕ → Option ℕ) (touches : List ℕ) (v : View) : Type 0 where
  pub pins : PinsKept touches v.part.thread v.tx.is_open v.tx.hand v.paging.pins v.paging.touched
  pub turn : v.turn.has_it ≡ true → TurnPages z frame touches v.paging.entries v.turn.touches v.turn.filled

-- The layer of pages: pins are counted, touches are made, frames have one page each, and each view knows its pages.
pub record PagesKept (z : Setup) (g : Ghost) (c : State) : Type 0 where
  pub pins : PinsCounted z g.frame c.entries (map pins_of c.views)
  pub touches : TouchesMade z g.claims.hist c.touches (map pinner_of c.views)
  pub frames : FramesMapped z g.frame c.cells
  pub each : (j : ℕ) (v : View) → get_elem? c.views j ≡ some v → KnowsPages z g.frame c.touches v
  -- (to be inductive) so few threads that the pins of an entry stay below its frame
  pub few : z.threads < ENTRY
