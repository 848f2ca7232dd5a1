-- The kept state, the layer of the log: how bundles that wait and the home stand to the numbers, to what these wrote, and to the boxes.
-- It speaks of plain lists and of a log, whoever keeps it.
use Rattle.std.specs.Prelude.{◌≡◌, ℕ, zero, suc, ◌+◌, ◌*◌, ◌<◌, ◌≤◌, ◌⊎◌, true, List, map, Option, Some, slice_index}
use Rattle.std.specs.Option.{option_or}
use Rattle.std.specs.List.{Contains}
use mathlib.Core.Option.{some}
use lib.ListN.{get_elem?}
use Rattle.dude_base.specs.declared.limits.TheConstants.{PAGE}
use Rattle.dude_base.specs.Records.{first_of, Covers}
use Rattle.dude_base.specs.Writes.{written}
use Rattle.redo_record.specs.LogState.{LogState}
use Rattle.redo_record.specs.Waiting.{Waiting}
use Rattle.core_events.specs.Setups.{Setup, box_of}
use Rattle.core_events.specs.Keyed.{has}
use Rattle.core_events.specs.Views.{View}
use Rattle.core_events.specs.Words.{State}
use Rattle.core_events.specs.Entries.{History, value}
use Rattle.core_events.specs.Ghosts.{Ghost}
use Rattle.core_events.specs.KeptNumbers.{numbers_of}

-- what the last of some numbers, `first` and so many behind it, put into the word i
abbrev pub last_write : History → ℕ → ℕ → ℕ → Option ℕ
last_write hist first zero i = written (hist first) i
last_write hist first (suc more) i = option_or (written (hist (first + suc more)) i) (last_write hist first more i)

-- the number is on the medium: the home has its writes, or a waiting bundle covers it
abbrev pub IsOnMedium : LogState → ℕ → Type 0
IsOnMedium l n = (n ≤ l.reproduced) ⊎ ((w : Waiting) × Contains l.waiting w × Covers w.redo n)

-- the number is in a box, or its record left one
abbrev pub IsPosted : List ℕ → List ℕ → ℕ → Type 0
IsPosted boxes left n = ((k : ℕ) × (get_elem? boxes k ≡ some n)) ⊎ (has left n ≡ true)

-- the number is over all that waiting bundles of the ring cover
abbrev pub IsOverRing : LogState → ℕ → ℕ → Type 0
IsOverRing l t n = (w : Waiting) → Contains l.waiting w → w.ring ≡ t → w.redo.last < n

-- who may have drawn a number: a view's thread, and its open number or 0
pub record Drawer : Type 0 where
  pub thread : Option ℕ
  pub number : ℕ

-- a view's thread, and its open number
abbrev pub drawer_of : View → Drawer
drawer_of v = record { thread = v.part.thread; number = v.tx.hand.number }

-- A waiting bundle covers posted numbers alone, all over the opening one, and has for each word that these wrote their last write, and
-- no other
pub record WaitsWith (z : Setup) (hist : History) (boxes left : List ℕ) (w : Waiting) : Type 0 where
  pub over : z.first < first_of w.redo
  pub posted : (n : ℕ) → Covers w.redo n → IsPosted boxes left n
  pub writes : (i : ℕ) → written w.redo.writes i ≡ last_write hist (first_of w.redo) w.redo.span i

-- Home words are the values at the mark, up to which all numbers are posted; each waiting bundle has its numbers' writes; a record that
-- left its box is on the medium; a number in a box is on the medium, or over all that wait in its thread's ring; so is one that a view drew
pub record LogStands (z : Setup) (hist : History) (boxes left : List ℕ) (drawers : List Drawer) (l : LogState) : Type 0 where
  pub from : z.first ≤ l.reproduced
  pub home : (i : ℕ) → i < z.pages * PAGE → slice_index l.home i ≡ value z.opening hist l.reproduced i
  pub marked : (n : ℕ) → z.first < n → n ≤ l.reproduced → IsPosted boxes left n
  pub waits : (w : Waiting) → Contains l.waiting w → WaitsWith z hist boxes left w
  pub left_on : (n : ℕ) → has left n ≡ true → IsOnMedium l n
  pub boxed : (t j n : ℕ) → t < z.threads → j < z.boxes → get_elem? boxes (box_of z t j) ≡ some n → 0 < n → IsOnMedium l n ⊎ IsOverRing l t n
  pub drawn : (i t : ℕ) (r : Drawer) → get_elem? drawers i ≡ some r → r.thread ≡ Some t → 0 < r.number → IsOverRing l t r.number

-- the log stands so to a state with its ghost
abbrev pub LogIn : Setup → Ghost → State → LogState → Type 0
LogIn z g c l = LogStands z g.claims.hist c.boxes (numbers_of c.persisted) (map drawer_of c.views) l
