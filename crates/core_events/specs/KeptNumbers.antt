-- The kept state, the layer of numbers: where each drawn number is, and what the records have.
use Rattle.std.specs.Prelude.{◌≡◌, ℕ, ◌<◌, ◌≤◌, ◌⊎◌, true, List, [], length, map, All, Some}
use mathlib.Core.Option.{some}
use lib.ListN.{get_elem?}
use Rattle.dude_base.specs.Records.{RedoRecord}
use Rattle.core_events.specs.Setups.{Setup, box_of}
use Rattle.core_events.specs.Keyed.{has, Distinct}
use Rattle.core_events.specs.Views.{View}
use Rattle.core_events.specs.Words.{State}
use Rattle.core_events.specs.Entries.{History}
use Rattle.core_events.specs.Ghosts.{Place, in_view, in_box, behind_boxes, Ghost}

-- the number that a view drew and has not posted; 0 is none
abbrev pub number_of : View → ℕ
number_of v = v.tx.hand.number

-- the numbers of these records
abbrev pub numbers_of : List RedoRecord → List ℕ
numbers_of rs = map (λ r. r.number) rs

-- Each number over the opening one and up to the clock is the open one of exactly one view, or in exactly one box, or persisted once;
-- no other number is
pub record NumbersPlaced (first : ℕ) (place : ℕ → Place) (clock : ℕ) (numbers boxes persisted : List ℕ) : Type 0 where
  pub in_views : (n j : ℕ) → first < n → n ≤ clock → place n ≡ in_view j → get_elem? numbers j ≡ some n
  pub of_views : (n j : ℕ) → get_elem? numbers j ≡ some n → 0 < n → (place n ≡ in_view j) × (first < n) × (n ≤ clock)
  pub in_boxes : (n k : ℕ) → first < n → n ≤ clock → place n ≡ in_box k → get_elem? boxes k ≡ some n
  pub of_boxes : (n k : ℕ) → get_elem? boxes k ≡ some n → 0 < n → (place n ≡ in_box k) × (first < n) × (n ≤ clock)
  pub behind : (n : ℕ) → first < n → n ≤ clock → place n ≡ behind_boxes → has persisted n ≡ true
  pub of_persisted : (n : ℕ) → has persisted n ≡ true → (place n ≡ behind_boxes) × (first < n) × (n ≤ clock)
  pub once : Distinct persisted

-- A number in a box or persisted is decided or void, and its record has the writes of its entry, or none
pub record RecordsKept (hist pending : History) (boxes : List ℕ) (records persisted : List RedoRecord) : Type 0 where
  pub as_many : length records ≡ length boxes
  pub boxed : (n k : ℕ) → get_elem? boxes k ≡ some n → 0 < n → (get_elem? records k ≡ some (record { number = n; writes = hist n })) × (pending n ≡ [])
  pub kept : All (λ r. (r.writes ≡ hist r.number) × (pending r.number ≡ [])) persisted

-- A number that a view drew is its open one, or in a box of its thread, or persisted
pub record DrawnPlaced (z : Setup) (boxes persisted : List ℕ) (v : View) : Type 0 where
  pub each : (n : ℕ) → has v.drawn n ≡ true → (0 < n) × ((v.tx.hand.number ≡ n)
      ⊎ (((t j : ℕ) × (v.part.thread ≡ Some t) × (j < z.boxes) × (get_elem? boxes (box_of z t j) ≡ some n)) ⊎ (has persisted n ≡ true)))

-- The layer of numbers: each has one place, records have the writes of theirs, and what a view drew is where it may be.
pub record NumbersKept (z : Setup) (g : Ghost) (c : State) : Type 0 where
  pub placed : NumbersPlaced z.first g.place c.clock (map number_of c.views) c.boxes (numbers_of c.persisted)
  pub records : RecordsKept g.claims.hist g.claims.pending c.boxes c.records c.persisted
  pub drawn : (j : ℕ) (v : View) → get_elem? c.views j ≡ some v → DrawnPlaced z c.boxes (numbers_of c.persisted) v
