-- Records that are in the log and wait for the home to have their writes.
use Rattle.std.specs.Prelude.{nat_lt, ◌≡◌, ◌≢◌, ◌⊎◌, ℕ, ◌+◌, ◌<◌, ◌≤◌, List, [], ◌∷◌, ◌++◌, All}
use Rattle.std.specs.List.{Contains, filter}
use Rattle.dude_base.specs.Records.{RedoBundle, first_of, Covers}
use Rattle.redo_record.specs.Recovery.{AreConsecutive, overwritten_by_all}

-- A record that waits: the ring that it stands in, and what it holds.
pub record Waiting : Type 0 where
  pub ring : ℕ
  pub redo : RedoBundle

-- the record waits, in some ring
pub record Waits (waiting : List Waiting) (r : RedoBundle) : Type 0 where
  pub ring : ℕ
  pub is_one : Contains waiting (record { ring = ring; redo = r })

-- These records wait, and lead from one number to another.
pub record Lead (waiting : List Waiting) (from : ℕ) (records : List RedoBundle) (to : ℕ) : Type 0 where
  pub wait : All (Waits waiting) records
  pub consecutive : AreConsecutive from records to

-- Waiting records lead from one number to this one, and none begins behind it.
pub record IsContiguousEnd (waiting : List Waiting) (from number : ℕ) : Type 0 where
  pub records : List RedoBundle
  pub lead : Lead waiting from records number
  pub greatest : (w : Waiting) → Contains waiting w → first_of w.redo ≢ number + 1

-- The array at a number: waiting records lead from one number to it, and the array is the home, overwritten by the writes
-- of these records in their order.
pub record IsArrayAt (waiting : List Waiting) (from : ℕ) (home : List ℕ) (number : ℕ) (array : List ℕ) : Type 0 where
  pub records : List RedoBundle
  pub lead : Lead waiting from records number
  pub result : array ≡ overwritten_by_all records home

-- no two waiting bundles cover one number
abbrev pub AreDisjoint : List Waiting → Type 0
AreDisjoint waiting = (v w : Waiting) (number : ℕ) → Contains waiting v → Contains waiting w → Covers v.redo number → Covers w.redo number → v ≡ w

-- An end: waiting bundles lead from one number to this one.
pub record IsEnd (waiting : List Waiting) (from number : ℕ) : Type 0 where
  pub records : List RedoBundle
  pub lead : Lead waiting from records number

-- The new list has just the old one's records and this one.
pub record AddsWaiting (w : Waiting) (old new : List Waiting) : Type 0 where
  pub one : Contains new w
  pub others : (v : Waiting) → Contains old v → Contains new v
  pub only : (v : Waiting) → Contains new v → Contains old v ⊎ (v ≡ w)

-- The new list has just the old one's records over this number.
pub record KeepsOver (number : ℕ) (old new : List Waiting) : Type 0 where
  pub kept : (w : Waiting) → Contains old w → number < w.redo.last → Contains new w
  pub only : (w : Waiting) → Contains new w → Contains old w × (number < w.redo.last)

-- Bundles lead on by the next one. Where no two of them cover one number, there is one contiguous end, and one array at each
-- end up to it, the home at first. A list that leads from one number to another covers each number on its way, and each other
-- bundle begins behind it; none covers the number behind the contiguous end. With one bundle more the end is no less, and the
-- arrays stay.
pub record LawOfWaiting : Type 0 where
  pub here : (waiting : List Waiting) (from : ℕ) → Lead waiting from [] from
  pub next : (waiting : List Waiting) (from to : ℕ) (records : List RedoBundle) (r : RedoBundle)
      → Lead waiting from records to → Waits waiting r → first_of r ≡ to + 1 → Lead waiting from (records ++ r ∷ []) r.last
  pub some_end : (waiting : List Waiting) (from : ℕ) → (number : ℕ) × IsContiguousEnd waiting from number
  pub one_end : (waiting : List Waiting) (from a b : ℕ) → AreDisjoint waiting → IsContiguousEnd waiting from a → IsContiguousEnd waiting from b → a ≡ b
  pub one_array : (waiting : List Waiting) (from number : ℕ) (home a b : List ℕ) → AreDisjoint waiting
      → IsArrayAt waiting from home number a → IsArrayAt waiting from home number b → a ≡ b
  pub at_home : (waiting : List Waiting) (from : ℕ) (home : List ℕ) → IsArrayAt waiting from home from home
  pub arrays : (waiting : List Waiting) (from number : ℕ) (home : List ℕ) → IsEnd waiting from number
      → (array : List ℕ) × IsArrayAt waiting from home number array
  pub covered : (waiting : List Waiting) (from to number : ℕ) (records : List RedoBundle) → Lead waiting from records to → from < number → number ≤ to
      → (w : Waiting) × Contains waiting w × Covers w.redo number × (w.redo.last ≤ to)
  pub beside : (waiting : List Waiting) (from to : ℕ) (records : List RedoBundle) (w : Waiting) → AreDisjoint waiting → Lead waiting from records to
      → Contains waiting w → from < first_of w.redo → (to < first_of w.redo) ⊎ (w.redo.last ≤ to)
  pub uncovered : (waiting : List Waiting) (from number : ℕ) (w : Waiting) → AreDisjoint waiting → IsContiguousEnd waiting from number
      → Contains waiting w → from < first_of w.redo → Covers w.redo (number + 1) → ⊥
  pub filtered : (waiting : List Waiting) (number : ℕ) → KeepsOver number waiting (filter (λ w. nat_lt number w.redo.last) waiting)
  pub within : (waiting : List Waiting) (from end number : ℕ) (home array : List ℕ) → AreDisjoint waiting → IsContiguousEnd waiting from end → IsArrayAt waiting from home number array
      → (from ≤ number) × (number ≤ end)
  pub added_end : (w : Waiting) (old new : List Waiting) (from a b : ℕ) → AreDisjoint new → AddsWaiting w old new → IsContiguousEnd old from a → IsContiguousEnd new from b → a ≤ b
  pub added_arrays : (w : Waiting) (old new : List Waiting) (from number : ℕ) (home array : List ℕ) → AddsWaiting w old new
      → IsArrayAt old from home number array → IsArrayAt new from home number array
