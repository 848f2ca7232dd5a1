-- The kept state, the lowest layer: threads' numbers are in one view each, and they are counted.
use Rattle.std.specs.Prelude.{◌≡◌, ◌≢◌, ℕ, ◌+◌, ◌-◌, ◌<◌, ◌⊎◌, true, List, length, Some, if◌then◌else◌}
use mathlib.Core.Option.{some}
use lib.ListN.{get_elem?}
use Rattle.core_events.specs.Keyed.{has, one_if, total, Distinct}
use Rattle.core_events.specs.Views.{Part, View}

-- whose view it is, which threads ended in it, and how often it may still be split
abbrev pub part_of : View → Part
part_of v = v.part

-- the numbers that a view has, its own and ended ones
abbrev pub held_of : Part → ℕ
held_of p = one_if p.thread + length p.ended

-- 1 for a live view without a number
abbrev pub waiting_of : Part → ℕ
waiting_of p = if p.is_spent then 0 else (1 - one_if p.thread)

-- how often a view may still be split
abbrev pub splits_of : Part → ℕ
splits_of p = p.splits

-- Each number below the threads word is in exactly one view, as its own or as an ended one, and no other number is;
-- the threads word, the live views without a number and the splits left are together `most`
pub record ThreadsCounted (most : ℕ) (thread home : ℕ → ℕ) (threads : ℕ) (parts : List Part) : Type 0 where
  pub mine : (j t : ℕ) (p : Part) → get_elem? parts j ≡ some p → p.thread ≡ Some t → (thread j ≡ t) × (home t ≡ j) × (t < threads)
  pub gone : (j t : ℕ) (p : Part) → get_elem? parts j ≡ some p → has p.ended t ≡ true → (home t ≡ j) × (t < threads) × (p.thread ≢ Some t)
  pub once : (j : ℕ) (p : Part) → get_elem? parts j ≡ some p → Distinct p.ended
  pub there : (t : ℕ) → t < threads → (p : Part) × (get_elem? parts (home t) ≡ some p) × ((p.thread ≡ Some t) ⊎ (has p.ended t ≡ true))
  pub held : total held_of parts ≡ threads
  pub counted : threads + (total waiting_of parts + total splits_of parts) ≡ most
