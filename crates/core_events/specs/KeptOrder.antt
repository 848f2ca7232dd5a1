-- The kept state, the layer of order: the numbers in the boxes of a thread rise, and the open one of its view is over them.
use Rattle.std.specs.Prelude.{◌≡◌, ℕ, ◌<◌, ◌≤◌, ◌⊎◌, List, Option, Some, None, slice_index}
use mathlib.Core.Option.{some}
use lib.ListN.{get_elem?}
use Rattle.core_events.specs.Setups.{Setup, box_of}
use Rattle.core_events.specs.Views.{View}
use Rattle.core_events.specs.Words.{State}
use Rattle.core_events.specs.Ghosts.{Ghost}

-- on the way round the boxes, from the place `next` to the one before it, i comes before j
abbrev pub ComesBefore : ℕ → ℕ → ℕ → Type 0
ComesBefore next i j = ((next ≤ i) × ((i < j) ⊎ (j < next))) ⊎ ((i < j) × (j < next))

-- Round the boxes of a thread, from its next place to the one before it, the numbers of full boxes rise: the first full one has the least
pub record BoxOrder (z : Setup) (boxes : List ℕ) (t next : ℕ) : Type 0 where
  pub rising : (i j : ℕ) → i < z.boxes → j < z.boxes → ComesBefore next i j → 0 < slice_index boxes (box_of z t i) → 0 < slice_index boxes (box_of z t j)
      → slice_index boxes (box_of z t i) < slice_index boxes (box_of z t j)

-- A view is at the next place of its thread, or at the first one where it has no thread's number. Its open number is over all numbers in
-- its thread's boxes
pub record KnowsOrder (z : Setup) (next : ℕ → ℕ) (boxes : List ℕ) (thread : Option ℕ) (place number : ℕ) : Type 0 where
  pub at_place : (t : ℕ) → thread ≡ Some t → place ≡ next t
  pub at_first : thread ≡ None → place ≡ 0
  pub over : (t j : ℕ) → thread ≡ Some t → j < z.boxes → 0 < number → slice_index boxes (box_of z t j) < number

-- what a view knows of the order in its boxes
abbrev pub KnowsOrderOf : Setup → (ℕ → ℕ) → List ℕ → View → Type 0
KnowsOrderOf z next boxes v = KnowsOrder z next boxes v.part.thread v.box.next v.tx.hand.number

-- The layer of order: the numbers in each thread's boxes rise, and each view knows its own.
pub record OrderKept (z : Setup) (g : Ghost) (c : State) : Type 0 where
  pub rises : (t : ℕ) → BoxOrder z c.boxes t (g.next t)
  -- (to be inductive) a thread whose number wasn't drawn is at the first place
  pub unborn : (t : ℕ) → c.threads ≤ t → g.next t ≡ 0
  pub each : (j : ℕ) (v : View) → get_elem? c.views j ≡ some v → KnowsOrderOf z g.next c.boxes v
