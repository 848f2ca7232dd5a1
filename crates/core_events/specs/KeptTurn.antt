-- The kept state, the layer of the turn and of boxes.
use Rattle.std.specs.Prelude.{◌≡◌, ℕ, ◌+◌, ◌*◌, ◌<◌, ◌≤◌, Bool, true, List, length, map, Option, Some, slice_index}
use mathlib.Core.Option.{some}
use lib.ListN.{get_elem?}
use Rattle.core_events.specs.Setups.{Setup, box_of}
use Rattle.core_events.specs.Keyed.{find}
use Rattle.core_events.specs.Views.{Boxes, View}
use Rattle.core_events.specs.Words.{State}

-- whose view it is, and whether it has the turn
pub record Holder : Type 0 where
  pub thread : Option ℕ
  pub has_it : Bool

-- a view's thread, and whether the view has the turn
abbrev pub holder_of : View → Holder
holder_of v = record { thread = v.part.thread; has_it = v.turn.has_it }

-- The turn word is t + 1 exactly where the view of thread t has the turn
pub record TurnHeld (turn : ℕ) (holders : List Holder) : Type 0 where
  pub holds : (j : ℕ) (h : Holder) → get_elem? holders j ≡ some h → h.has_it ≡ true → (t : ℕ) × (h.thread ≡ Some t) × (turn ≡ t + 1)
  pub held : 0 < turn → (j : ℕ) × (h : Holder) × (get_elem? holders j ≡ some h) × (h.has_it ≡ true)

-- The reproduced and the durable word are numbers from the opening one to the clock. What is beside the machine says more
pub record DurableOrdered (z : Setup) (c : State) : Type 0 where
  pub from : z.first ≤ c.reproduced
  pub ordered : c.reproduced ≤ c.clock
  pub durable_from : z.first ≤ c.durable
  pub drawn : c.durable ≤ c.clock

-- A box that a live view saw empty has the word 0; a view that drew a number saw its next box empty; the view with the turn keeps the
-- numbers that boxes have
pub record BoxesSeen (z : Setup) (boxes : List ℕ) (thread : Option ℕ) (number : ℕ) (box : Boxes) (has_it : Bool) (full : List (ℕ × ℕ)) : Type 0 where
  pub place : box.next < z.boxes
  pub empty : box.is_empty ≡ true → (t : ℕ) × (thread ≡ Some t) × (slice_index boxes (box_of z t box.next) ≡ 0)
  pub drawn : 0 < number → box.is_empty ≡ true
  pub full_with : has_it ≡ true → (k n : ℕ) → find full k ≡ Some n → (slice_index boxes k ≡ n) × (0 < n)

-- what a view knows of the turn
pub record KnowsTurn (z : Setup) (boxes : List ℕ) (durable : ℕ) (v : View) : Type 0 where
  pub seen : BoxesSeen z boxes v.part.thread v.tx.hand.number v.box v.turn.has_it v.turn.full
  pub raised : v.turn.durable ≤ durable

-- The layer of the turn and of boxes: the turn word shows who has the turn, the reproduced number is at most the
-- durable one, there are as many boxes as the setup says, and each view knows its boxes.
pub record TurnKept (z : Setup) (c : State) : Type 0 where
  pub turn : TurnHeld c.turn (map holder_of c.views)
  pub durable : DurableOrdered z c
  pub sized : length c.boxes ≡ z.threads * z.boxes
  pub some_box : 0 < z.boxes
  pub each : (j : ℕ) (v : View) → get_elem? c.views j ≡ some v → KnowsTurn z c.boxes c.durable v
