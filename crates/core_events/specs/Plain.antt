-- What the kept state says of the words and the views alone, with no ghost beside them.
use Rattle.std.specs.Prelude.{◌≡◌, ℕ, ◌+◌, ◌*◌, ◌<◌, ◌≤◌, ◌⊎◌, true, false, map, All, Some, slice_index}
use mathlib.Core.Option.{some}
use lib.ListN.{get_elem?}
use Rattle.dude_base.specs.declared.limits.TheConstants.{PAGE}
use Rattle.dude_base.specs.Writes.{written}
use Rattle.core_events.specs.Setups.{Setup, lock_of, page_of, cell_of, box_of, entry_with, ENTRY}
use Rattle.core_events.specs.Keyed.{has, total}
use Rattle.core_events.specs.Views.{View}
use Rattle.core_events.specs.Words.{State}
use Rattle.core_events.specs.Entries.{value_at, writes_of, all_entries}
use Rattle.core_events.specs.Conditions.{IsUndecided, Owns, Pins}
use Rattle.core_events.specs.KeptPages.{pins_of, pins_at}
use Rattle.core_events.specs.KeptOrder.{BoxOrder}

-- the view with this number
abbrev pub IsView : State → ℕ → View → Type 0
IsView c j v = get_elem? c.views j ≡ some v

-- The word 2 t + 1 shows that the view of thread t owns the lock, and only it does. No number over a version that shows wrote under the lock
pub record PlainLocks (z : Setup) (c : State) : Type 0 where
  pub owned : (k t : ℕ) → k < z.locks → slice_index c.locks k ≡ 2 * t + 1 → (j : ℕ) × (v : View) × IsView c j v × (v.part.thread ≡ Some t) × Owns v k
  pub shows : (k j : ℕ) (v : View) → IsView c j v → Owns v k → (t : ℕ) × (v.part.thread ≡ Some t) × (slice_index c.locks k ≡ 2 * t + 1)
  pub one_owner : (k i j : ℕ) (u v : View) → IsView c i u → IsView c j v → Owns u k → Owns v k → i ≡ j
  pub version : (k u : ℕ) → k < z.locks → slice_index c.locks k ≡ 2 * u → u ≤ c.clock
  pub none_over : (k u n i x : ℕ) → k < z.locks → slice_index c.locks k ≡ 2 * u → u < n → lock_of z i ≡ k → written (writes_of (all_entries c.views) n) i ≡ Some x → ⊥

-- A view with an undecided number owns the locks and pins the pages of all its writes
pub record PlainUndecided (z : Setup) (c : State) : Type 0 where
  pub owns : (j i x : ℕ) (v : View) → IsView c j v → IsUndecided v.tx.hand → written v.tx.hand.writes i ≡ Some x → Owns v (lock_of z i) × Pins v (page_of i)

-- An entry of 0 has no pin; another has as many as views pin the page. No two name one frame
pub record PlainPages (z : Setup) (c : State) : Type 0 where
  pub absent : (p j : ℕ) (v : View) → p < z.pages → slice_index c.entries p ≡ 0 → IsView c j v → Pins v p → ⊥
  pub counted : (p f pins : ℕ) → p < z.pages → pins < ENTRY → slice_index c.entries p ≡ entry_with f pins → (pins ≡ total (pins_at p) (map pins_of c.views)) × (f < z.frames)
  pub one_frame : (p q f i j : ℕ) → p < z.pages → q < z.pages → i < ENTRY → j < ENTRY → slice_index c.entries p ≡ entry_with f i → slice_index c.entries q ≡ entry_with f j → p ≡ q

-- A confirmed read is the value at the snapshot. A word of a page that is in a frame is the value at the clock, or it is written by the
-- owner of its lock, whose number is decided and who has still to store it
pub record PlainValues (z : Setup) (c : State) : Type 0 where
  pub reads : (j : ℕ) (v : View) → IsView c j v → v.tx.is_open ≡ true → All (λ r. r.1 ≡ value_at z.opening (all_entries c.views) v.tx.snapshot r.0) v.tx.reads
  pub shown : (i f pins : ℕ) → i < z.pages * PAGE → pins < ENTRY → slice_index c.entries (page_of i) ≡ entry_with f pins
      → (slice_index c.cells (cell_of f i) ≡ value_at z.opening (all_entries c.views) c.clock i)
      ⊎ ((j x : ℕ) × (v : View) × IsView c j v × Owns v (lock_of z i) × (v.tx.hand.decided ≡ true) × (written v.tx.hand.writes i ≡ Some x) × (has v.tx.hand.stored i ≡ false))

-- The turn word is t + 1 exactly where the view of thread t has the turn
pub record PlainTurn (c : State) : Type 0 where
  pub holds : (j : ℕ) (v : View) → IsView c j v → v.turn.has_it ≡ true → (t : ℕ) × (v.part.thread ≡ Some t) × (c.turn ≡ t + 1)
  pub held : (t : ℕ) → c.turn ≡ t + 1 → (j : ℕ) × (v : View) × IsView c j v × (v.part.thread ≡ Some t) × (v.turn.has_it ≡ true)

-- The open number of a view is over all numbers in its thread's boxes. These rise round the boxes, from some place to the one before it; while
-- a view has the thread's number, that place is its next box
pub record PlainOrder (z : Setup) (c : State) : Type 0 where
  pub over : (i t j : ℕ) (v : View) → IsView c i v → v.part.thread ≡ Some t → j < z.boxes → 0 < v.tx.hand.number → slice_index c.boxes (box_of z t j) < v.tx.hand.number
  pub rises : (t : ℕ) → (next : ℕ) × BoxOrder z c.boxes t next × ((i : ℕ) (v : View) → IsView c i v → v.part.thread ≡ Some t → v.box.next ≡ next)

-- What the kept state says with no ghost: of locks, undecided numbers, pages, the turn and the order in boxes, and of values
-- where it is known what the medium gives.
pub record IsPlain (z : Setup) (c : State) : Type 0 where
  pub locks : PlainLocks z c
  pub undecided : PlainUndecided z c
  pub pages : PlainPages z c
  pub turn : PlainTurn c
  pub order : PlainOrder z c
  pub values : z.is_told ≡ true → PlainValues z c
