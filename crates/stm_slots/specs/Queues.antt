-- The full boxes of each thread are a queue: they begin at the place that is emptied next, and their numbers rise.
use Rattle.std.specs.Prelude.{◌≡◌, ℕ, ◌+◌, ◌-◌, ◌*◌, ◌<◌, ◌≤◌, List, Some, None, slice_index, length, ltb, if◌then◌else◌}
use mathlib.Core.Option.{some}
use lib.ListN.{get_elem?}
use Rattle.core_events.specs.Setups.{Setup, box_of}
use Rattle.stm_slots.specs.Stage.{Owner, Stage}

-- the number of the back's slot: it stands behind those of the boxes
abbrev pub back_slot : Setup → ℕ
back_slot z = z.threads * z.boxes

-- the place so far behind another, round the boxes; no farther than once round
abbrev pub place_at : Setup → ℕ → ℕ → ℕ
place_at z place i = if ltb (place + i) z.boxes then (place + i) else (place + i - z.boxes)

-- the word of a thread's box so far behind a place
abbrev pub word_at : Setup → List ℕ → ℕ → ℕ → ℕ → ℕ
word_at z boxes thread place i = slice_index boxes (box_of z thread (place_at z place i))

-- The full boxes of a thread begin at this place, and are so many; their numbers rise
pub record IsQueue (z : Setup) (boxes : List ℕ) (thread place count : ℕ) : Type 0 where
  pub few : count ≤ z.boxes
  pub start : place < z.boxes
  pub full : (i : ℕ) → i < count → 0 < word_at z boxes thread place i
  pub free : (i : ℕ) → count ≤ i → i < z.boxes → word_at z boxes thread place i ≡ 0
  pub rising : (i j : ℕ) → i < j → j < count → word_at z boxes thread place i < word_at z boxes thread place j

-- The next box of a view is the one behind the queue of its thread; its open number is over those in the queue
pub record OwnsQueue (z : Setup) (boxes next : List ℕ) (count : ℕ → ℕ) (o : Owner) : Type 0 where
  pub behind : (t : ℕ) → o.thread ≡ Some t → o.next ≡ place_at z (slice_index next t) (count t)
  pub over : (t i : ℕ) → o.thread ≡ Some t → 0 < o.number → i < count t → word_at z boxes t (slice_index next t) i < o.number
  pub newcomer : o.thread ≡ None → o.next ≡ 0

-- Each thread has its queue, whose front is the place that is emptied next; a thread that nobody has yet has an empty one
pub record Queued (z : Setup) (s : Stage) (next : List ℕ) (count : ℕ → ℕ) : Type 0 where
  pub wide : z.threads ≤ length next
  pub each : (t : ℕ) → t < z.threads → IsQueue z s.boxes t (slice_index next t) (count t)
  pub owners : (j : ℕ) (o : Owner) → get_elem? s.owners j ≡ some o → OwnsQueue z s.boxes next count o
  pub unused : (t : ℕ) → s.threads ≤ t → (slice_index next t ≡ 0) × (count t ≡ 0)
