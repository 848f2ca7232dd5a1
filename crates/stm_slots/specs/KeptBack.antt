-- What holds of the back whenever it is at home in its slot.
use Rattle.std.specs.Prelude.{◌≡◌, ◌≢◌, ◌⊎◌, ℕ, ◌+◌, ◌-◌, ◌<◌, ◌≤◌, not, true, false, IsTrue, List, length, slice_index, Some}
use Rattle.std.specs.List.{Contains}
use mathlib.Core.Option.{some}
use lib.ListN.{get_elem?}
use Rattle.dude_base.specs.declared.sizes.Sizes.{Sizes}
use Rattle.dude_base.specs.Records.{Covers, RedoBundle}
use Rattle.dude_base.specs.Records.{first_of}
use Rattle.dude_base.specs.Writes.{written}
use Rattle.pmem_trait.specs.Words.{AtLeast}
use Rattle.pmem_trait.specs.Sights.{Sight, state_now, SomeCalls, AtEveryMoment}
use Rattle.pmem_trait.specs.declared.medium.Medium.{Ghosts}
use Rattle.redo_record.specs.Images.{sizes_of}
use Rattle.redo_record.specs.Recovery.{Recovers}
use Rattle.redo_record.specs.Waiting.{Waiting}
use Rattle.back_store.specs.declared.back.Back.{Back}
use Rattle.back_store.specs.Back.{BackState, home_now, waiting_now, waiting_of_ring}
use Rattle.back_store.specs.BackView.{medium_of, state_of}
use Rattle.core_events.specs.Setups.{Setup, box_of}
use Rattle.core_events.specs.Views.{View}
use Rattle.core_events.specs.Words.{State}
use Rattle.core_events.specs.Entries.{value_at, writes_of, all_entries}
use Rattle.back_store.specs.Told.{WereTold}
use Rattle.stm_slots.specs.Known.{told_before}
use Rattle.stm_slots.specs.Records.{last_written}
use Rattle.stm_slots.specs.Opening.{setup_of, since_of, start_sight}
use Rattle.stm_slots.specs.declared.opening.Opening.{Opening}

-- the number is the open one of a view
abbrev pub InView : State → ℕ → Type 0
InView c n = (j : ℕ) × (v : View) × (get_elem? c.views j ≡ some v) × (v.tx.hand.number ≡ n)

-- the number is in a box
abbrev pub InBox : State → ℕ → Type 0
InBox c n = (k : ℕ) × (get_elem? c.boxes k ≡ some n)

-- what waits covers the number
abbrev pub IsWaiting : BackState → ℕ → Type 0
IsWaiting v n = (w : Waiting) × Contains (waiting_now v) w × Covers w.redo n

-- each word of the array is the value at the number
pub record IsArrayOf (z : Setup) (c : State) (n : ℕ) (array : List ℕ) : Type 0 where
  pub size : length array ≡ length z.opening
  pub words : (i : ℕ) → i < length z.opening → slice_index array i ≡ value_at z.opening (all_entries c.views) n i

-- The image recovers to the values at a number, up to which none is in a view, and which is at least each that was told behind the first ones
pub record RecoversTo (z : Setup) (c : State) (sizes : Sizes) (before : ℕ) (told image : List ℕ) : Type 0 where
  pub number : ℕ
  pub array : List ℕ
  pub recovered : Recovers image number array
  pub same_sizes : sizes_of image ≡ sizes
  pub array_is : IsArrayOf z c number array
  pub in_no_view : (n : ℕ) → z.first < n → n ≤ number → InView c n → ⊥
  pub from : z.first ≤ number
  pub upto : number ≤ c.clock
  pub floor : AtLeast before told number

-- Of a back that isn't dead: all up to its durable number is in its home; each number over that is in one view, in one box, or waits
pub record LiveBack (z : Setup) (c : State) (v : BackState) : Type 0 where
  pub reproduced : v.log.reproduced ≡ v.log.durable
  -- nothing that waits begins behind the durable number
  pub end : (w : Waiting) → Contains (waiting_now v) w → first_of w.redo ≢ v.log.durable + 1
  pub from : z.first ≤ v.log.durable
  pub upto : v.log.durable ≤ c.clock
  pub gone : (n : ℕ) → z.first < n → n ≤ v.log.durable → (InView c n → ⊥) × (InBox c n → ⊥) × (IsWaiting v n → ⊥)
  pub placed : (n : ℕ) → v.log.durable < n → n ≤ c.clock → InView c n ⊎ (InBox c n ⊎ IsWaiting v n)
  pub waits : (n : ℕ) → IsWaiting v n → (v.log.durable < n) × (n ≤ c.clock) × (InView c n → ⊥) × (InBox c n → ⊥)
  -- what waits has of each word the last write of the entries of its numbers
  pub writes : (w : Waiting) → Contains (waiting_now v) w → (i : ℕ)
      → written w.redo.writes i ≡ last_written (writes_of (all_entries c.views)) (first_of w.redo) (w.redo.last + 1 - first_of w.redo) i
  pub boxed : (t j n : ℕ) (q : RedoBundle) → t < z.threads → j < z.boxes → get_elem? c.boxes (box_of z t j) ≡ some n → 0 < n → Contains (waiting_of_ring v t) q → q.last < n
  pub opened : (j t : ℕ) (w : View) (q : RedoBundle) → get_elem? c.views j ≡ some w → w.part.thread ≡ Some t → 0 < w.tx.hand.number → Contains (waiting_of_ring v t) q → q.last < w.tx.hand.number

module _ {M : Type 0} {ghosts : Ghosts M} (sight : M → Sight) where
  -- The back is kept: what its medium gives at each moment, what it was told, and, where it isn't dead, what waits
  pub record KeptBack (o : Opening M ghosts) (c : State) (b : Back M ghosts) : Type 0 where
    -- at each moment since the start, every image
    pub images : AtEveryMoment (RecoversTo (setup_of sight o) c (state_of b).log.sizes (told_before (since_of sight o))) (start_sight sight o) (sight (medium_of b))
    -- the words of the numbers, and what views know of the durable one
    pub durable : c.durable ≤ (state_of b).log.durable
    pub reproduced : c.reproduced ≤ (state_of b).log.reproduced
    pub raised : (j : ℕ) (v : View) → get_elem? c.views j ≡ some v → v.turn.durable ≤ (state_of b).log.durable
    -- faults, and the number told last
    pub fault : (j : ℕ) (v : View) → get_elem? c.views j ≡ some v → v.turn.met_fault ≡ true → (state_of b).dead ≡ true
    pub ran : SomeCalls (not (state_of b).dead) (start_sight sight o) (sight (medium_of b))
    pub told : IsTrue (sight (medium_of b)).is_visible → WereTold (not (state_of b).dead) o.terms.first (state_of b).log.durable (state_now (start_sight sight o)).told (state_now (sight (medium_of b))).told
    pub live : (state_of b).dead ≡ false → LiveBack (setup_of sight o) c (state_of b)
    pub home : (state_of b).dead ≡ false → IsTrue (sight (medium_of b)).is_visible → IsArrayOf (setup_of sight o) c (state_of b).log.reproduced (home_now (state_of b).log.sizes (sight (medium_of b)))
