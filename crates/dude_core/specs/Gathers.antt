-- Which records in boxes are persisted together by a call on the medium.
use Rattle.std.specs.Prelude.{◌≡◌, ℕ, Bool, ◌<◌, ◌≤◌, List, Option, Some, None, slice_index}
use Rattle.dude_base.specs.Joins.{CanJoin}
use Rattle.dude_base.specs.Records.{RedoBundle, with_next}
use Rattle.pmem_trait.specs.declared.call.Call.{Call}
use Rattle.core_events.specs.Setups.{Setup, box_of}
use Rattle.core_events.specs.Words.{State}
use Rattle.core_medium.specs.BoxBundles.{boxed, IsUnpersisted, bundle_in}
use Rattle.core_medium.specs.BackCalls.{MayPersist}
use Rattle.dude_core.specs.CallFits.{IsFront, IsApart}
use Rattle.dude_core.specs.NextCalls.{bundle_calls, GathersOn, GathersNone}
use Rattle.dude_core.specs.StoreData.{StoreData, log_of}

-- the number in a box of a thread
abbrev pub number_in : Setup → State → ℕ → ℕ → ℕ
number_in z c t j = slice_index c.boxes (box_of z t j)

-- of the thread's first k boxes this one is full, with the least number; or none is full
abbrev pub IsLeastOf : Setup → State → ℕ → ℕ → Option ℕ → Type 0
IsLeastOf z c t k None = (i : ℕ) → i < k → number_in z c t i ≡ 0
IsLeastOf z c t k (Some j) = (j < k) × (0 < number_in z c t j) × ((i : ℕ) → i < k → 0 < number_in z c t i → number_in z c t j ≤ number_in z c t i)

-- the box is full, and has a lower number than the other one, if there is one
abbrev pub IsLower : Setup → State → ℕ → ℕ → Option ℕ → Type 0
IsLower z c t i None = 0 < number_in z c t i
IsLower z c t i (Some j) = (0 < number_in z c t i) × (number_in z c t i < number_in z c t j)

-- the records of boxes that aren't on the medium, which the bundle takes
pub record Joins (z : Setup) (c : State) (a : StoreData) (b : RedoBundle) (p : ℕ × ℕ) : Type 0 where
  pub unpersisted : IsUnpersisted z c.boxes (log_of a) p.0 p.1
  pub can : CanJoin b (boxed z c.records p.0 p.1)

-- the result is the bundle with the record of one box more
pub record IsLonger (z : Setup) (c : State) (a : StoreData) (b result : RedoBundle) : Type 0 where
  pub box : ℕ × ℕ
  pub joins : Joins z c a b box
  pub result_is : result ≡ with_next b (boxed z c.records box.0 box.1)

-- the call goes on with what appends the bundle of records in boxes to the ring
abbrev pub Gathers : Setup → State → StoreData → Call → ℕ → RedoBundle → RedoBundle → Bool → Type 0
Gathers z c a call ring b result ends = GathersOn z c.boxes c.records a call ring b result ends

-- there are no such records of boxes
abbrev pub GathersNo : Setup → State → StoreData → Call → ℕ → RedoBundle → Type 0
GathersNo z c a call ring b = GathersNone z c.boxes c.records a call ring b

-- a bundle of records in boxes may be persisted into the ring of the thread, and the call goes on with that
pub record Persists (z : Setup) (c : State) (a : StoreData) (call : Call) (t : ℕ) (b : RedoBundle) (ends : Bool) : Type 0 where
  pub place : ℕ
  pub more : List (ℕ × ℕ)
  pub may : MayPersist z c.boxes c.records (log_of a) t place more
  pub bundle_is : b ≡ bundle_in z c.records t place more
  pub front : IsFront (bundle_calls a t b) a.calls call ends

-- the call goes on with no persist into the ring of the thread
abbrev pub PersistsNone : Setup → State → StoreData → Call → ℕ → Type 0
PersistsNone z c a call t = (j : ℕ) (more : List (ℕ × ℕ)) → MayPersist z c.boxes c.records (log_of a) t j more → IsApart (bundle_calls a t (bundle_in z c.records t j more)) a.calls call
