-- Packets that are applied to the back of a store, one after another: each is persisted, announced and reproduced by itself.
use Rattle.std.specs.Prelude.{◌≡◌, ℕ, ◌+◌, Bool, true, false, not, IsTrue, List, [], ◌∷◌, ◌++◌, map}
use Rattle.std.specs.List.{Contains}
use Rattle.dude_base.specs.declared.sizes.Sizes.{Sizes}
use Rattle.dude_base.specs.Records.{RedoBundle, first_of, overwritten_by_all}
use Rattle.pmem_trait.specs.declared.call.Call.{Call}
use Rattle.pmem_trait.specs.Words.{AtLeast}
use Rattle.pmem_trait.specs.Sights.{AtEveryMoment, CallsMade, Extends, Risen, Sight, SomeCalls, state_now}
use Rattle.redo_record.specs.BackCalls.{announce_calls}
use Rattle.redo_record.specs.Images.{sizes_of}
use Rattle.redo_record.specs.Recovery.{AreConsecutive, Recovers}
use Rattle.redo_record.specs.Waiting.{Waiting}
use Rattle.back_store.specs.Backlog.{IsLawful}
use Rattle.back_store.specs.Answers.{announced, reproduced}
use Rattle.back_store.specs.Back.{BackState, home_now, waiting_now}
use Rattle.back_store.specs.Images.{HoldsStore}
use Rattle.back_store.specs.Operations.{BroughtHomeBy, Makes, PersistedBy}
use Rattle.log_numbered.specs.Backs.{LeadsUpTo}
use Rattle.log_numbered.specs.LogCalls.{SettledBy, settled}

-- ---- a back

-- Nothing waits in the back, which isn't dead, and all up to the reproduced number is durable.
pub record IsAtRest (v : BackState) : Type 0 where
  pub alive : v.dead ≡ false
  pub lawful : IsLawful v.log
  pub durable : v.log.durable ≡ v.log.reproduced
  pub none_waits : (w : Waiting) → Contains (waiting_now v) w → ⊥

-- In the back, which isn't dead, this packet alone waits; it begins behind the reproduced number.
pub record WaitsAlone (b : RedoBundle) (v : BackState) : Type 0 where
  pub leads : LeadsUpTo v b.last
  pub first : first_of b ≡ v.log.reproduced + 1
  pub only : (w : Waiting) → Contains (waiting_now v) w → w.redo ≡ b

-- Where the medium is visible, it is as the back left it, and this array is its home; and no number over the durable one was
-- told behind the first `before` ones.
pub record HoldsArray (before : ℕ) (v : BackState) (array : List ℕ) (s : Sight) : Type 0 where
  pub keeps : HoldsStore before v s
  pub home : IsTrue s.is_visible → home_now v.log.sizes s ≡ array

-- ---- images

-- The image recovers to the number that the first ones of these packets lead to, and to the array overwritten by those; and
-- nothing greater was told behind the first `before` numbers.
pub record RecoversAlong (sizes : Sizes) (from : ℕ) (packets : List RedoBundle) (array : List ℕ) (before : ℕ) (told image : List ℕ) : Type 0 where
  pub front : List RedoBundle
  pub rest : List RedoBundle
  pub split : packets ≡ front ++ rest
  pub number : ℕ
  pub lead : AreConsecutive from front number
  pub recovered : Recovers image number (overwritten_by_all front array)
  pub same_sizes : sizes_of image ≡ sizes
  pub floor : AtLeast before told number

-- at every moment every image recovers to what the first ones of these packets lead to, from the back's number and its home
abbrev pub RecoversThrough : List RedoBundle → BackState → Sight → Sight → Type 0
RecoversThrough packets v s t = (before : ℕ) (array : List ℕ) → HoldsArray before v array s
    → AtEveryMoment (RecoversAlong v.log.sizes v.log.reproduced packets array before) s t

-- ---- what calls leave

-- What a call leaves, whether it went well or not: the medium's length, and the sizes. Where it failed, just the last call on
-- the medium did, the count of faults rose, and the back is dead.
pub record GoesOn (ok : Bool) (v : BackState) (s : Sight) (w : BackState) (t : Sight) : Type 0 where
  pub later : Extends s t
  pub sizes : w.log.sizes ≡ v.log.sizes
  pub ran : SomeCalls ok s t
  pub cause : ok ≡ false → Risen s.faults t.faults
  pub dead : w.dead ≡ not ok

-- where the medium held an array, it holds the one that is overwritten by these packets
abbrev pub Overwrites : List RedoBundle → BackState → Sight → BackState → Sight → Type 0
Overwrites packets v s w t = (before : ℕ) (array : List ℕ) → HoldsArray before v array s
    → HoldsArray before w (overwritten_by_all packets array) t

-- these numbers were told, where the medium is visible
abbrev pub Tells : List ℕ → Sight → Sight → Type 0
Tells numbers s t = IsTrue s.is_visible → (state_now t).told ≡ (state_now s).told ++ numbers

-- By these calls packets are applied, each before the next: it is persisted in the first ring, its last number is announced,
-- and all is reproduced.
pub data AppliedBy : List RedoBundle → BackState → BackState → List Call → Type 0 where
  none : {v : BackState} → AppliedBy [] v v []
  next : {b : RedoBundle} {packets : List RedoBundle} {v w u : BackState} (persisting settling calls : List Call)
      → PersistedBy 0 b v w persisting → SettledBy w b.last settling → AppliedBy packets (settled w b.last) u calls
      → AppliedBy (b ∷ packets) v u (persisting ++ settling ++ calls)

-- These packets were applied, one after another.
pub record Applies (packets : List RedoBundle) (v : BackState) (s : Sight) (w : BackState) (t : Sight) : Type 0 where
  -- they lead from the number before to the number behind
  pub lead : AreConsecutive v.log.reproduced packets w.log.reproduced
  -- the array is overwritten by them
  pub overwrites : Overwrites packets v s w t
  -- just their last numbers were told, in order
  pub told : Tells (map (λ b. b.last) packets) s t
  -- just the calls for that were made
  pub calls : Makes (AppliedBy packets v w) s t

-- ---- the three steps of one

-- The packet was persisted, and waits alone.
pub record PersistsAlone (b : RedoBundle) (v : BackState) (s : Sight) (w : BackState) (t : Sight) : Type 0 where
  pub waits : WaitsAlone b w
  pub number : w.log.reproduced ≡ v.log.reproduced
  pub overwrites : Overwrites [] v s w t
  pub told : Tells [] s t
  pub calls : Makes (PersistedBy 0 b v w) s t

-- Its last number was announced.
pub record AnnouncesAlone (b : RedoBundle) (v : BackState) (s : Sight) (w : BackState) (t : Sight) : Type 0 where
  pub back : w ≡ announced v b.last
  pub overwrites : Overwrites [] v s w t
  pub told : Tells (b.last ∷ []) s t
  pub calls : CallsMade (announce_calls b.last) true s t

-- It was reproduced.
pub record ReproducesAlone (b : RedoBundle) (v : BackState) (s : Sight) (w : BackState) (t : Sight) : Type 0 where
  pub back : w ≡ reproduced v b.last
  pub rests : IsAtRest w
  pub number : w.log.reproduced ≡ b.last
  pub overwrites : Overwrites (b ∷ []) v s w t
  pub told : Tells [] s t
  pub calls : Makes (BroughtHomeBy v b.last) s t
