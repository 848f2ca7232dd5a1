-- What contracts see of a `Back`, and what its calls promise.
use Rattle.std.specs.Prelude.{◌≡◌, ◌⊎◌, ◌↔◌, ℕ, ◌+◌, ◌*◌, ◌<◌, List, [], ◌∷◌, ◌++◌, Result, false, is_ok, slice_index, true}
use Rattle.std.specs.Prelude.{IsTrue, IfErr, IfOk, IsErrOf, IsOk, OnOk}
use Rattle.dude_base.specs.declared.limits.TheConstants.{PAGE}
use Rattle.dude_base.specs.Records.{RedoBundle}
use Rattle.pmem_trait.specs.declared.medium.Medium.{Ghosts}
use Rattle.pmem_trait.specs.Sights.{Sight, state_now, Risen}
use Rattle.redo_record.specs.BackCalls.{read_page_calls}
use Rattle.back_store.specs.declared.back.Back.{Back}
use Rattle.back_store.specs.Back.{BackState, IsPersistFault, IsRingFull, home_now, ring_full}
use Rattle.back_store.specs.Answers.{Announces, CallsAnswered, ReproducesUnlessDead, persist_calls}
use Rattle.back_store.specs.Images.{HasReproduced, HomeStays, StillHoldsStore, RecoversOnTheWay}
use Rattle.back_store.specs.Told.{WereTold}
use Rattle.back_store.specs.declared.back_fault.BackFault.{BackFault}
use Rattle.back_store.specs.declared.back_fault.BackFault.TheVariants.{Device, Dead}

-- the medium of a back
abbrev pub medium_of : {M : Type 0} {ghosts : Ghosts M} → Back M ghosts → M
medium_of b = b.medium

-- what clauses see of the medium of a back
abbrev pub sight_of : {M : Type 0} {ghosts : Ghosts M} → Back M ghosts → Sight
sight_of {M} {ghosts} b = ghosts.sight b.medium

-- a back without its medium
abbrev pub state_of : {M : Type 0} {ghosts : Ghosts M} → Back M ghosts → BackState
state_of b = record { log = b.log; dead = b.dead }

-- ---- the calls on the medium

-- the bundle was put in this ring by exactly the calls for that; or as CallsAnswered says
abbrev pub PersistsBy : {M : Type 0} {ghosts : Ghosts M} → ℕ → RedoBundle → Result (Unit {0}) BackFault
    → Back M ghosts → Back M ghosts → Type 0
PersistsBy ring b result old new = CallsAnswered result (persist_calls (state_of old) ring b) (sight_of old) (sight_of new)

-- the end was announced
abbrev pub AnnouncesEnd : {M : Type 0} {ghosts : Ghosts M} → Result ℕ BackFault → Back M ghosts → Back M ghosts
    → Type 0
AnnouncesEnd result old new = Announces (state_of old) result (sight_of old) (sight_of new)

-- the bundles up to where a reproduction of at most so many numbers stops were reproduced; a dead back makes no call
abbrev pub ReproducesNext : {M : Type 0} {ghosts : Ghosts M} → ℕ → Result ℕ BackFault → Back M ghosts → Back M ghosts → Type 0
ReproducesNext most result old new = ReproducesUnlessDead (state_of old) most result (sight_of old) (sight_of new)

-- The words of a page of the home are read in order.
pub record ReadsPage {M : Type 0} {ghosts : Ghosts M} (page : ℕ) (result : Result (Unit {0}) BackFault) (old new : Back M ghosts)
    (into : List ℕ) : Type 0 where
  -- exactly they are read
  pub made : CallsAnswered result (read_page_calls (state_of old).log.sizes page) (sight_of old) (sight_of new)
  -- at Ok, where the medium is visible, they are those of the home
  pub words : OnOk result (IsTrue (sight_of old).is_visible → (i : ℕ) → i < PAGE
      → slice_index into i ≡ slice_index (home_now (state_of old).log.sizes (sight_of old)) (page * PAGE + i))

-- What an announcement tells, where the medium is visible.
pub record TellsEnd {M : Type 0} {ghosts : Ghosts M} (result : Result ℕ BackFault) (old new : Back M ghosts) : Type 0 where
  -- at Ok the answer alone
  pub answer : IfOk result (λ number. IsTrue (sight_of old).is_visible
      → (state_now (sight_of new)).told ≡ (state_now (sight_of old)).told ++ number ∷ [])
  -- so the last number told is the durable one, or at a fault no less
  pub told : IsTrue (sight_of old).is_visible → WereTold (is_ok result) (state_of old).log.durable (state_of new).log.durable
      (state_now (sight_of old)).told (state_now (sight_of new)).told

-- ---- faults

-- Which fault a call answers.
pub record HasCause {M X : Type 0} {ghosts : Ghosts M} (result : Result X BackFault) (old new : Back M ghosts) : Type 0 where
  -- Dead exactly where an earlier call answered Device
  pub dead : IsErrOf result Dead ↔ ((state_of old).dead ≡ true)
  -- Device only where the medium's count of faults rose in this call
  pub device : IsErrOf result Device → Risen (sight_of old).faults (sight_of new).faults
  -- and no other
  pub only : IfErr result (λ fault. (fault ≡ Device) ⊎ (fault ≡ Dead))
  -- where the back isn't dead and the count didn't rise, the call succeeds
  pub succeeds : (state_of old).dead ≡ false → (Risen (sight_of old).faults (sight_of new).faults → ⊥) → IsOk result

-- Which fault a persist of this bundle in this ring answers.
pub record HasPersistCause {M : Type 0} {ghosts : Ghosts M} (ring : ℕ) (b : RedoBundle) (result : Result (Unit {0}) BackFault)
    (old new : Back M ghosts) : Type 0 where
  -- RingFull, with both counts of cells, exactly where the ring has no room and the back isn't dead
  pub full : IsErrOf result (ring_full (state_of old) ring b)
      ↔ ((state_of old).dead ≡ false) × IsRingFull (state_of old) ring b
  -- Dead exactly where an earlier call answered Device
  pub dead : IsErrOf result Dead ↔ ((state_of old).dead ≡ true)
  -- Device only where the medium's count of faults rose in this call
  pub device : IsErrOf result Device → Risen (sight_of old).faults (sight_of new).faults
  -- and no other
  pub only : IfErr result (IsPersistFault (state_of old) ring b)
  -- where the back isn't dead and the count didn't rise, the call succeeds, or the ring has no room
  pub succeeds : (state_of old).dead ≡ false → (Risen (sight_of old).faults (sight_of new).faults → ⊥)
      → IsOk result ⊎ IsErrOf result (ring_full (state_of old) ring b)

-- ---- images

-- A crash at any moment of a call that is to come to this back is recovered from, and so is one behind it.
pub record IsCrashSafe {M : Type 0} {ghosts : Ghosts M} (aim : BackState) (old new : Back M ghosts) : Type 0 where
  -- at each moment every image recovers to a number from the end before the call to the end of that back, and to its array
  pub moments : RecoversOnTheWay (state_of old) aim (sight_of old) (sight_of new)
  -- where the medium was as the back left it, it is so behind the call
  pub keeps : StillHoldsStore (state_of old) (state_of new) (sight_of old) (sight_of new)

-- at Ok the home is as it was
abbrev pub LeavesHome : {M X : Type 0} {ghosts : Ghosts M} → Result X BackFault → Back M ghosts → Back M ghosts → Type 0
LeavesHome result old new = OnOk result (HomeStays (state_of old) (sight_of old) (sight_of new))

-- at Ok the home is the array at the answer, at which the mark is settled, and the arrays from there on stay
abbrev pub RaisesHome : {M : Type 0} {ghosts : Ghosts M} → Result ℕ BackFault → Back M ghosts → Back M ghosts → Type 0
RaisesHome result old new =
    IfOk result (λ number. HasReproduced (state_of old) (state_of new) number (sight_of old) (sight_of new))
