-- Why a call of a back answers a fault.
use Rattle.std.proofs.Common.{◌≡◌, ◌⊎◌, ℕ, Bool, true, false, List, Result, Ok, Err, refl, sym, ap, ◌∙◌, inl, inr, ⊎_elim}
use Rattle.std.specs.Prelude.{◌↔◌, IfErr, IsErrOf, IsOk}
use Rattle.dude_base.specs.Records.{RedoBundle}
use Rattle.pmem_trait.specs.declared.call.Call.{Call}
use Rattle.pmem_trait.specs.declared.medium.Medium.{Ghosts}
use Rattle.back_store.specs.declared.back.Back.{Back}
use Rattle.back_store.specs.Back.{IsRingFull, ring_full}
use Rattle.back_store.specs.BackView.{HasCause, HasPersistCause, PersistsBy, sight_of, state_of}
use Rattle.back_store.specs.Answers.{CallsAnswered, persist_calls}
use Rattle.back_store.specs.declared.back_fault.BackFault.{BackFault}
use Rattle.back_store.specs.declared.back_fault.BackFault.TheVariants.{Device, Dead}
use Rattle.back_store.proofs.KeptLogs.{cause_answered}

module _ {X : Type 0} (dead : Bool) (Rose : Type 0) where
  succeeds : (result : Result X BackFault) → IfErr result (λ fault. (fault ≡ Device) ⊎ (fault ≡ Dead)) → (IsErrOf result Dead ↔ (dead ≡ true)) → (IsErrOf result Device → Rose) → dead ≡ false → (Rose → ⊥) → IsOk result
  succeeds (Ok x) fault was cause alive none = refl
  succeeds (Err e) fault was cause alive none = ⊎_elim (λ is. absurd (none (cause (cc)))) (λ is. absurd (let there = was.0 (cc) in let both = sym there ∙ alive in cc)) fault

  succeeds_or_full : (result : Result X BackFault) (full : BackFault) → IfErr result (λ fault. (fault ≡ full) ⊎ (fault ≡ Device) ⊎ (fault ≡ Dead)) → (IsErrOf result Dead ↔ (dead ≡ true)) → (IsErrOf result Device → Rose)
      → dead ≡ false → (Rose → ⊥) → IsOk result ⊎ IsErrOf result full
  succeeds_or_full (Ok x) full fault was cause alive none = inl refl
  succeeds_or_full (Err e) full fault was cause alive none = ⊎_elim
      (λ is. inr (ap Err is))
      (⊎_elim (λ is. absurd (none (cause (cc)))) (λ is. absurd (let there = was.0 (cc) in let both = sym there ∙ alive in cc)))
      fault

-- of a call that made these calls on its medium
pub has_cause : {M X : Type 0} {ghosts : Ghosts M} (result : Result X BackFault) (old new : Back M ghosts) (cs : List Call) → CallsAnswered result cs (sight_of old) (sight_of new)
    → IfErr result (λ fault. (fault ≡ Device) ⊎ (fault ≡ Dead)) → (IsErrOf result Dead ↔ ((state_of old).dead ≡ true)) → HasCause result old new
has_cause result old new cs calls only dead =
    let device = cause_answered result cs (sight_of old) (sight_of new) calls in
    record { dead = dead; device = device; only = only; succeeds = succeeds (state_of old).dead _ result only dead device }

-- of a persist
pub has_persist_cause : {M : Type 0} {ghosts : Ghosts M} (ring : ℕ) (b : RedoBundle) (result : Result (Unit {0}) BackFault) (old new : Back M ghosts) → PersistsBy ring b result old new
    → (IsErrOf result (ring_full (state_of old) ring b) ↔ ((state_of old).dead ≡ false) × IsRingFull (state_of old) ring b)
    → IfErr result (λ fault. (fault ≡ ring_full (state_of old) ring b) ⊎ (fault ≡ Device) ⊎ (fault ≡ Dead)) → (IsErrOf result Dead ↔ ((state_of old).dead ≡ true))
    → HasPersistCause ring b result old new
has_persist_cause ring b result old new calls full only dead =
    let device = cause_answered result (persist_calls (state_of old) ring b) (sight_of old) (sight_of new) calls in
    record { full = full; dead = dead; device = device; only = only; succeeds = succeeds_or_full (state_of old).dead _ result (ring_full (state_of old) ring b) only dead device }
