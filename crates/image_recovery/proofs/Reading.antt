-- What a fault of a recovery says of the image: as the replay, the check, or the recovery over a medium said.
use Rattle.std.proofs.Common.{◌≡◌, ℕ, List, Result, Err, IfErr, sym, refl, subst}
use Rattle.pmem_trait.specs.Sights.{Sight}
use Rattle.pmem_trait.specs.Reads.{ContentHas}
use Rattle.tatp_check.specs.declared.check_fault.CheckFault.{CheckFault}
use Rattle.tatp_check.specs.declared.check_fault.CheckFault.TheVariants as check
use Rattle.image_recovery.specs.declared.open_fault.OpenFault.{OpenFault}
use Rattle.image_recovery.specs.declared.open_fault.OpenFault.TheVariants.{Unformatted, Damaged, NotDb, Device, NoMemory}
use Rattle.image_recovery.specs.Faults.{IsFaultOf, IsFaultOn, IsReplayFaultOn, fault_of_check, in_memory}
use Rattle.image_recovery.specs.Recovered.{IsNoDatabase}

-- a fault of the replay
pub refused_by_replay : {X Y : Type 0} (r : Result X OpenFault) (q : Result Y OpenFault) (fault : OpenFault) (m : Sight)
    → r ≡ Err fault → q ≡ Err fault → IfErr q (IsReplayFaultOn m) → IfErr r (IsFaultOn m)
refused_by_replay {X} {Y} r q fault m r_is q_is says =
    subst (λ (r : Result X OpenFault). IfErr r (IsFaultOn m)) (sym r_is) (by fault (subst (λ (q : Result Y OpenFault). IfErr q (IsReplayFaultOn m)) q_is says))
  where
    by : (fault : OpenFault) → IsReplayFaultOn m fault → IsFaultOn m fault
    by Unformatted says = says
    by (Damaged line) says = says
    by (NotDb word) says = absurd says
    by Device says = says
    by NoMemory says = says

-- a fault of the check
pub refused_by_check : {X : Type 0} (r : Result X OpenFault) (fault : CheckFault) (m : Sight) → r ≡ Err (fault_of_check fault)
    → ((word : ℕ) → fault ≡ check.NotDb word → ContentHas (IsNoDatabase word) m) → IfErr r (IsFaultOn m)
refused_by_check {X} r fault m r_is wrong = subst (λ (r : Result X OpenFault). IfErr r (IsFaultOn m)) (sym r_is) (by fault wrong)
  where
    by : (fault : CheckFault) → ((word : ℕ) → fault ≡ check.NotDb word → ContentHas (IsNoDatabase word) m) → IsFaultOn m (fault_of_check fault)
    by (check.NotDb word) wrong = wrong word refl
    by check.NoMemory wrong = λ visible content holds. tt

-- a fault of an image in memory
pub refused_in_memory : (image : List ℕ) (fault own : OpenFault) → own ≡ in_memory fault → IsFaultOf image fault → IsFaultOf image own
refused_in_memory image fault own is holds = subst (IsFaultOf image) (sym is) (by fault holds)
  where
    by : (fault : OpenFault) → IsFaultOf image fault → IsFaultOf image (in_memory fault)
    by Unformatted holds = holds
    by (Damaged line) holds = holds
    by (NotDb word) holds = holds
    by Device holds = tt
    by NoMemory holds = tt

pub never_device : (fault : OpenFault) → in_memory fault ≡ Device → ⊥
never_device Unformatted is = cc
never_device (Damaged line) is = cc
never_device (NotDb word) is = cc
never_device Device is = cc
never_device NoMemory is = cc

-- a failed call and want of memory say nothing of the image
pub refused_at_device : {X : Type 0} (r : Result X OpenFault) (m : Sight) → r ≡ Err Device → IfErr r (IsFaultOn m)
refused_at_device {X} r m is = subst (λ (r : Result X OpenFault). IfErr r (IsFaultOn m)) (sym is) (λ visible content holds. tt)

pub refused_without_memory : {X : Type 0} (r : Result X OpenFault) (m : Sight) → r ≡ Err NoMemory → IfErr r (IsFaultOn m)
refused_without_memory {X} r m is = subst (λ (r : Result X OpenFault). IfErr r (IsFaultOn m)) (sym is) (λ visible content holds. tt)

-- the same fault with another type of answer
pub refused_again : {X Y : Type 0} (r : Result X OpenFault) (q : Result Y OpenFault) (fault : OpenFault) (m : Sight)
    → r ≡ Err fault → q ≡ Err fault → IfErr q (IsFaultOn m) → IfErr r (IsFaultOn m)
refused_again {X} {Y} r q fault m r_is q_is holds =
    subst (λ (r : Result X OpenFault). IfErr r (IsFaultOn m)) (sym r_is) (subst (λ (q : Result Y OpenFault). IfErr q (IsFaultOn m)) q_is holds)
