-- The reads of a recovery, as its answer tells of them, and what the faults of its replay say.
use Rattle.std.proofs.Common.{◌≡◌, inl, inr, ℕ, true, false, Result, Err, IfErr, IsErrOf, sym, ap, ◌∙◌, subst, rules}
use Rattle.pmem_trait.specs.Sights.{Sight, Risen}
use Rattle.pmem_trait.specs.Reads.{ContentHas, OnlyReads}
use Rattle.pmem_trait.proofs.Runs.{made_cause}
use Rattle.pmem_trait.proofs.ReadRuns.{read_alone, reads_here, reads_then}
use Rattle.redo_record.specs.Recovery.{IsFormatted, IsDamaged}
use Rattle.log_ring.specs.declared.scan_fault.ScanFault.{ScanFault}
use Rattle.log_ring.specs.declared.scan_fault.ScanFault.TheVariants as scan
use Rattle.log_ring.specs.Scan as scanning
use Rattle.log_ring.proofs.Replayable.{one_moment}
use Rattle.image_recovery.specs.declared.open_fault.OpenFault.{OpenFault}
use Rattle.image_recovery.specs.declared.open_fault.OpenFault.TheVariants.{Unformatted, Damaged, NotDb, Device, NoMemory}
use Rattle.image_recovery.specs.Faults.{fault_of_scan, IsReadFault, IsReplayFaultOn, ReadsMade}

-- a read failed
pub made_at_device : {X : Type 0} (r : Result X OpenFault) {s t : Sight} → r ≡ Err Device → OnlyReads false s t → ReadsMade r s t
made_at_device r {s} {t} is reads = subst (λ (r : Result _ OpenFault). ReadsMade r s t) (sym is) reads

-- there is no memory
pub made_without_memory : {X : Type 0} (r : Result X OpenFault) {s t : Sight} → r ≡ Err NoMemory → OnlyReads true s t → ReadsMade r s t
made_without_memory r {s} {t} is reads = subst (λ (r : Result _ OpenFault). ReadsMade r s t) (sym is) reads

-- reads one by one, and what they come to
pub ruleset recovering = (reads_here, read_alone, reads_then, one_moment, made_at_device, made_without_memory)

-- the same fault with another type of answer, after some reads
pub made_again : {X Y : Type 0} (r : Result X OpenFault) (q : Result Y OpenFault) (fault : OpenFault) (s t u : Sight) → r ≡ Err fault → q ≡ Err fault → OnlyReads true s t → ReadsMade q t u → ReadsMade r s u
made_again {X} {Y} r q fault s t u r_is q_is before made =
    subst (λ (r : Result X OpenFault). ReadsMade r s u) (sym r_is) (by fault (subst (λ (q : Result Y OpenFault). ReadsMade q t u) q_is made))
  where
    by : (fault : OpenFault) → ReadsMade {X = Y} (Err fault) t u → ReadsMade {X = X} (Err fault) s u
    by Unformatted made = reads_then before made
    by (Damaged line) made = reads_then before made
    by (NotDb word) made = reads_then before made
    by Device made = reads_then before made
    by NoMemory made = reads_then before made

-- the fault of a scan, after some reads
pub made_by_scan : {X Y : Type 0} (r : Result X OpenFault) (q : Result Y ScanFault) (fault : ScanFault) (s t u : Sight) → r ≡ Err (fault_of_scan fault) → q ≡ Err fault → OnlyReads true s t → scanning.ReadsMade q t u → ReadsMade r s u
made_by_scan {X} {Y} r q fault s t u r_is q_is before made =
    subst (λ (r : Result X OpenFault). ReadsMade r s u) (sym r_is) (by fault (subst (λ (q : Result Y ScanFault). scanning.ReadsMade q t u) q_is made))
  where
    by : (fault : ScanFault) → scanning.ReadsMade {X = Y} (Err fault) t u → ReadsMade {X = X} (Err (fault_of_scan fault)) s u
    by (scan.Damaged line) made = reads_then before made
    by scan.Device made = reads_then before made
    by scan.NoMemory made = reads_then before made

-- at Device the count of faults rose
pub read_cause : {X : Type 0} (r : Result X OpenFault) (s t : Sight) → ReadsMade r s t → IsErrOf r Device → Risen s.faults t.faults
read_cause (Err Device) s t made is = made_cause made.made
read_cause _ s t made is = absurd (search rules)

-- a fault of reads alone says nothing of the image
pub replay_unread : {X Y : Type 0} (r : Result X OpenFault) (q : Result Y OpenFault) (fault : OpenFault) (m : Sight) → r ≡ Err fault → q ≡ Err fault → IfErr q IsReadFault → IfErr r (IsReplayFaultOn m)
replay_unread {X} {Y} r q fault m r_is q_is unread =
    by (subst (λ (q : Result Y OpenFault). IfErr q IsReadFault) q_is unread)
  where
    at : (own : OpenFault) → fault ≡ own → IsReplayFaultOn m own → IfErr r (IsReplayFaultOn m)
    at own is says = subst (λ (r : Result X OpenFault). IfErr r (IsReplayFaultOn m)) (sym (r_is ∙ ap Err is)) says

    by : IsReadFault fault → IfErr r (IsReplayFaultOn m)
    by (inl is) = at Device is (λ visible content holds. tt)
    by (inr is) = at NoMemory is (λ visible content holds. tt)

-- a scan's fault says of the image that it is damaged, where it names a line
pub replay_by_scan : {X Y : Type 0} (r : Result X OpenFault) (q : Result Y ScanFault) (fault : ScanFault) (m : Sight) → r ≡ Err (fault_of_scan fault) → q ≡ Err fault
    → ((line : ℕ) → IsErrOf q (scan.Damaged line) → ContentHas (λ content. IsFormatted content × IsDamaged content line) m) → IfErr r (IsReplayFaultOn m)
replay_by_scan {X} r q fault m r_is q_is damaged =
    subst (λ (r : Result X OpenFault). IfErr r (IsReplayFaultOn m)) (sym r_is) (by fault q_is)
  where
    by : (fault : ScanFault) → q ≡ Err fault → IsReplayFaultOn m (fault_of_scan fault)
    by (scan.Damaged line) is = damaged line is
    by scan.Device is = λ visible content holds. tt
    by scan.NoMemory is = λ visible content holds. tt
