-- The reads of a scan, as its answer tells of them.
use Rattle.std.proofs.Common.{◌≡◌, ◌≢◌, Bool, true, false, Result, Ok, Err, IfErr, IsErrOf, refl, sym, subst, rules}
use Rattle.pmem_trait.specs.Sights.{Sight, Risen}
use Rattle.pmem_trait.specs.Reads.{OnlyReads}
use Rattle.pmem_trait.proofs.Runs.{made_cause}
use Rattle.pmem_trait.proofs.ReadRuns.{read_alone, reads_here, reads_then}
use Rattle.log_ring.specs.declared.scan_fault.ScanFault.{ScanFault}
use Rattle.log_ring.specs.declared.scan_fault.ScanFault.TheVariants.{Damaged, Device, NoMemory}
use Rattle.log_ring.specs.Scan.{ReadsMade}
use Rattle.log_ring.proofs.Replayable.{one_moment}

-- a read failed
pub made_at_device : {X : Type 0} (r : Result X ScanFault) {s t : Sight} → r ≡ Err Device → OnlyReads false s t → ReadsMade r s t
made_at_device r {s} {t} is reads = subst (λ (r : Result _ ScanFault). ReadsMade r s t) (sym is) reads

-- the same of a call's own answer
pub stopped : {ok : Bool} {s t : Sight} → ok ≡ false → OnlyReads false s t → OnlyReads ok s t
stopped {ok} {s} {t} failed reads = subst (λ (b : Bool). OnlyReads b s t) (sym failed) reads

-- no read failed
pub made_well : {X : Type 0} (r : Result X ScanFault) {s t : Sight} → IfErr r (λ fault. fault ≢ Device) → OnlyReads true s t → ReadsMade r s t
made_well (Ok found) other reads = reads
made_well (Err (Damaged line)) other reads = reads
made_well (Err NoMemory) other reads = reads
made_well (Err Device) other reads = absurd (other refl)

-- the same fault with another type of answer, after some reads
pub made_again : {X Y : Type 0} (r : Result X ScanFault) (q : Result Y ScanFault) (fault : ScanFault) (s t u : Sight) → r ≡ Err fault → q ≡ Err fault → OnlyReads true s t → ReadsMade q t u → ReadsMade r s u
made_again {X} {Y} r q fault s t u r_is q_is before made =
    subst (λ (r : Result X ScanFault). ReadsMade r s u) (sym r_is) (by fault (subst (λ (q : Result Y ScanFault). ReadsMade q t u) q_is made))
  where
    by : (fault : ScanFault) → ReadsMade {X = Y} (Err fault) t u → ReadsMade {X = X} (Err fault) s u
    by (Damaged line) made = reads_then before made
    by Device made = reads_then before made
    by NoMemory made = reads_then before made

-- the same fault with another type of answer
pub made_same : {X Y : Type 0} (r : Result X ScanFault) (q : Result Y ScanFault) (fault : ScanFault) (s t : Sight) → r ≡ Err fault → q ≡ Err fault → ReadsMade q s t → ReadsMade r s t
made_same r q fault s t r_is q_is made = made_again r q fault s s t r_is q_is (reads_here s) made

-- at Device the count of faults rose
pub read_cause : {X : Type 0} (r : Result X ScanFault) (s t : Sight) → ReadsMade r s t → IsErrOf r Device → Risen s.faults t.faults
read_cause (Ok found) s t made is = absurd (search rules)
read_cause (Err (Damaged line)) s t made is = absurd (search rules)
read_cause (Err NoMemory) s t made is = absurd (search rules)
read_cause (Err Device) s t made is = made_cause made.made

-- reads before others
pub made_behind : {X : Type 0} (r : Result X ScanFault) (s t u : Sight) → OnlyReads true s t → ReadsMade r t u → ReadsMade r s u
made_behind (Ok found) s t u before made = reads_then before made
made_behind (Err (Damaged line)) s t u before made = reads_then before made
made_behind (Err NoMemory) s t u before made = reads_then before made
made_behind (Err Device) s t u before made = reads_then before made

-- reads one by one, and what they come to
pub ruleset reading_on = (reads_here, read_alone, reads_then, one_moment, stopped)

-- the same, where the answer is that of a scan
pub ruleset scanning = (reads_here, read_alone, reads_then, one_moment, made_well, made_at_device)
