-- The faults of an opening, and the reads made by then.
use Rattle.std.proofs.Common.{◌≡◌, inl, inr, true, false, Result, Err, IfErr, sym, ap, ◌∙◌, subst}
use Rattle.pmem_trait.specs.Sights.{Sight}
use Rattle.pmem_trait.specs.Reads.{OnlyReads}
use Rattle.pmem_trait.proofs.ReadRuns.{reads_then}
use Rattle.image_recovery.specs.declared.open_fault.OpenFault.{OpenFault}
use Rattle.image_recovery.specs.declared.open_fault.OpenFault.TheVariants.{Unformatted, Damaged, NotDb, Device, NoMemory}
use Rattle.image_recovery.specs.Faults.{IsFaultOn, IsReadFault, ReadsMade}
use Rattle.image_recovery.proofs.Reading.{refused_at_device, refused_without_memory}
use Rattle.dude_recover.specs.Answers.{BehindRecovery, Opens, StopsBy}

-- the same fault with another type of answer, behind some reads
pub stops_again : {X Y : Type 0} (r : Result X OpenFault) (q : Result Y OpenFault) (fault : OpenFault) (s t u : Sight) → r ≡ Err fault → q ≡ Err fault → OnlyReads true s t → ReadsMade q t u → IfErr r (λ fault. StopsBy fault s u)
stops_again {X} {Y} r q fault s t u r_is q_is before made =
    subst (λ (r : Result X OpenFault). IfErr r (λ fault. StopsBy fault s u)) (sym r_is) (by fault (subst (λ (q : Result Y OpenFault). ReadsMade q t u) q_is made))
  where
    by : (fault : OpenFault) → ReadsMade {X = Y} (Err fault) t u → StopsBy fault s u
    by Unformatted made = reads_then before made
    by (Damaged line) made = reads_then before made
    by (NotDb word) made = reads_then before made
    by Device made = inl (reads_then before made)
    by NoMemory made = reads_then before made

-- a read failed
pub stops_at_read : {X : Type 0} (r : Result X OpenFault) {s t : Sight} → r ≡ Err Device → OnlyReads false s t → IfErr r (λ fault. StopsBy fault s t)
stops_at_read {X} r {s} {t} is reads = subst (λ (r : Result X OpenFault). IfErr r (λ fault. StopsBy fault s t)) (sym is) (inl reads)

-- a call that opens the image failed
pub stops_on_the_way : {X : Type 0} (r : Result X OpenFault) {s t : Sight} → r ≡ Err Device → BehindRecovery (Opens false) s t → IfErr r (λ fault. StopsBy fault s t)
stops_on_the_way {X} r {s} {t} is way = subst (λ (r : Result X OpenFault). IfErr r (λ fault. StopsBy fault s t)) (sym is) (inr way)

-- a fault of reads alone says nothing of the image
pub refused_unread : {X Y : Type 0} (r : Result X OpenFault) (q : Result Y OpenFault) (fault : OpenFault) (m : Sight) → r ≡ Err fault → q ≡ Err fault
    → IfErr q IsReadFault → IfErr r (IsFaultOn m)
refused_unread {X} {Y} r q fault m r_is q_is unread =
    by (subst (λ (q : Result Y OpenFault). IfErr q IsReadFault) q_is unread)
  where
    by : IsReadFault fault → IfErr r (IsFaultOn m)
    by (inl is) = refused_at_device r m (r_is ∙ ap Err is)
    by (inr is) = refused_without_memory r m (r_is ∙ ap Err is)

-- want of memory is no failed call
pub no_device : (fault : OpenFault) → fault ≡ NoMemory → fault ≡ Device → ⊥
no_device fault is other = cc
