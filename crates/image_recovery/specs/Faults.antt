-- The faults of a recovery: what each says of the image, and which reads were made where it is answered.
use Rattle.std.specs.Prelude.{◌≡◌, ◌⊎◌, ℕ, true, false, List, Result, Ok, Err}
use Rattle.pmem_trait.specs.Sights.{Sight}
use Rattle.pmem_trait.specs.Reads.{ContentHas, OnlyReads}
use Rattle.redo_record.specs.Recovery.{IsFormatted, IsDamaged}
use Rattle.log_ring.specs.declared.scan_fault.ScanFault.{ScanFault}
use Rattle.log_ring.specs.declared.scan_fault.ScanFault.TheVariants as scan
use Rattle.tatp_check.specs.declared.check_fault.CheckFault.{CheckFault}
use Rattle.tatp_check.specs.declared.check_fault.CheckFault.TheVariants as check
use Rattle.image_recovery.specs.declared.open_fault.OpenFault.{OpenFault}
use Rattle.image_recovery.specs.declared.open_fault.OpenFault.TheVariants.{Unformatted, Damaged, NotDb, Device, NoMemory}
use Rattle.image_recovery.specs.Recovered.{IsNoDatabase}

-- What a fault says of the image: it isn't formatted; it is damaged at this line; or this is the first wrong word of its home. A
-- failed call and want of memory say nothing.
abbrev pub IsFaultOf : List ℕ → OpenFault → Type 0
IsFaultOf image Unformatted = ¬ IsFormatted image
IsFaultOf image (Damaged line) = IsFormatted image × IsDamaged image line
IsFaultOf image (NotDb word) = IsNoDatabase word image
IsFaultOf image Device = Unit {0}
IsFaultOf image NoMemory = Unit {0}

-- what the fault says holds of the content, where the medium is visible
abbrev pub IsFaultOn : Sight → OpenFault → Type 0
IsFaultOn m fault = ContentHas (λ content. IsFaultOf content fault) m

-- What the fault of a replay says holds of the content, where the medium is visible: no replay names a word of the home.
abbrev pub IsReplayFaultOn : Sight → OpenFault → Type 0
IsReplayFaultOn m (NotDb word) = ⊥
IsReplayFaultOn m fault = IsFaultOn m fault

-- a fault that has nothing to do with what the image is
abbrev pub IsReadFault : OpenFault → Type 0
IsReadFault fault = (fault ≡ Device) ⊎ (fault ≡ NoMemory)

-- what a fault of a scan is for the recovery
abbrev pub fault_of_scan : ScanFault → OpenFault
fault_of_scan (scan.Damaged line) = Damaged line
fault_of_scan scan.Device = Device
fault_of_scan scan.NoMemory = NoMemory

-- what a fault of a check is for the recovery
abbrev pub fault_of_check : CheckFault → OpenFault
fault_of_check (check.NotDb word) = NotDb word
fault_of_check check.NoMemory = NoMemory

-- Reads alone were made. The last one failed at Device, and none otherwise.
abbrev pub ReadsMade : {X : Type 0} → Result X OpenFault → Sight → Sight → Type 0
ReadsMade (Ok x) s t = OnlyReads true s t
ReadsMade (Err Unformatted) s t = OnlyReads true s t
ReadsMade (Err (Damaged line)) s t = OnlyReads true s t
ReadsMade (Err (NotDb word)) s t = OnlyReads true s t
ReadsMade (Err NoMemory) s t = OnlyReads true s t
ReadsMade (Err Device) s t = OnlyReads false s t

-- the fault of an image in memory, where no call on a medium fails
abbrev pub in_memory : OpenFault → OpenFault
in_memory Unformatted = Unformatted
in_memory (Damaged line) = Damaged line
in_memory (NotDb word) = NotDb word
in_memory Device = NoMemory
in_memory NoMemory = NoMemory
