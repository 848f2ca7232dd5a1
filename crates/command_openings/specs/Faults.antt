-- Why no image was opened, and what is left of the medium then.
use Rattle.std.specs.Prelude.{◌≡◌, ◌⊎◌, ◌<◌, ◌≤◌, ⊤, true, false}
use Rattle.dude_base.specs.declared.sizes.Sizes.{Sizes}
use Rattle.dude_base.specs.Image.{image_words}
use Rattle.pmem_trait.specs.Sights.{Sight, Risen}
use Rattle.pmem_trait.specs.Reads.{ContentHas, OnlyReads}
use Rattle.tatp_model.specs.Population.{population_calls}
use Rattle.redo_record.specs.Recovery.{IsFormatted, IsDamaged}
use Rattle.image_recovery.specs.Recovered.{IsNoDatabase}
use Rattle.image_recovery.specs.declared.open_fault.OpenFault.{OpenFault}
use Rattle.image_recovery.specs.declared.open_fault.OpenFault.TheVariants as opening
use Rattle.dude_recover.specs.Answers.{OpensSome}
use Rattle.dude_recover.specs.Causes.{FitsImage, FormatsSome}
use Rattle.dude_recover.specs.declared.format_fault.FormatFault.{FormatFault}
use Rattle.dude_recover.specs.declared.format_fault.FormatFault.TheVariants as format
use Rattle.command_openings.specs.Opens.{FailsOpening}
use Rattle.command_edges.specs.declared.fault.Fault.{Fault}
use Rattle.command_edges.specs.declared.fault.Fault.TheVariants.{Small, TooFew, Unformatted, Damaged, NotDb, Device, Memory}

-- Why no image of these sizes was made: the first that fits, and the medium is as it was; or the image fits, and of the calls
-- that make it a prefix was made, whose last failed; or there was no memory, before those calls or behind them.
abbrev pub HasFormatFault : Sizes → Sight → Sight → Fault → Type 0
HasFormatFault sizes s t (Small has needs) = (t ≡ s) × (has ≡ s.len) × (needs ≡ image_words sizes) × (has < needs)
HasFormatFault sizes s t (TooFew rows calls) =
    (t ≡ s) × (image_words sizes ≤ s.len) × (rows ≡ population_calls sizes.subscribers) × (calls ≡ sizes.calls) × (calls < rows)
HasFormatFault sizes s t Device = FitsImage sizes s.len × Risen s.faults t.faults × FormatsSome sizes false s t
HasFormatFault sizes s t Memory = FitsImage sizes s.len × ((t ≡ s) ⊎ FormatsSome sizes true s t)
HasFormatFault sizes s t _ = ⊥

-- Why the image isn't open: its content says why, and the medium was only read; or a call of the opening failed; or there was
-- no memory, before the calls that open the image or behind them.
abbrev pub HasOpenFault : Sight → Sight → Fault → Type 0
HasOpenFault s t Unformatted = ContentHas (λ content. ¬ IsFormatted content) s × OnlyReads true s t
HasOpenFault s t (Damaged line) = ContentHas (λ content. IsFormatted content × IsDamaged content line) s × OnlyReads true s t
HasOpenFault s t (NotDb word) = ContentHas (IsNoDatabase word) s × OnlyReads true s t
HasOpenFault s t Device = Risen s.faults t.faults × FailsOpening s t
HasOpenFault s t Memory = OpensSome true s t
HasOpenFault s t _ = ⊥

-- what a fault of opening is for the command
abbrev pub fault_of_opening : OpenFault → Fault
fault_of_opening opening.Unformatted = Unformatted
fault_of_opening (opening.Damaged line) = Damaged line
fault_of_opening (opening.NotDb word) = NotDb word
fault_of_opening opening.Device = Device
fault_of_opening opening.NoMemory = Memory

-- the sizes are accepted
abbrev pub IsSized : FormatFault → Type 0
IsSized (format.Size field) = ⊥
IsSized _ = ⊤

-- what a fault of making an image is for the command, where the sizes are accepted
abbrev pub IsFaultOfFormat : FormatFault → Fault → Type 0
IsFaultOfFormat (format.Size field) fault = ⊥
IsFaultOfFormat (format.Small has needs) fault = fault ≡ Small has needs
IsFaultOfFormat (format.TooFew rows calls) fault = fault ≡ TooFew rows calls
IsFaultOfFormat format.Device fault = fault ≡ Device
IsFaultOfFormat format.NoMemory fault = fault ≡ Memory

-- why no image of these sizes was made on a medium, seen so, which is given back
abbrev pub IsFormatRefusal : {M : Type 0} → (M → Sight) → Sizes → M → Fault × M → Type 0
IsFormatRefusal sight sizes medium refused = HasFormatFault sizes (sight medium) (sight refused.1) refused.0

-- why the image on a medium, seen so, isn't open; the medium is given back
abbrev pub IsOpenRefusal : {M : Type 0} → (M → Sight) → M → Fault × M → Type 0
IsOpenRefusal sight medium refused = HasOpenFault (sight medium) (sight refused.1) refused.0
