-- How a core is made.
use Rattle.std.specs.Prelude.{◌≡◌, ◌↔◌, ◌⊎◌, ℕ, List, Result, IsErrOf}
use Rattle.dude_base.specs.declared.run.Run.{Run}
use Rattle.dude_base.specs.declared.sizes.Sizes.{Sizes}
use Rattle.dude_base.specs.Run.{IsRunWithin}
use Rattle.dude_base.specs.Sizes.{IsFrom}
use Rattle.core_events.specs.Setups.{Setup}
use Rattle.core_events.specs.Partings.{start}
use Rattle.dude_core.specs.RunSetups.{setup_of}
use Rattle.dude_core.specs.declared.core_fault.CoreFault.{CoreFault}
use Rattle.dude_core.specs.declared.core_fault.CoreFault.TheVariants.{Size, NoMemory}
use Rattle.dude_core.specs.StoreData.{start_data}
use Rattle.dude_core.specs.CoreState.{CoreState}

-- there is a thread and at most one for each ring, and the run is within its limits
abbrev pub FitsImage : Sizes → Run → ℕ → Type 0
FitsImage sizes run threads = IsFrom 1 sizes.rings threads × IsRunWithin sizes.pages run

-- the fault of a run, or of a number of threads, that doesn't fit
abbrev pub size_fault : Sizes → Run → CoreFault
size_fault sizes run = Size run.frames sizes.pages

-- a call gives the fault exactly where the threads or the run don't fit
abbrev pub RefusesSize : {A : Type 0} → Result A CoreFault → Sizes → Run → ℕ → Type 0
RefusesSize r sizes run threads = IsErrOf r (size_fault sizes run) ↔ (FitsImage sizes run threads → ⊥)

-- the fault of a run, or of a number of threads, that doesn't fit; or want of memory
abbrev pub IsFaultOf : Sizes → Run → CoreFault → Type 0
IsFaultOf sizes run fault = (fault ≡ size_fault sizes run) ⊎ (fault ≡ NoMemory)

-- the core at the start, of a setup and an image of these sizes
abbrev pub core_of : Setup → Sizes → CoreState
core_of z sizes = record { setup = z; state = start z; store = start_data z sizes }

-- the core at the start of a run with so many threads, over these home words and this number
abbrev pub IsCoreAt : List ℕ → Sizes → Run → ℕ → ℕ → CoreState → Type 0
IsCoreAt words sizes run threads number core = core ≡ core_of (setup_of words sizes.pages run threads number) sizes
