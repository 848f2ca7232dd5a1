-- Which runs a store may have.
use Rattle.std.specs.Prelude.{◌≡◌, ℕ, Result, Ok, Err}
use Rattle.dude_base.specs.declared.run.Run.{Run}
use Rattle.dude_base.specs.Run.{IsRunWithin}
use Rattle.dude_base.specs.Sizes.{IsFrom}
use Rattle.tiny_stm.specs.declared.stm_fault.StmFault.{StmFault}

-- there is a thread and at most one for each ring, and the run is within its limits
pub record FitsStore (rings pages : ℕ) (run : Run) (threads : ℕ) : Type 0 where
  pub some : IsFrom 1 rings threads
  pub within : IsRunWithin pages run

-- the call was refused with this fault
abbrev pub Refuses : {A B C : Type 0} → StmFault → Result A (StmFault × B × C) → Type 0
Refuses fault (Ok a) = ⊥
Refuses fault (Err e) = e.0 ≡ fault
