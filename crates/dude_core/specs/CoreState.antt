-- What a core is seen as.
use Rattle.core_events.specs.Setups.{Setup}
use Rattle.core_events.specs.Words.{State}
use Rattle.core_medium.specs.Machines.{Machine, MachineStep, MachineLeads}
use Rattle.dude_core.specs.StoreData.{StoreData}
use Rattle.dude_core.specs.Stands.{machine_over}

-- what the machine was set up with, the state that it is in, and the store behind it
pub record CoreState : Type 0 where
  pub setup : Setup
  pub state : State
  pub store : StoreData

-- the core as a machine of the definitions
abbrev pub machine_of : CoreState → Machine
machine_of c = machine_over c.setup c.state c.store

-- the step is allowed in the core c, and leads to the words, the views and the store of d
abbrev pub LeadsTo : CoreState → MachineStep → CoreState → Type 0
LeadsTo c s d = MachineLeads c.setup (machine_of c) s (machine_of d)
