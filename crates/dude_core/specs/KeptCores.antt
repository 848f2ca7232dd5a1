-- What a core keeps of its fields.
use Rattle.std.specs.Prelude.{◌≤◌}
use Rattle.core_events.specs.Setups.{IsSetup}
use Rattle.core_medium.specs.KeptStore.{MachineKept}
use Rattle.dude_core.specs.Chains.{writes_in}
use Rattle.dude_core.specs.Stands.{machine_over}
use Rattle.dude_core.specs.declared.machine.Core.TheInside.{Inside}

-- The setup is within its limits, the machine is kept, and there is room for the writes of all bundles that wait.
pub record IsKeptCore (a : Inside) : Type 0 where
  pub setup_is : IsSetup a.setup
  pub kept : MachineKept a.setup (machine_over a.setup a.state a.store)
  pub room : writes_in a.store.waiting ≤ a.room.room
