use Rattle.core_events.specs.Events.{pin}
use Rattle.core_table.proofs.stm.Stm.pin.Given as goal

abbrev pub ghosts-change_as : goal.ghosts-change_as
ghosts-change_as g a = record { setup = a.self.now.setup; event = pin a._about.now }
