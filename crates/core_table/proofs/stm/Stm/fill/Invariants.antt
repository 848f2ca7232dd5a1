use Rattle.core_events.specs.Events.{fill}
use Rattle.core_table.proofs.stm.Stm.fill.Given as goal

abbrev pub ghosts-store_as : goal.ghosts-store_as
ghosts-store_as g a = record { setup = a.self.now.setup; event = fill a._about.now.0 a._about.now.1 a._about.now.2 a._about.now.3 }
