use Rattle.core_events.specs.Events.{show}
use Rattle.core_table.proofs.stm.Stm.show.Given as goal

abbrev pub ghosts-store_as : goal.ghosts-store_as
ghosts-store_as g a = record { setup = a.self.now.setup; event = show a._about.now.0 a._about.now.1 }
