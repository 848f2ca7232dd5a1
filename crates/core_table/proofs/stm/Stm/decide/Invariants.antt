use Rattle.core_events.specs.Events.{decide}
use Rattle.core_table.proofs.stm.Stm.decide.Given as goal

abbrev pub ghosts-load_as : goal.ghosts-load_as
ghosts-load_as g a = record { setup = a.self.now.setup; event = decide }
