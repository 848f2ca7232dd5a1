use Rattle.core_events.specs.Events.{check}
use Rattle.core_table.proofs.stm.Stm.check.Given as goal

abbrev pub ghosts-load_as : goal.ghosts-load_as
ghosts-load_as g a = record { setup = a.self.now.setup; event = check a._about.now }
