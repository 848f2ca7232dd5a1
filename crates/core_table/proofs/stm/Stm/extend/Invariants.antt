use Rattle.core_events.specs.Events.{extend}
use Rattle.core_table.proofs.stm.Stm.extend.Given as goal

abbrev pub ghosts-load_as : goal.ghosts-load_as
ghosts-load_as g a = record { setup = a.self.now.setup; event = extend }
