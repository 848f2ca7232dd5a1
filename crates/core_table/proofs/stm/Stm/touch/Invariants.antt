use Rattle.core_events.specs.Events.{touch}
use Rattle.core_table.proofs.stm.Stm.touch.Given as goal

abbrev pub ghosts-change_as : goal.ghosts-change_as
ghosts-change_as g a = record { setup = a.self.now.setup; event = touch a._about.now }
