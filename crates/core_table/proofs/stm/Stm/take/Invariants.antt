use Rattle.core_events.specs.Events.{take}
use Rattle.core_table.proofs.stm.Stm.take.Given as goal

abbrev pub ghosts-change_as : goal.ghosts-change_as
ghosts-change_as g a = record { setup = a.self.now.setup; event = take a._about.now }
