use Rattle.core_events.specs.Events.{unpin}
use Rattle.core_table.proofs.stm.Stm.unpin.Given as goal

abbrev pub ghosts-change_as : goal.ghosts-change_as
ghosts-change_as g a = record { setup = a.self.now.setup; event = unpin a._about.now }
