use Rattle.core_events.specs.Events.{evict}
use Rattle.core_table.proofs.stm.Stm.evict.Given as goal

abbrev pub ghosts-change_as : goal.ghosts-change_as
ghosts-change_as g a = record { setup = a.self.now.setup; event = evict a._about.now }
