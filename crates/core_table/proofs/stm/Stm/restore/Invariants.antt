use Rattle.core_events.specs.Events.{restore}
use Rattle.core_table.proofs.stm.Stm.restore.Given as goal

abbrev pub ghosts-store_as : goal.ghosts-store_as
ghosts-store_as g a = record { setup = a.self.now.setup; event = restore a._about.now }
