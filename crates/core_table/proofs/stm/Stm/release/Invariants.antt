use Rattle.core_events.specs.Events.{release}
use Rattle.core_table.proofs.stm.Stm.release.Given as goal

abbrev pub ghosts-store_as : goal.ghosts-store_as
ghosts-store_as g a = record { setup = a.self.now.setup; event = release a._about.now }
