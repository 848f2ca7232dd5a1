use Rattle.core_events.specs.Events.{store}
use Rattle.core_table.proofs.stm.Stm.store.Given as goal

abbrev pub ghosts-store_as : goal.ghosts-store_as
ghosts-store_as g a = record { setup = a.self.now.setup; event = store a._about.now }
