use Rattle.core_events.specs.Events.{empty_box}
use Rattle.core_table.proofs.stm.Stm.empty_box.Given as goal

abbrev pub ghosts-store_as : goal.ghosts-store_as
ghosts-store_as g a = record { setup = a.self.now.setup; event = empty_box a._about.now.0 a._about.now.1 }
