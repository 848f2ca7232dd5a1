use Rattle.core_events.specs.Events.{look}
use Rattle.core_table.proofs.stm.Stm.look.Given as goal

abbrev pub ghosts-load_as : goal.ghosts-load_as
ghosts-load_as g a = record { setup = a.self.now.setup; event = look a._about.now }
