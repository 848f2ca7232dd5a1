use Rattle.core_events.specs.Events.{load_touch}
use Rattle.core_table.proofs.stm.Stm.load_touch.Given as goal

abbrev pub ghosts-load_as : goal.ghosts-load_as
ghosts-load_as g a = record { setup = a.self.now.setup; event = load_touch a._about.now }
