use Rattle.core_events.specs.Events.{load}
use Rattle.core_table.proofs.stm.Stm.load.Given as goal

abbrev pub ghosts-load_as : goal.ghosts-load_as
ghosts-load_as g a = record { setup = a.self.now.setup; event = load a._about.now }
