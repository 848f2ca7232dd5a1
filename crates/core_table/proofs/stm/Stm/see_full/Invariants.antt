use Rattle.core_events.specs.Events.{see_full}
use Rattle.core_table.proofs.stm.Stm.see_full.Given as goal

abbrev pub ghosts-load_as : goal.ghosts-load_as
ghosts-load_as g a = record { setup = a.self.now.setup; event = see_full a._about.now.0 a._about.now.1 }
