use Rattle.core_events.specs.Events.{see_box}
use Rattle.core_table.proofs.stm.Stm.see_box.Given as goal

abbrev pub ghosts-load_as : goal.ghosts-load_as
ghosts-load_as g a = record { setup = a.self.now.setup; event = see_box }
