use Rattle.core_table.specs.Abouts.{drawing}
use Rattle.core_table.proofs.stm.Stm.draw.Given as goal

abbrev pub ghosts-change_as : goal.ghosts-change_as
ghosts-change_as g a = record { setup = a.self.now.setup; event = drawing a._about.now.0.now a._about.now.1.now }
