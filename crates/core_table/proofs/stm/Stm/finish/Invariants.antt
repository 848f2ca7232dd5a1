use Rattle.core_table.specs.Abouts.{finishing}
use Rattle.core_table.proofs.stm.Stm.finish.Given as goal

abbrev pub ghosts-load_as : goal.ghosts-load_as
ghosts-load_as g a = record { setup = a.self.now.setup; event = finishing a._about.now }
