use Rattle.core_table.proofs.stm.Stm.join.Given as goal

abbrev pub ghosts-join_as : goal.ghosts-join_as
ghosts-join_as g a = record { setup = a.self.now.setup; draws = 0 }
