use Rattle.core_table.proofs.stm.Stm.split.Given as goal

abbrev pub ghosts-split_as : goal.ghosts-split_as
ghosts-split_as g a = record { setup = a.self.now.setup; draws = a._draws }
