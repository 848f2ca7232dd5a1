use Rattle.core_events.specs.Events.{take_turn}
use Rattle.core_table.proofs.stm.Stm.take_turn.Given as goal

abbrev pub ghosts-change_as : goal.ghosts-change_as
ghosts-change_as g a = record { setup = a.self.now.setup; event = take_turn }
