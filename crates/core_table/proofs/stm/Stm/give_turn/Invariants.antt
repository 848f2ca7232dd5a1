use Rattle.core_events.specs.Events.{give_turn}
use Rattle.core_table.proofs.stm.Stm.give_turn.Given as goal

abbrev pub ghosts-store_as : goal.ghosts-store_as
ghosts-store_as g a = record { setup = a.self.now.setup; event = give_turn a._about.now }
