use Rattle.core_events.specs.Events.{raise_reproduced}
use Rattle.core_table.proofs.stm.Stm.raise_reproduced.Given as goal

abbrev pub ghosts-store_as : goal.ghosts-store_as
ghosts-store_as g a = record { setup = a.self.now.setup; event = raise_reproduced a.new }
