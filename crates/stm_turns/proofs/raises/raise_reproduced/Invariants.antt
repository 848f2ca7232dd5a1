use Rattle.core_events.specs.Events.{raise_reproduced}
use Rattle.stm_turns.specs.Told.{Raised}
use Rattle.stm_turns.proofs.raises.raise_reproduced.Given as goal

abbrev pub ghosts-store_by : goal.ghosts-store_by
ghosts-store_by g a = let e = raise_reproduced a._about.now.0 in record { setup = a.self.now.setup; event = e; then = Raised g.M.Medium.sight a.self.now.key e a._about.now.1.now a.seat.now.me }
