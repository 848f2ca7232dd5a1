use Rattle.core_events.specs.Events.{see_full}
use Rattle.stm_turns.specs.Told.{Raised}
use Rattle.stm_turns.proofs.boxes.look.Given as goal

abbrev pub ghosts-load_by : goal.ghosts-load_by
ghosts-load_by g a = let e = see_full a._about.now.0 a._about.now.1 in record { setup = a.self.now.setup; event = e; then = Raised g.M.Medium.sight a.self.now.key e a._about.now.2.now a.seat.now.me }
