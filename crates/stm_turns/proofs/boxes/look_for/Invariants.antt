use Rattle.core_events.specs.Events.{see_full}
use Rattle.stm_turns.specs.Told.{SawNext}
use Rattle.stm_turns.proofs.boxes.look_for.Given as goal

abbrev pub ghosts-load_by : goal.ghosts-load_by
ghosts-load_by g a = let b = a._about.now in record { setup = a.self.now.setup; event = see_full b.0 b.1; then = SawNext g.M.Medium.sight a.self.now.key b.0 b.1 b.2 b.3.now a.seat.now.me }
