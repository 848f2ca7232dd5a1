use Rattle.std.proofs.Common.{get_or}
use Rattle.core_events.specs.Events.{see_full}
use Rattle.stm_turns.specs.Told.{SawFront}
use Rattle.stm_turns.proofs.boxes.see_front.Given as goal

abbrev pub ghosts-load_by : goal.ghosts-load_by
ghosts-load_by g a = let t = a._about.now.0 in let h = a._about.now.1.now in record { setup = a.self.now.setup; event = see_full t (get_or h.next t 0); then = SawFront g.M.Medium.sight a.self.now.key t h a.seat.now.me }
