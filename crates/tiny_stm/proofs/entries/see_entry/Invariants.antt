use Rattle.core_events.specs.Events.{entry}
use Rattle.tiny_stm.specs.Told.{SawEntry}
use Rattle.tiny_stm.proofs.entries.see_entry.Given as goal

abbrev pub ghosts-load_by : goal.ghosts-load_by
ghosts-load_by g a = let p = a._about.now.0 in record { setup = a.self.now.setup; event = entry p; then = SawEntry g.M.Medium.sight a.self.now.key p a._about.now.1.now a.seat.now.me }
