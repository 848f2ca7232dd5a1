use Rattle.core_events.specs.Events.{evict}
use Rattle.tiny_stm.specs.Told.{TriedEvict}
use Rattle.tiny_stm.proofs.entries.evict.Given as goal

abbrev pub ghosts-change_by : goal.ghosts-change_by
ghosts-change_by g a = let p = a._about.now.0 in record { setup = a.self.now.setup; event = evict p; then = TriedEvict g.M.Medium.sight a.self.now.key p a._about.now.1.now a.seat.now.me }
