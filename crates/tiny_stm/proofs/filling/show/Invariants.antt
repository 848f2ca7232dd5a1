use Rattle.core_events.specs.Events.{show}
use Rattle.tiny_stm.specs.Told.{PagedTo}
use Rattle.tiny_stm.proofs.filling.show.Given as goal

abbrev pub ghosts-store_by : goal.ghosts-store_by
ghosts-store_by g a = let e = show a._about.now.0 a._about.now.1 in record { setup = a.self.now.setup; event = e; then = PagedTo g.M.Medium.sight a.self.now.key e a._about.now.2.now a.seat.now.me }
