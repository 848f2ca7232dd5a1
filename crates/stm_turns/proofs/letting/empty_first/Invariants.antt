use Rattle.atomic_table.specs.Table.{rest}
use Rattle.core_events.specs.Events.{empty_box}
use Rattle.stm_turns.specs.Told.{WentHanded, boxes_in, but_last}
use Rattle.stm_turns.proofs.letting.empty_first.Given as goal

abbrev pub ghosts-store_by : goal.ghosts-store_by
ghosts-store_by g a = let b = a._about.now in let e = empty_box b.0 b.1 in let m = a.seat.now.me in record { setup = a.self.now.setup; event = e; then = WentHanded g.M.Medium.sight a.self.now.key e b.2.now (but_last (boxes_in m.0.beside.turn)) (rest m.1) m }
