use Rattle.std.proofs.Common.{List}
use Rattle.atomic_table.specs.Table.{rest}
use Rattle.core_events.specs.Events.{see_full}
use Rattle.stm_turns.specs.Bundles.{HasPutBack}
use Rattle.stm_turns.specs.Gathered.{AreThreads}
use Rattle.stm_turns.specs.Holding.{Held}
use Rattle.stm_turns.specs.Told.{WentLacking, boxes_in, but_last}
use Rattle.stm_turns.proofs.letting.put_all_back.Given as goal

-- so many records are in their boxes again, and the others are left
abbrev pub invariant-loop-number : goal.invariant-loop-number
invariant-loop-number g l = record {
  left : (left : List Held) × AreThreads l.gathering.threads l.gathering.count l.number left × HasPutBack g.M.Medium.sight l.events l.number l.fn.seat l.seat l.home l.places left;
}

-- each step of the loop leaves all boxes out but the one that was taken first
abbrev pub ghosts-load_by : goal.ghosts-load_by
ghosts-load_by g a = let b = a._about.now in let e = see_full b.0 b.1 in let m = a.seat.now.me in record { setup = a.self.now.setup; event = e; then = WentLacking g.M.Medium.sight a.self.now.key e b.2.now (but_last (boxes_in m.0.beside.turn)) (rest m.1) m }
