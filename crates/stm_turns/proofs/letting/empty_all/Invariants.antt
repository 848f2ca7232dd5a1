use Rattle.std.proofs.Common.{◌≡◌, List}
use Rattle.stm_turns.specs.Bundles.{HasEmptied}
use Rattle.stm_turns.specs.Gathered.{AreThreads}
use Rattle.stm_turns.specs.Holding.{Held}
use Rattle.stm_turns.proofs.letting.empty_all.Given as goal

-- so many boxes are empty, and those of the other records are left
abbrev pub invariant-loop-number : goal.invariant-loop-number
invariant-loop-number g l = record {
  left : (left : List Held) × AreThreads l.gathering.threads l.gathering.count l.number left × HasEmptied g.M.Medium.sight l.events l.number l.fn.seat l.seat l.home left;
  back : l.home.back ≡ l.fn.home.back;
}
