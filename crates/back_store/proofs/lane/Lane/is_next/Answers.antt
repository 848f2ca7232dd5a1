use Rattle.std.proofs.Common.{sym, arith}
use Rattle.back_store.proofs.LaneRecords.{next_or_none}
use Rattle.back_store.proofs.lane.Lane.is_next.Goals as goal

pub returns-then-taken-len : goal.returns-then-taken-len
returns-then-taken-len c =
    next_or_none c.args.number c.args.taken c.first.result c.args.self.now.waiting c.len.ensures.rising c.requires.front (omega (arith, c.len.ensures.len)) (λ d. sym (c.first.ensures d))
