use Rattle.std.proofs.Common.{◌∙◌, refl, arith}
use Rattle.stm_turns.proofs.LettingGo.{begins_emptying, may_empty_next, emptied_next, emptied_all}
use Rattle.stm_turns.proofs.letting.empty_all.Goals as goal

pub loop-number-init : goal.loop-number-init
loop-number-init g c =
    let q = c.requires.may in let e = c.turn.ensures in
    record { left = (q.hand, q.threads, begins_emptying g.M.Medium.sight c.args.events.now c.args.seat.now c.turn.new.self c.args.home.now q.hand e.0 e.1 e.2 q.may); back = refl }

pub empty_first-requires : goal.empty_first-requires
empty_first-requires g c =
    let l = c.loop-number in let v = l.invariant.left in let q = c.args.gathering.now in
    record { may = may_empty_next g.M.Medium.sight c.args.events.now c.args.seat.now l.seat l.home q.threads q.count l.number v.0 v.1 (omega arith) v.2 }

pub loop-number-preserved : goal.loop-number-preserved
loop-number-preserved g c =
    let l = c.loop-number in let v = l.invariant.left in let q = c.args.gathering.now in let x = c.empty_first in
    record {
      left = emptied_next g.M.Medium.sight c.args.events.now c.args.seat.now l.seat l.home q.threads q.count l.number x.new.seat x.new.home v.0 v.1 (omega arith) v.2 x.ensures.emptied;
      back = x.ensures.back ∙ l.invariant.back;
    }

pub returns-clause-step : goal.returns-clause-step
returns-clause-step g c =
    let l = c.loop-number in let v = l.invariant.left in let q = c.args.gathering.now in
    emptied_all g.M.Medium.sight c.args.events.now c.args.seat.now l.seat l.home q.threads q.count l.number v.0 v.1 (omega arith) c.requires.may.some v.2
