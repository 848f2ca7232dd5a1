use Rattle.std.proofs.Common.{◌+◌, ◌≤◌, inl, inr, sym, arith}
use Rattle.request_attempts.proofs.Serving.{served_on, again_unserved, drawn_often, serving_rests}
use Rattle.request_attempts.proofs.TriesMade.{rises_less}
use Rattle.request_attempts.specs.Counting.{PATIENCE, RisesBy}
use Rattle.request_attempts.proofs.serve.serve_one.Goals as goal

pub returns-in-Done-clause-rests : goal.returns-in-Done-clause-rests
returns-in-Done-clause-rests g c = serving_rests 1 c.args.stm.now.events c.args.lay.now c.args.file c.args.index c.args.q.now c.in-Done.done c.loop-attempt.p c.try_once.new.p c.in-Done.ensures

pub returns-in-Done-clause-ok : goal.returns-in-Done-clause-ok
returns-in-Done-clause-ok g c = served_on c.loop-attempt.attempt c.args.stm.now.events c.args.p.now c.loop-attempt.p c.loop-attempt.invariant c.args.lay.now c.args.file c.args.index c.args.q.now c.in-Done.done c.try_once.new.p c.in-Done.ensures

pub returns-then-is_given_up-clause-err : goal.returns-then-is_given_up-clause-err
returns-then-is_given_up-clause-err g c = again_unserved c.loop-attempt.attempt c.args.stm.now.events c.args.p.now c.loop-attempt.p c.loop-attempt.invariant 65 c.try_once.new.p c.in-Again.ensures (omega arith)

pub returns-then-is_given_up-clause-refused : goal.returns-then-is_given_up-clause-refused
returns-then-is_given_up-clause-refused g c is =
    let rises : RisesBy PATIENCE c.args.p.now.numbers.refused c.try_once.new.p.numbers.refused = rw (sym c.refused-before.ensures, sym c.refused.ensures) c.if-is_given_up.ensures in record {
      cause = inr rises;
      often = rises_less c.args.p.now.numbers.refused c.try_once.new.p.numbers.refused PATIENCE 64 (omega arith) rises;
      unserved = again_unserved c.loop-attempt.attempt c.args.stm.now.events c.args.p.now c.loop-attempt.p c.loop-attempt.invariant 64 c.try_once.new.p c.in-Again.ensures (omega arith);
    }

pub returns-then-is_drawn_out-clause-err : goal.returns-then-is_drawn_out-clause-err
returns-then-is_drawn_out-clause-err g c = again_unserved c.loop-attempt.attempt c.args.stm.now.events c.args.p.now c.loop-attempt.p c.loop-attempt.invariant 65 c.try_once.new.p c.in-Again.ensures (omega arith)

pub returns-then-is_drawn_out-clause-refused : goal.returns-then-is_drawn_out-clause-refused
returns-then-is_drawn_out-clause-refused g c is =
    let drawn : c.try_once.new.p.numbers.left + 64 ≤ c.args.p.now.numbers.left = rw (sym c.left-room.ensures, sym c.left.ensures) c.if-is_drawn_out.ensures in record {
      cause = inl drawn;
      often = drawn_often c.loop-attempt.attempt c.args.stm.now.events c.args.p.now c.loop-attempt.p c.loop-attempt.invariant c.try_once.new.p c.in-Again.ensures drawn;
      unserved = again_unserved c.loop-attempt.attempt c.args.stm.now.events c.args.p.now c.loop-attempt.p c.loop-attempt.invariant 64 c.try_once.new.p c.in-Again.ensures (omega arith);
    }
