use Rattle.std.proofs.Common.{inl, inr}
use Rattle.dude_stream.proofs.Giving.{at_any}
use Rattle.dude_stream.proofs.Receiving.{IsJoined, drained_next, gathered_some_then, gathered_then, lessens_then}
use Rattle.dude_stream.proofs.gathering.gather_round.Goals as goal
use Rattle.dude_stream.proofs.gathering.gather_round.Goals.{then-branch, else-branch}

pub loop-lane-preserved : goal.loop-lane-preserved
loop-lane-preserved c =
    let joined : IsJoined c.loop-lane.some c.in_ok-gather_lane.field-0 c.if-branch.some
    = elim c.if-branch.branch [ then-branch w ↦ inl (w.if-branch.true, w.some-is) | else-branch w ↦ inr (w.if-branch.false, w.some-is) ] in
    let turn = c.in_ok-gather_lane.ensures.turn in
    record {
      gathered = gathered_then c.args.outlets.now c.loop-lane.outlets c.gather_lane.new.outlets c.args.text.now.items c.loop-lane.text.items c.gather_lane.new.text.items
          c.loop-lane.invariant.gathered c.in_ok-gather_lane.ensures.ok;
      end = c.loop-lane.invariant.end;
      drained = drained_next c.loop-lane.lane c.loop-lane.outlets c.gather_lane.new.outlets c.loop-lane.some c.in_ok-gather_lane.field-0 c.if-branch.some joined c.loop-lane.invariant.drained turn;
      lessens = lessens_then c.args.outlets.now c.loop-lane.outlets c.gather_lane.new.outlets c.loop-lane.some c.in_ok-gather_lane.field-0 c.if-branch.some joined c.loop-lane.invariant.lessens turn.lessens;
    }

pub returns-in_err-gather_lane-clause-err : goal.returns-in_err-gather_lane-clause-err
returns-in_err-gather_lane-clause-err c =
    at_any c.from_residual.result
    (gathered_some_then c.args.outlets.now c.loop-lane.outlets c.gather_lane.new.outlets c.args.text.now.items c.loop-lane.text.items c.gather_lane.new.text.items
    c.loop-lane.invariant.gathered c.in_err-gather_lane.ensures.err)
