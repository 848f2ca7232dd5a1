use Rattle.std.proofs.Common.{◌+◌, refl, subst}
use Rattle.std.specs.Prelude.{Option}
use Rattle.std.proofs.lemmas.Result.{err_from_is_err_and}
use Rattle.dude_stream.specs.declared.outbox.Outbox.{Outbox}
use Rattle.run_workers.specs.declared.job.Job.{Job}
use Rattle.run_workers.specs.Sending.{IsSameLane}
use Rattle.run_workers.specs.Work.{work_table}
use Rattle.run_workers.proofs.JobSteps.{at_sent, at_turned, failed_at, place_sent, place_turned}
use Rattle.run_workers.proofs.Sending.{lane_then}
use Rattle.run_workers.proofs.work.Work.serve_all.Goals as goal

pub loop-index-preserved : goal.loop-index-preserved
loop-index-preserved g c =
    let t = work_table c.args.self.now in let s = c.args.self.now.lay.now in let requests = c.args.requests.now in let next = c.loop-index.index + 1 in
    let first = c.args.job.now in let job = c.loop-index.job in let one = c.serve_next.new.job in let two = c.send.new.self in
    let three : Job _ = record two { pass = c.take_turn_after.new.p } in
    let h = c.loop-index.invariant in let same = c.send.ensures.same in let turned = c.in_ok-take_turn_after.ensures.ok in
    let at = at_sent t s requests next one two c.in_ok-serve_next.ensures.ok same in
    record {
      place = place_turned t s requests next two three at first (place_sent first job one two h.place c.serve_next.ensures.place same) refl turned;
      lane = lane_then first.outbox job.outbox two.outbox h.lane (subst (λ (b : Option Outbox). IsSameLane b two.outbox) c.serve_next.ensures.outbox c.send.ensures.lane);
      sent = c.send.ensures.sent;
      at = at_turned t s requests next two three at refl turned;
    }

pub returns-in_err-take_turn_after-clause-err : goal.returns-in_err-take_turn_after-clause-err
returns-in_err-take_turn_after-clause-err g c =
    let t = work_table c.args.self.now in let s = c.args.self.now.lay.now in let requests = c.args.requests.now in let next = c.loop-index.index + 1 in
    let one = c.serve_next.new.job in let two = c.send.new.self in let three : Job _ = record two { pass = c.take_turn_after.new.p } in
    let at = at_sent t s requests next one two c.in_ok-serve_next.ensures.ok c.send.ensures.same in
    let failed = failed_at t s requests next two three at _ c.in_err-take_turn_after.ensures.err.0 refl c.in_err-take_turn_after.ensures.err.1 in
    let err = err_from_is_err_and c.from_residual-in_err-take_turn_after.result c.from_residual-in_err-take_turn_after.ensures.1 in
    rw (err.1, err.2) failed
