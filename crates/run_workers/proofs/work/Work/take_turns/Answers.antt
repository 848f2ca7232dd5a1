use Rattle.std.proofs.Common.{refl}
use Rattle.std.proofs.lemmas.Result.{err_from_is_err_and}
use Rattle.run_workers.specs.declared.job.Job.{Job}
use Rattle.run_workers.specs.Work.{work_table}
use Rattle.run_workers.proofs.JobSteps.{at_turned, failed_at, place_turned}
use Rattle.run_workers.proofs.work.Work.take_turns.Goals as goal

pub loop-round-preserved : goal.loop-round-preserved
loop-round-preserved g c =
    let t = work_table c.args.self.now in let s = c.args.self.now.lay.now in let requests = c.args.requests.now in
    let job = c.loop-round.job in let h = c.loop-round.invariant in let two : Job _ = record job { pass = c.take_turn.new.p } in
    let turned = c.in_ok-take_turn.ensures.ok in
    record {
      place = place_turned t s requests 0 job two h.at c.args.job.now h.place refl turned;
      lane = h.lane;
      sent = h.sent;
      at = at_turned t s requests 0 job two h.at refl turned;
    }

pub returns-in_err-take_turn-clause-err : goal.returns-in_err-take_turn-clause-err
returns-in_err-take_turn-clause-err g c =
    let t = work_table c.args.self.now in let s = c.args.self.now.lay.now in let requests = c.args.requests.now in
    let job = c.loop-round.job in let h = c.loop-round.invariant in let two : Job _ = record job { pass = c.take_turn.new.p } in
    let failed = failed_at t s requests 0 job two h.at _ c.in_err-take_turn.ensures.err.0 refl c.in_err-take_turn.ensures.err.1 in
    let err = err_from_is_err_and c.from_residual.result c.from_residual.ensures.1 in
    rw (err.1, err.2) failed
