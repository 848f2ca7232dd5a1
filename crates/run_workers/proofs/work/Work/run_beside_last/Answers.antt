use Rattle.std.proofs.Common.{arith}
use Rattle.run_workers.specs.Work.{HasEnded}
use Rattle.run_workers.proofs.JobsRun.{each_joined}
use Rattle.run_workers.proofs.work.Work.run_beside_last.Goals as goal

pub returns : goal.returns
returns g c = λ i d within.
    let s = c.split_at_mut-others in let x = c.run_both in
    rw s.ensures.value (each_joined (HasEnded c.args.self.now) s.result.0.now s.result.1.now x.new.others x.new.last x.auto.others x.ensures.others x.ensures.last i d (omega (arith, s.ensures.front_len, s.ensures.back_len, within)))
