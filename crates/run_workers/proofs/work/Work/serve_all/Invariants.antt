use Rattle.run_workers.specs.Job.{KeepsPlace}
use Rattle.run_workers.specs.Sending.{IsSameLane, SendsFirst}
use Rattle.run_workers.specs.Steps.{IsAt}
use Rattle.run_workers.proofs.work.Work.serve_all.Given as goal

-- the requests before this one are done
abbrev pub invariant-loop-index : goal.invariant-loop-index
invariant-loop-index g l = record {
  place : KeepsPlace l.initial.job l.job;
  lane : IsSameLane l.initial.job.outbox l.job.outbox;
  sent : SendsFirst l.job;
  at : IsAt l.self.stm.now.events l.self.lay.now l.requests l.index l.job;
}
