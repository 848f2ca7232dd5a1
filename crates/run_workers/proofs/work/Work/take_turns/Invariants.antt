use Rattle.run_workers.specs.Job.{KeepsPlace}
use Rattle.run_workers.specs.Sending.{IsSameLane, SendsFirst}
use Rattle.run_workers.specs.Steps.{IsAt}
use Rattle.run_workers.proofs.work.Work.take_turns.Given as goal

-- still none of the requests is done
abbrev pub invariant-loop-round : goal.invariant-loop-round
invariant-loop-round g l = record {
  place : KeepsPlace l.initial.job l.job;
  lane : IsSameLane l.initial.job.outbox l.job.outbox;
  sent : SendsFirst l.job;
  at : IsAt l.self.stm.now.events l.self.lay.now l.requests 0 l.job;
}
