use Rattle.std.proofs.Common.{◌≡◌, List, ◌++◌, vec_len}
use Rattle.std.specs.List.{All}
use Rattle.run_workers.specs.declared.job.Job.{Job}
use Rattle.run_workers.specs.Partings.{HasTakenBack, IsNewcomer}
use Rattle.run_workers.proofs.work.Work.take_back.Given as goal

-- the passes of the jobs that were popped came back
abbrev pub invariant-loop-job : goal.invariant-loop-job
invariant-loop-job g l = record {
  newcomers : All (λ job. IsNewcomer l.self.stm.now.events job.pass) l.jobs.items;
  back : (popped : List (Job _)) × (l.jobs.items ++ popped ≡ l.fn.jobs.items) × HasTakenBack l.self.stm.now.events popped l.fn.first l.pass;
}

abbrev pub decreases-loop-job : goal.decreases-loop-job
decreases-loop-job g l = vec_len l.jobs
