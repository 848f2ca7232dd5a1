use Rattle.std.proofs.Common.{◌≡◌, ◌≤◌, List, ◌++◌, length, vec_capacity}
use Rattle.std.specs.List.{All, sum_by}
use Rattle.std.specs.Vec.Iter.{into_iter_items, into_iter_len}
use Rattle.stm_transactions.specs.Passes.{IsResting}
use Rattle.run_workers.specs.declared.job.Job.{Job}
use Rattle.run_workers.specs.Joined.{AreJoined}
use Rattle.run_workers.proofs.joining.join_jobs.Given as goal

-- the jobs before this one are joined, and there is room for what all did
abbrev pub invariant-loop-job : goal.invariant-loop-job
invariant-loop-job g l = record {
  joined : (gathered : List (Job _)) × (gathered ++ into_iter_items l.others ≡ l.fn.jobs.each.items) × AreJoined l.stm.events gathered l.joined;
  rests : All (λ job. IsResting l.stm.events job.pass) (into_iter_items l.others);
  count : into_iter_len l.others ≡ length (into_iter_items l.others);
  done : sum_by (λ job. length job.done.items) l.fn.jobs.each.items ≤ vec_capacity l.joined.done;
  counts : length l.fn.jobs.each.items ≤ vec_capacity l.joined.counts;
}

abbrev pub decreases-loop-job : goal.decreases-loop-job
decreases-loop-job g l = into_iter_len l.others
