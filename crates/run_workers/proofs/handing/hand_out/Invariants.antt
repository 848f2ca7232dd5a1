use Rattle.std.proofs.Common.{◌≡◌, ◌<◌, ◌≤◌, ℕ, length, get_or, take, vec_len}
use Rattle.std.specs.Prelude.{Some}
use Rattle.dude_stream.specs.declared.outbox.Outbox.{Outbox}
use Rattle.run_workers.specs.declared.job.Job.{Job}
use Rattle.run_workers.specs.Lanes.{HaveSameWork}
use Rattle.run_workers.proofs.handing.hand_out.Given as goal

-- the jobs from this one on have theirs
abbrev pub invariant-loop-outbox : goal.invariant-loop-outbox
invariant-loop-outbox g l = record {
  rest : l.outboxes.items ≡ take (vec_len l.outboxes) l.fn.outboxes.items;
  few : vec_len l.outboxes ≤ length l.jobs;
  work : HaveSameWork l.fn.jobs l.jobs;
  boxes : (k : ℕ) (d : Job _) (b : Outbox) → vec_len l.outboxes ≤ k → k < length l.jobs → (get_or l.jobs k d).outbox ≡ Some (get_or l.fn.outboxes.items k b);
}

abbrev pub decreases-loop-outbox : goal.decreases-loop-outbox
decreases-loop-outbox g l = vec_len l.outboxes
