use Rattle.std.proofs.Common.{◌≡◌, ◌<◌, ◌≤◌, ℕ, get_or}
use Rattle.dude_stream.specs.declared.outlet.Outlet.{Outlet}
use Rattle.run_workers.specs.declared.job.Job.{Job}
use Rattle.run_workers.specs.Lanes.{HasReceivedOf, HaveSameWork}
use Rattle.run_workers.proofs.comparing.compare_lanes.Given as goal

-- the lanes before this one are compared, and the others are as they were
abbrev pub invariant-loop-lane : goal.invariant-loop-lane
invariant-loop-lane g l = record {
  work : HaveSameWork l.fn.jobs l.jobs;
  jobs_rest : (k : ℕ) (d : Job _) → l.lane ≤ k → get_or l.jobs k d ≡ get_or l.fn.jobs k d;
  outlets_rest : (k : ℕ) (d : Outlet) → l.lane ≤ k → get_or l.outlets k d ≡ get_or l.fn.outlets k d;
  received : (k : ℕ) (j : Job _) (o : Outlet) → k < l.lane → HasReceivedOf (get_or l.fn.jobs k j).outbox (get_or l.fn.outlets k o);
}
