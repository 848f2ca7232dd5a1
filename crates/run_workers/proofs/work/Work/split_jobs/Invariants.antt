use Rattle.std.proofs.Common.{◌≡◌, ◌+◌, map, vec_capacity, vec_len}
use Rattle.std.specs.Prelude.{All, None}
use Rattle.run_workers.specs.Partings.{AreShared, HasParted}
use Rattle.run_workers.proofs.work.Work.split_jobs.Given as goal

-- the files before this one, but the first one, have their jobs
abbrev pub invariant-loop-file : goal.invariant-loop-file
invariant-loop-file g l = record {
  parted : HasParted l.self.stm.now.events l.initial.first l.first l.jobs.items;
  shared : AreShared l.self.stm.now.events (map (λ f. f.items) l.self.files.now) l.file l.first l.jobs.items;
  count : vec_len l.jobs + 1 ≡ l.file;
  none : All (λ job. job.outbox ≡ None) l.jobs.items;
  capacity : vec_capacity l.jobs ≡ vec_capacity l.initial.jobs;
}
