-- Passes are split off for files, and come back.
use Rattle.std.specs.Prelude.{◌≡◌, ℕ, ◌+◌, ◌-◌, ◌*◌, ◌≤◌, List, [], length, map, drop, All, vec_capacity}
use Rattle.std.specs.List.{range_with_len, sum_by}
use Rattle.tatp_model.specs.declared.request.Request.{Request}
use Rattle.core_table.specs.Layout.{TableSight}
use Rattle.stm_transactions.specs.Numbers.{newcomer_numbers}
use Rattle.stm_transactions.specs.Partings.{IsSplitOff}
use Rattle.stm_transactions.specs.Passes.{PassSight, IsResting, pass_view}
use Rattle.run_workers.specs.declared.job.Job.{Job}
use Rattle.run_workers.specs.Job.{IsFresh, requests_of, thread_count}
use Rattle.run_workers.specs.Jobs.{request_count}

-- a pass that did nothing yet
pub record IsNewcomer {X K : Type 0} (t : TableSight K) (p : PassSight X) : Type 0 where
  pub rests : IsResting t p
  pub no_entry : (pass_view p).entries ≡ []
  pub numbers : p.numbers ≡ newcomer_numbers p.numbers.thread p.numbers.left t.setup.first

-- The pass of the job of a file was split off p, which is q now, and there is room for all requests of the file
pub record IsPartOf {X K : Type 0} (t : TableSight K) (file : ℕ) (requests : List Request) (p q : PassSight X) (job : Job X) : Type 0 where
  pub split : IsSplitOff t (65 * length requests) p q job.pass
  pub file_is : job.file ≡ file
  pub none : job.done.items ≡ []
  pub room : length requests ≤ vec_capacity job.done

-- the pass q is p without what the jobs' passes have, and tells the same but for its draws and splits
pub record HasParted {X K : Type 0} (t : TableSight K) (p q : PassSight X) (jobs : List (Job X)) : Type 0 where
  pub rests : IsResting t q
  pub entries : (pass_view q).entries ≡ (pass_view p).entries
  pub numbers : q.numbers ≡ record p.numbers { left = q.numbers.left; splits = q.numbers.splits }
  pub left : q.numbers.left + sum_by (λ job. job.pass.numbers.left) jobs ≡ p.numbers.left
  pub threads : thread_count (pass_view q) + sum_by (λ job. thread_count (pass_view job.pass)) jobs ≡ thread_count (pass_view p)
  pub newcomers : All (λ job. IsNewcomer t job.pass) jobs

-- The files from the second one to before this one have their jobs, and the pass has draws and splits for the others
pub record AreShared {X K : Type 0} (t : TableSight K) (files : List (List Request)) (file : ℕ) (q : PassSight X) (jobs : List (Job X)) : Type 0 where
  pub each : All (λ job. IsFresh t (requests_of files job.file) job) jobs
  pub in_order : map (λ job. job.file) jobs ≡ range_with_len 1 (file - 1)
  pub draws : 65 * (length (requests_of files 0) + request_count (drop file files)) ≤ q.numbers.left
  pub splits : length files ≤ q.numbers.splits + file

-- The pass q is p with what the jobs' passes had
pub record HasTakenBack {X K : Type 0} (t : TableSight K) (jobs : List (Job X)) (p q : PassSight X) : Type 0 where
  pub rests : IsResting t q
  pub entries : (pass_view q).entries ≡ (pass_view p).entries
  pub numbers : q.numbers ≡ record p.numbers { left = q.numbers.left; splits = q.numbers.splits }
  pub left : q.numbers.left ≡ p.numbers.left + sum_by (λ job. job.pass.numbers.left) jobs
  pub threads : thread_count (pass_view q) ≡ thread_count (pass_view p) + sum_by (λ job. thread_count (pass_view job.pass)) jobs
