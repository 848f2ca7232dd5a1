-- The jobs of all files.
use Rattle.std.specs.Prelude.{◌≡◌, ℕ, ◌+◌, ◌*◌, ◌<◌, ◌≤◌, ⊤, false, List, [], ◌∷◌, length, map, All, vec_capacity}
use Rattle.std.specs.List.{range_with_len, sum_by}
use Rattle.dude_base.specs.declared.sizes.Sizes.{Sizes}
use Rattle.tatp_model.specs.declared.request.Request.{Request}
use Rattle.tatp_model.specs.Request.{IsInRange}
use Rattle.core_events.specs.Telling.{HasAll}
use Rattle.core_table.specs.Layout.{TableSight}
use Rattle.stm_transactions.specs.Passes.{PassSight, IsResting, pass_view}
use Rattle.run_workers.specs.declared.job.Job.{Job}
use Rattle.run_workers.specs.declared.jobs.Jobs.{Jobs}
use Rattle.run_workers.specs.Job.{IsFresh, HasWorked, requests_of, thread_count}

-- how many requests there are in all
abbrev pub request_count : List (List Request) → ℕ
request_count files = sum_by (λ requests. length requests) files

-- Passes may be split off this one for all of these files: it has done nothing, has all threads of the table, a split for each file but
-- the first one, and 65 numbers for each request
pub record MayShare {X K : Type 0} (t : TableSight K) (files : List (List Request)) (p : PassSight X) : Type 0 where
  pub rests : IsResting t p
  pub all : HasAll t.setup (pass_view p)
  pub no_entry : (pass_view p).entries ≡ []
  pub no_fault : p.numbers.met_fault ≡ false
  pub from : t.setup.first ≤ p.numbers.durable
  pub some : 0 < length files
  pub splits : length files ≤ p.numbers.splits + 1
  pub draws : 65 * request_count files ≤ p.numbers.left

-- There is a job for each file, in their order, of which this holds; their passes have all threads of the table
pub record AreJobs {X K : Type 0} (t : TableSight K) (files : List (List Request)) (holds : List Request → Job X → Type 0) (jobs : List (Job X)) : Type 0 where
  pub each : All (λ job. holds (requests_of files job.file) job) jobs
  pub in_order : map (λ job. job.file) jobs ≡ range_with_len 0 (length files)
  pub threads : sum_by (λ job. thread_count (pass_view job.pass)) jobs ≡ t.setup.threads

-- nothing of the files is done yet
abbrev pub AreFresh : {X K : Type 0} → TableSight K → List (List Request) → List (Job X) → Type 0
AreFresh t files jobs = AreJobs t files (IsFresh t) jobs

-- all workers have ended
abbrev pub HaveWorked : {X K : Type 0} → TableSight K → Sizes → List (List Request) → List (Job X) → Type 0
HaveWorked t s files jobs = AreJobs t files (HasWorked t s) jobs

-- the home is the table's, and each request of each file is in range
pub record MayWorkOn {K : Type 0} (t : TableSight K) (s : Sizes) (files : List (List Request)) : Type 0 where
  pub home : s.pages ≡ t.setup.pages
  pub in_range : All (All IsInRange) files

-- the list of the first of these jobs has room for so many
abbrev pub FirstHasRoom : {X : Type 0} → ℕ → List (Job X) → Type 0
FirstHasRoom count [] = ⊤
FirstHasRoom count (first ∷ others) = count ≤ vec_capacity first.done

-- there is room for all that may be done, in the first job's list, and for a count for each file
pub record HasRoom {X : Type 0} (files : List (List Request)) (jobs : Jobs X) : Type 0 where
  pub done : FirstHasRoom (request_count files) jobs.each.items
  pub counts : (jobs.counts.items ≡ []) × (length files ≤ vec_capacity jobs.counts)

-- the jobs' passes rest, and there is room for all that they did, in the first one's list
pub record MayJoin {X K : Type 0} (t : TableSight K) (jobs : Jobs X) : Type 0 where
  pub some : 0 < length jobs.each.items
  pub rests : All (λ job. IsResting t job.pass) jobs.each.items
  pub done : FirstHasRoom (sum_by (λ job. length job.done.items) jobs.each.items) jobs.each.items
  pub counts : (jobs.counts.items ≡ []) × (length jobs.each.items ≤ vec_capacity jobs.counts)

-- the pass q is p, with all threads, to which what was split off came back; it may split off fewer
pub record IsBack {X K : Type 0} (t : TableSight K) (p q : PassSight X) : Type 0 where
  pub rests : IsResting t q
  pub all : HasAll t.setup (pass_view q)
  pub entries : (pass_view q).entries ≡ (pass_view p).entries
  pub numbers : q.numbers ≡ record p.numbers { splits = q.numbers.splits }
