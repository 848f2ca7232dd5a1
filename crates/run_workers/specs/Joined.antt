-- What all workers did together.
use Rattle.std.specs.Prelude.{◌≡◌, ◌↔◌, ℕ, ◌+◌, ◌<◌, ◌≤◌, true, IsTrue, List, [], ◌∷◌, ◌++◌, length, map, take, drop, All, Any, slice_index}
use Rattle.std.specs.List.{flat_map, sum_by}
use Rattle.dude_base.specs.declared.sizes.Sizes.{Sizes}
use Rattle.tatp_model.specs.declared.request.Request.{Request}
use Rattle.tatp_model.specs.OneThread.{is_sync, AllAreDone, HoldsPrefixes}
use Rattle.run_order.specs.Runs.{SyncsFollow}
use Rattle.run_order.specs.Rests.{LengthsAre, files_of, firsts_of}
use Rattle.legal_entries.specs.Served.{AreDoneBy, IsServed}
use Rattle.core_events.specs.Telling.{HasAll}
use Rattle.core_table.specs.Layout.{TableSight}
use Rattle.stm_transactions.specs.Passes.{PassSight, IsResting, pass_view}
use Rattle.run_workers.specs.declared.job.Job.{Job}
use Rattle.run_workers.specs.declared.joined.Joined.{Joined}
use Rattle.run_workers.specs.declared.work_end.WorkEnd.TheVariants.{Whole, SetAside, NoMemory, Device}
use Rattle.run_workers.specs.Job.{thread_count}
use Rattle.run_workers.specs.Jobs.{HaveWorked, request_count}
use Rattle.run_workers.specs.WorkEnd.{IsWorst}
use Rattle.run_workers.specs.Working.{IsSynced}

-- ---- jobs that are joined
-- a pass that took in those of all jobs
pub record TookIn {X K : Type 0} (t : TableSight K) (jobs : List (Job X)) (p : PassSight X) : Type 0 where
  pub rests : IsResting t p
  pub threads : thread_count (pass_view p) ≡ sum_by (λ job. thread_count (pass_view job.pass)) jobs
  pub entries : (pass_view p).entries ≡ flat_map (λ job. (pass_view job.pass).entries) jobs
  pub left : p.numbers.left ≡ sum_by (λ job. job.pass.numbers.left) jobs
  pub durable : All (λ job. job.pass.numbers.durable ≤ p.numbers.durable) jobs
  pub met_fault : p.numbers.met_fault ≡ true ↔ Any (λ job. job.pass.numbers.met_fault ≡ true) jobs

-- what the jobs did, one after another, and how they ended
pub record AreJoined {X K : Type 0} (t : TableSight K) (jobs : List (Job X)) (joined : Joined X) : Type 0 where
  pub pass : TookIn t jobs joined.pass
  pub done : joined.done.items ≡ flat_map (λ job. job.done.items) jobs
  pub counts : joined.counts.items ≡ map (λ job. length job.done.items) jobs
  pub end : IsWorst (map (λ job. job.end) jobs) joined.end

-- one more job was taken in: what some jobs did is now what they and this one did
abbrev pub TakesIn : {X K : Type 0} → TableSight K → Job X → Joined X → Joined X → Type 0
TakesIn {X} t job old new = (jobs : List (Job X)) → AreJoined t jobs old → AreJoined t (jobs ++ job ∷ []) new

-- ---- files that were served
-- files in two parts, of which the first has so many requests
abbrev pub parts_by : List ℕ → List (List Request) → List (List Request × List Request)
parts_by [] files = []
parts_by (n ∷ counts) [] = []
parts_by (n ∷ counts) (requests ∷ files) = (take n requests, drop n requests) ∷ parts_by counts files

-- Of each file the first requests are done, so many as are counted
pub record AreCounted {X : Type 0} (files : List (List Request)) (joined : Joined X) : Type 0 where
  pub files_are : files_of (parts_by joined.counts.items files) ≡ files
  pub lengths : LengthsAre (slice_index joined.counts.items) 0 (firsts_of (parts_by joined.counts.items files))
  pub all : AllAreDone (firsts_of (parts_by joined.counts.items files)) joined.done.items
  pub held : HoldsPrefixes files joined.done.items

-- The workers served first requests of the files, and the one pass that is left tells of all
pub record AreServed {X K : Type 0} (t : TableSight K) (s : Sizes) (files : List (List Request)) (joined : Joined X) : Type 0 where
  pub rests : IsResting t joined.pass
  pub all : HasAll t.setup (pass_view joined.pass)
  pub counted : AreCounted files joined
  -- what is done is what the entries of the pass did, and each `SYNC`
  pub served : All (IsServed s) (pass_view joined.pass).entries
  pub done_by : AreDoneBy (firsts_of (parts_by joined.counts.items files)) (pass_view joined.pass).entries joined.done.items
  -- a `SYNC` has a number from the first one to the durable one, and no earlier request of its file has a greater one
  pub syncs_follow : SyncsFollow joined.done.items
  pub syncs : All (λ d. IsTrue (is_sync d.request) → IsSynced t.setup.first joined.pass.numbers.durable d) joined.done.items
  -- all requests are done
  pub whole : joined.end ≡ Whole → AllAreDone files joined.done.items
  -- some are left, and the pass may draw a number for each
  pub set_aside : joined.end ≡ SetAside → (length joined.done.items < request_count files) × (request_count files ≤ length joined.done.items + joined.pass.numbers.left)
  pub no_memory : joined.end ≡ NoMemory → length joined.done.items < request_count files
  -- exactly where the pass met a fault
  pub device : joined.end ≡ Device ↔ joined.pass.numbers.met_fault ≡ true

-- jobs that have worked, joined, have served their files
abbrev pub LawOfJobs : {X K : Type 0} → TableSight K → Sizes → List (List Request) → List (Job X) → Joined X → Type 0
LawOfJobs t s files jobs joined = HaveWorked t s files jobs → AreJoined t jobs joined → AreServed t s files joined
