-- The job of a worker.
use Rattle.std.specs.Prelude.{◌≡◌, ℕ, ◌+◌, ◌*◌, ◌<◌, ◌≤◌, false, List, [], length, slice_index_or, vec_capacity}
use Rattle.dude_base.specs.declared.sizes.Sizes.{Sizes}
use Rattle.tatp_model.specs.declared.request.Request.{Request}
use Rattle.core_events.specs.KeptThreads.{held_of}
use Rattle.core_events.specs.Views.{View}
use Rattle.core_table.specs.Layout.{TableSight}
use Rattle.stm_transactions.specs.Passes.{IsResting, pass_view}
use Rattle.run_workers.specs.declared.job.Job.{Job}
use Rattle.run_workers.specs.Working.{EndsWith}

-- the requests of the file with this number
abbrev pub requests_of : List (List Request) → ℕ → List Request
requests_of files file = slice_index_or files file []

-- how many of the table's threads a view has: those whose numbers it has, and those that may still be split off
abbrev pub thread_count : View → ℕ
thread_count v = held_of v.part + v.part.splits

-- Nothing is done yet. The pass may draw 65 numbers for each request, and there is room for what will be done
pub record IsFresh {X K : Type 0} (t : TableSight K) (requests : List Request) (job : Job X) : Type 0 where
  pub rests : IsResting t job.pass
  pub no_entry : (pass_view job.pass).entries ≡ []
  pub no_fault : job.pass.numbers.met_fault ≡ false
  pub from : t.setup.first ≤ job.pass.numbers.durable
  pub draws : 65 * length requests ≤ job.pass.numbers.left
  pub none : job.done.items ≡ []
  pub room : length requests ≤ vec_capacity job.done

-- its work is done as far as it went
abbrev pub HasWorked : {X K : Type 0} → TableSight K → Sizes → List Request → Job X → Type 0
HasWorked t s requests job = EndsWith t s job.file requests job.end job.done.items job.pass

-- it serves its file still, its pass is whose it was, and its list has the room that it had
pub record KeepsPlace {X : Type 0} (old new : Job X) : Type 0 where
  pub file : new.file ≡ old.file
  pub part : (pass_view new.pass).part ≡ (pass_view old.pass).part
  pub room : vec_capacity new.done ≡ vec_capacity old.done

-- so it is of each
abbrev pub KeepPlaces : {X : Type 0} → List (Job X) → List (Job X) → Type 0
KeepPlaces {X} old new = (i : ℕ) (d : Job X) → i < length old → KeepsPlace (slice_index_or old i d) (slice_index_or new i d)

-- the job of one of these files, of which nothing is done yet
pub record IsJobOf {X K : Type 0} (t : TableSight K) (files : List (List Request)) (job : Job X) : Type 0 where
  pub there : job.file < length files
  pub fresh : IsFresh t (requests_of files job.file) job

-- the work on its file is done as far as it went
abbrev pub HasWorkedOn : {X K : Type 0} → TableSight K → Sizes → List (List Request) → Job X → Type 0
HasWorkedOn t s files job = HasWorked t s (requests_of files job.file) job
