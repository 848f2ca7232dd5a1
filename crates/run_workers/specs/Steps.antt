-- A worker between two requests.
use Rattle.std.specs.Prelude.{◌≡◌, ℕ, ◌+◌, ◌*◌, ◌≤◌, false, List, length, vec_capacity}
use Rattle.dude_base.specs.declared.sizes.Sizes.{Sizes}
use Rattle.tatp_model.specs.declared.request.Request.{Request}
use Rattle.core_table.specs.Layout.{TableSight}
use Rattle.stm_transactions.specs.Passes.{PassSight}
use Rattle.request_attempts.specs.Turns.{KeepsRest}
use Rattle.run_workers.specs.declared.job.Job.{Job}
use Rattle.run_workers.specs.declared.work_end.WorkEnd.{WorkEnd}
use Rattle.run_workers.specs.Working.{EndsWith, HasDone}

-- The requests before this index are done; the pass met no fault and may draw 65 numbers for each other one, and there is room
pub record IsAt {X K : Type 0} (t : TableSight K) (s : Sizes) (requests : List Request) (index : ℕ) (job : Job X) : Type 0 where
  pub has_done : HasDone t s job.file requests job.done.items job.pass
  pub at : length job.done.items ≡ index
  pub no_fault : job.pass.numbers.met_fault ≡ false
  pub draws : 65 * length requests ≤ job.pass.numbers.left + 65 * index
  pub room : length requests ≤ vec_capacity job.done

-- the work ends so here
abbrev pub EndsAt : {X K : Type 0} → TableSight K → Sizes → List Request → WorkEnd → Job X → Type 0
EndsAt t s requests end job = EndsWith t s job.file requests end job.done.items job.pass

-- a turn was had, or refused; neither met a fault
pub record HasTurned {X K : Type 0} (t : TableSight K) (p q : PassSight X) : Type 0 where
  pub keeps : KeepsRest t p q
  pub no_fault : q.numbers.met_fault ≡ p.numbers.met_fault
