-- What one transaction for a request leaves of its pass.
use Rattle.std.specs.Prelude.{◌≡◌, ◌≢◌, ℕ, ◌<◌, ◌≤◌, Bool, true, Some, Ok, Err}
use Rattle.dude_base.specs.declared.sizes.Sizes.{Sizes}
use Rattle.word_space.specs.declared.stop.Stop.{Stop}
use Rattle.word_space.specs.declared.stop.Stop.TheVariants as stop
use Rattle.tatp_model.specs.declared.request.Request.{Request}
use Rattle.core_table.specs.Layout.{TableSight}
use Rattle.stm_transactions.specs.declared.lost.Lost.{Lost as LostOf}
use Rattle.stm_transactions.specs.declared.lost.Lost.TheVariants as lost
use Rattle.stm_transactions.specs.Numbers.{with_refusals}
use Rattle.stm_transactions.specs.Passes.{PassSight, IsResting, IsRefused, pass_view}
use Rattle.stm_transactions.specs.Counts.{after_commit}
use Rattle.stm_transactions.specs.Stops.{counts}
use Rattle.request_attempts.specs.declared.once.Once.{Once}
use Rattle.request_attempts.specs.declared.once.Once.TheVariants.{Done, Full, Stopped, Lost}
use Rattle.request_attempts.specs.Served.{HasServed}

-- A read or a write stopped it, and it made no entry. A page that was out exists, and there was room for all writes
pub record HasStopped {X K : Type 0} (t : TableSight K) (e : Stop) (p r : PassSight X) : Type 0 where
  pub rests : IsResting t r
  pub part : (pass_view r).part ≡ (pass_view p).part
  pub entries : (pass_view r).entries ≡ (pass_view p).entries
  -- so many refusals were counted, the last one for this Stop
  pub refusals : ℕ
  pub counts_it : counts (Some e) ≤ refusals
  pub numbers : r.numbers ≡ with_refusals refusals p.numbers
  pub inside : (page : ℕ) → e ≡ stop.Out page → page < t.setup.pages
  pub narrow : e ≢ stop.Wide

-- Its commit was lost, and it made no entry. A page that was out exists
pub record WasLost {X K : Type 0} (t : TableSight K) (l : LostOf) (p r : PassSight X) : Type 0 where
  pub rests : IsResting t r
  pub part : (pass_view r).part ≡ (pass_view p).part
  pub entries : (pass_view r).entries ≡ (pass_view p).entries
  -- so many refusals were counted in front of the loss
  pub refusals : ℕ
  pub numbers : r.numbers ≡ with_refusals refusals (after_commit true (Err l) t.setup.boxes p.numbers)
  pub inside : (page : ℕ) → l ≡ lost.Out page → page < t.setup.pages

-- the numbers of the pass are those after an entry with this number
abbrev pub CountsEntry : {X K : Type 0} → TableSight K → ℕ → PassSight X → PassSight X → Type 0
CountsEntry t n p r = (refusals : ℕ) × (wrote : Bool) × (r.numbers ≡ with_refusals refusals (after_commit wrote (Ok n) t.setup.boxes p.numbers))

-- what it leaves, by how it ended
abbrev pub AfterOnce : {X K : Type 0} → TableSight K → Sizes → ℕ → ℕ → Request → Once → PassSight X → PassSight X → Type 0
AfterOnce t s file index q (Done d) p r = HasServed t s file index q p r d × CountsEntry t d.number p r
AfterOnce t s file index q (Full seen) p r = IsRefused t seen p r
AfterOnce t s file index q (Stopped e) p r = HasStopped t e p r
AfterOnce t s file index q (Lost l) p r = WasLost t l p r
