-- What the tables of a trial and its jobs keep.
use Rattle.std.specs.Prelude.{◌≡◌, ◌*◌, ◌^◌, ◌≤◌, length, All}
use Rattle.dude_base.specs.declared.limits.TheConstants.{PAGE}
use Rattle.dude_base.specs.declared.sizes.Sizes.{Sizes}
use Rattle.tatp_model.specs.Request.{IsInRange}
use Rattle.core_events.specs.Setups.{IsSetup, Setup}
use Rattle.core_table.specs.declared.terms.Terms.{Terms}
use Rattle.core_table.specs.Layout.{TableSight}
use Rattle.stm_transactions.specs.Passes.{PassSight, IsResting}
use Rattle.transaction_trial.specs.declared.job.Job.{Job}
use Rattle.transaction_trial.specs.declared.place.Place.{Place}

-- The tables stand in all pages that threads share, and the words of the start are there
pub record IsReady (place : Place) : Type 0 where
  pub home : place.lay.pages ≡ place.stm.events.setup.pages
  pub words : length place.words.items ≡ place.lay.pages * PAGE

-- The pass rests, and what is asked and what is done is in range
pub record IsFit (t : TableSight Terms) (job : Job) : Type 0 where
  pub rests : IsResting t job.pass
  pub in_range : All IsInRange job.requests.items
  pub done : All (λ d. IsInRange d.request) job.done.items

-- the tables are ready, and the pass is of them and rests
abbrev pub IsOpen : Place → PassSight (Unit {0}) → Type 0
IsOpen place pass = IsReady place × IsResting place.stm.events pass

-- the words of tables of these sizes may be shared so, from the number 0 on
pub record AreTermsOf (s : Sizes) (z : Setup) : Type 0 where
  pub setup : IsSetup z
  pub home : z.pages ≡ s.pages
  pub few : z.pages ≤ 2 ^ 32
  pub first : z.first ≡ 0
