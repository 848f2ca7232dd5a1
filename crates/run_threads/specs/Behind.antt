-- What one thread ran behind the threads of a run.
use Rattle.std.specs.Prelude.{◌≡◌, ℕ, ◌≤◌, All, IsTrue, List}
use Rattle.dude_base.specs.declared.sizes.Sizes.{Sizes}
use Rattle.pmem_trait.specs.Sights.{Risen, Sight, state_now}
use Rattle.tatp_model.specs.declared.done.Done.{Done}
use Rattle.tatp_model.specs.declared.request.Request.{Request}
use Rattle.tatp_model.specs.Database.{Database}
use Rattle.tatp_model.specs.OneThread.{is_sync}
use Rattle.tatp_layout.specs.StandsFor.{IsLawful, StandsFor}
use Rattle.back_store.specs.Back.{idle}
use Rattle.back_store.specs.Operations.{MakesOperations}
use Rattle.back_store.specs.Told.{WereTold}
use Rattle.dude_engine.specs.declared.ran.RanEnd.{RanEnd}
use Rattle.dude_engine.specs.declared.ran.RanEnd.TheVariants.{Device, Whole}
use Rattle.dude_engine.specs.Opening.{Opening}
use Rattle.dude_engine.specs.Endings.{AreSyncsTold}
use Rattle.dude_engine.specs.Plain.{AnswersFiles, IsWhole, LosesFew, RanUnlessDevice, RecoversOnTheRun, most_lost, ran_well}

-- it opened the image at this number, with this database
abbrev pub reopening : Sizes → ℕ → Database → Opening
reopening sizes last db = record { number = last; sizes = sizes; database = db }

-- These files were run from the number on, with these words in the home, whatever database they stand for.
pub record RanBehind (sizes : Sizes) (last : ℕ) (words : List ℕ) (files : List (List Request)) (done : List Done) (end : RanEnd) (number : ℕ) (t u : Sight) : Type 0 where
  pub some : IsLawful sizes words
  pub answers : (db : Database) → StandsFor sizes words db → AnswersFiles (reopening sizes last db) files done
  pub least : All (λ d. IsTrue (is_sync d.request) → last ≤ d.number) done
  pub syncs : IsTrue t.is_visible → AreSyncsTold done t u
  pub moments : (db : Database) → StandsFor sizes words db → RecoversOnTheRun (reopening sizes last db) words done t u
  pub whole : end ≡ Whole → (db : Database) → StandsFor sizes words db → IsWhole (reopening sizes last db) words files done number t u
  pub operates : end ≡ Whole → MakesOperations (idle sizes last) t u
  pub from : last ≤ number
  pub told : IsTrue t.is_visible → WereTold (ran_well end) last number (state_now t).told (state_now u).told
  pub len : u.len ≡ t.len
  pub ran : RanUnlessDevice end t u
  pub cause : end ≡ Device → Risen t.faults u.faults
  pub few_lost : (db : Database) → StandsFor sizes words db → LosesFew (most_lost end) (reopening sizes last db) words done t u
