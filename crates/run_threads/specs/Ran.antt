-- What is left of a run on threads, by what it started from.
use Rattle.std.specs.Prelude.{◌≡◌, ℕ, ◌≤◌, true, IsTrue, List, []}
use Rattle.dude_base.specs.declared.sizes.Sizes.{Sizes}
use Rattle.pmem_trait.specs.Sights.{Risen, Sight}
use Rattle.pmem_trait.specs.declared.medium.Medium.{Ghosts}
use Rattle.tatp_model.specs.declared.done.Done.{Done}
use Rattle.tatp_model.specs.declared.request.Request.{Request}
use Rattle.tatp_model.specs.Database.{Database}
use Rattle.tatp_model.specs.OneThread.{RepliesOfOneThread}
use Rattle.tatp_layout.specs.StandsFor.{StandsFor}
use Rattle.run_order.specs.Printed.{NumbersOfOneThread}
use Rattle.back_store.specs.Back.{BackState}
use Rattle.back_store.specs.BackView.{medium_of}
use Rattle.back_store.specs.Operations.{MakesOperations}
use Rattle.core_events.specs.Setups.{Setup}
use Rattle.stm_slots.specs.Calls.{StartsKnown}
use Rattle.dude_recover.specs.declared.opened.Opened.{Opened}
use Rattle.dude_engine.specs.declared.ran.Ran.{Ran}
use Rattle.dude_engine.specs.declared.ran.RanEnd.{RanEnd}
use Rattle.dude_engine.specs.declared.ran.RanEnd.TheVariants.{Device, NoMemory, Whole}
use Rattle.dude_engine.specs.Opening.{Opening}
use Rattle.dude_engine.specs.Plain.{IsLastTold, LosesFew, RanUnlessDevice, most_lost, ran_well}
use Rattle.run_threads.specs.Answers.{TellsSyncsOnThreads}
use Rattle.run_threads.specs.Ends.{AnyNumber, EndsWhole, RecoversOnThreads}

-- What a run started from: what its transactions were set up with, the sizes of the image, and the back and its medium.
pub record Start : Type 0 where
  pub setup : Setup
  pub sizes : Sizes
  pub state : BackState
  pub sight : Sight

-- with this database
abbrev pub opening_of : Start → Database → Opening
opening_of k db = record { number = k.setup.first; sizes = k.sizes; database = db }

-- the home stands for this database
abbrev pub StandsAt : Start → Database → Type 0
StandsAt k db = StandsFor k.sizes k.setup.opening db

-- What is left of a run on threads that started so, for each database for which the home stood.
pub record RanFrom (k : Start) (files : List (List Request)) (done : List Done) (end : RanEnd) (last : ℕ) (t : Sight) : Type 0 where
  pub numbers : NumbersOfOneThread k.setup.first files done
  pub replies : k.setup.is_told ≡ true → (db : Database) → StandsAt k db → RepliesOfOneThread k.setup.first k.sizes.calls db files done
  pub syncs : TellsSyncsOnThreads k.setup.first done k.sight t
  pub moments : (db : Database) → StandsAt k db → RecoversOnThreads (opening_of k db) k.setup.opening done k.sight t
  pub len : t.len ≡ k.sight.len
  pub whole : end ≡ Whole → (db : Database) → StandsAt k db → EndsWhole AnyNumber (opening_of k db) k.setup.opening files done last k.sight t
  pub operates : end ≡ Whole → MakesOperations k.state k.sight t
  pub from : k.setup.first ≤ last
  pub last_told : IsTrue k.sight.is_visible → (db : Database) → IsLastTold end (opening_of k db) last k.sight t
  pub ran : RanUnlessDevice end k.sight t
  pub cause : end ≡ Device → Risen k.sight.faults t.faults
  pub few_lost : ran_well end ≡ true → (db : Database) → StandsAt k db → LosesFew (most_lost end) (opening_of k db) k.setup.opening done k.sight t

-- Nothing was run of this image for want of memory: nothing is done, and its medium is as it was.
pub record RanNothing {M : Type 0} {ghosts : Ghosts M} (o : Opened M ghosts) (ran : Ran M) : Type 0 where
  pub none : ran.done.items ≡ []
  pub medium : ran.medium ≡ medium_of o.back
  pub end : ran.end ≡ NoMemory
  pub last : ran.last ≡ o.number
  pub known : StartsKnown o.back
