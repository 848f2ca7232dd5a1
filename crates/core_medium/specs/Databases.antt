-- What a crash of the machine with its medium leaves, as a database: over an opening array that stands for one, where each entry is that of a
-- request that was served on its reads.
use Rattle.std.specs.Prelude.{◌≡◌, ℕ, ◌≤◌, true, List, All, map}
use Rattle.dude_base.specs.Image.{image_words}
use Rattle.pmem_trait.specs.Words.{IsIn, EveryImage}
use Rattle.tatp_model.specs.declared.request.Request.{Request}
use Rattle.tatp_model.specs.declared.done.Done.{Done}
use Rattle.tatp_model.specs.Database.{Database}
use Rattle.tatp_model.specs.OneThread.{after_number, IsPrintedOrder}
use Rattle.tatp_layout.specs.StandsFor.{StandsFor}
use Rattle.image_recovery.specs.Recovered.{RecoversTo}
use Rattle.core_events.specs.Setups.{Setup}
use Rattle.core_events.specs.Entries.{all_entries}
use Rattle.core_medium.specs.Stores.{medium_of}
use Rattle.core_medium.specs.Machines.{Machine, MachineStep}
use Rattle.core_medium.specs.MachineLaws.{IsReached}
use Rattle.run_order.specs.Numbers.{AreDatabases}
use Rattle.legal_entries.specs.Served.{done_of, IsServed, AreDoneBy}

-- The machine is reached over an opening array that stands for a database, it is known what the medium gives, and each entry is that of a
-- served request.
pub record IsServedMachine (z : Setup) (ss : List MachineStep) (m : Machine) (db : Database) : Type 0 where
  pub reached : IsReached z ss m
  pub told : z.is_told ≡ true
  pub opening : StandsFor m.store.log.sizes z.opening db
  pub served : All (IsServed m.store.log.sizes) (all_entries m.core.views)

-- the image recovers to a number that is at least the opening one and each number told, and to the database there
abbrev pub RecoversAmongDatabases : Setup → Machine → (ℕ → Database) → List ℕ → List ℕ → Type 0
RecoversAmongDatabases z m databases told image =
    (n : ℕ) × (z.first ≤ n) × ((x : ℕ) → IsIn x told → x ≤ n) × RecoversTo image n m.store.log.sizes (databases n)

-- The databases at the numbers are those of the requests that wrote, and every image recovers to one of them.
pub record RecoversToDatabases (z : Setup) (m : Machine) (db : Database) (len : ℕ) : Type 0 where
  pub databases : ℕ → Database
  pub are : AreDatabases z.first m.store.log.sizes.calls db (map done_of (all_entries m.core.views)) databases
  pub images : EveryImage len (RecoversAmongDatabases z m databases) (medium_of m.store)

-- so it is after every list of steps
abbrev pub LawOfRecoveredDatabases : Type 0
LawOfRecoveredDatabases = (z : Setup) (ss : List MachineStep) (m : Machine) (db : Database) (len : ℕ) → IsServedMachine z ss m db
    → image_words m.store.log.sizes ≤ len → RecoversToDatabases z m db len

-- What was done has a printed order, and every image recovers to the database after the requests of this order that wrote with numbers up to
-- that of the image.
pub record RecoversAlongOrder (z : Setup) (m : Machine) (db : Database) (done : List Done) (len : ℕ) : Type 0 where
  pub order : List Done
  pub printed : IsPrintedOrder done order
  pub images : EveryImage len (RecoversAmongDatabases z m (after_number m.store.log.sizes.calls db order)) (medium_of m.store)

-- where what was done is what the entries did, of each file the first requests
abbrev pub LawOfRecoveredOrder : Type 0
LawOfRecoveredOrder = (z : Setup) (ss : List MachineStep) (m : Machine) (db : Database) (len : ℕ) (files : List (List Request)) (done : List Done)
    → IsServedMachine z ss m db → image_words m.store.log.sizes ≤ len → AreDoneBy files (all_entries m.core.views) done → RecoversAlongOrder z m db done len
