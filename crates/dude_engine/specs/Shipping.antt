-- What the packets of a run are: how they lead from database to database, and that they are durable.
use Rattle.std.specs.Prelude.{◌≤◌, ℕ, All, IsTrue, List, take}
use Rattle.dude_base.specs.Records.{RedoBundle}
use Rattle.pmem_trait.specs.Words.{EveryImage}
use Rattle.pmem_trait.specs.Sights.{Sight, state_now}
use Rattle.redo_record.specs.Recovery.{AreConsecutive, overwritten_by_all}
use Rattle.tatp_model.specs.declared.done.Done.{Done}
use Rattle.tatp_model.specs.OneThread.{IsPrintedOrder, after_number}
use Rattle.tatp_layout.specs.StandsFor.{StandsFor}
use Rattle.dude_recover.specs.Opened.{HoldsOpened}
use Rattle.log_numbered.specs.KeptBundles.{IsPacket}
use Rattle.dude_engine.specs.Opening.{Opening, RecoversAt}

-- The packets lead from the opening number to another, one after another, and each may stand in a log of the image's sizes. The
-- opening array overwritten by the first ones of them stands for the database at the number that they lead to.
pub record Ships (opening : Opening) (words : List ℕ) (done : List Done) (packets : List RedoBundle) : Type 0 where
  pub last : ℕ
  pub lead : AreConsecutive opening.number packets last
  pub each : All (IsPacket opening.sizes) packets
  pub order : List Done
  pub printed : IsPrintedOrder done order
  pub stand : (k number : ℕ) → AreConsecutive opening.number (take k packets) number
      → StandsFor opening.sizes (overwritten_by_all (take k packets) words) (after_number opening.sizes.calls opening.database order number)

-- the image recovers to a number from this one on, and to the database after the requests of the order up to it
abbrev pub RecoversOver : ℕ → Opening → List Done → List ℕ → Type 0
RecoversOver least opening order image = (n : ℕ) × (least ≤ n) × RecoversAt opening order image n

-- Every image recovers so.
pub record AllOver (least : ℕ) (opening : Opening) (done : List Done) (t : Sight) : Type 0 where
  pub order : List Done
  pub printed : IsPrintedOrder done order
  pub images : EveryImage t.len (λ told image. RecoversOver least opening order image) (state_now t)

-- What is shipped is durable: at exit every image recovers to a number that isn't under the last one of the packets. This holds
-- of a medium that was as the opening of its image left it.
abbrev pub KeepsUp : Opening → List ℕ → List Done → List RedoBundle → Sight → Sight → Type 0
KeepsUp opening words done packets s t = (before last : ℕ) → HoldsOpened before opening.sizes opening.number words s → IsTrue s.is_visible
    → AreConsecutive opening.number packets last → AllOver last opening done t
