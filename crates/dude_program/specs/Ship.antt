-- What `ship` prints: the packets of its run.
use Rattle.std.specs.Prelude.{◌≡◌, ℕ, List, flat_map}
use Rattle.dude_base.specs.Records.{RedoBundle}
use Rattle.redo_record.specs.Recovery.{AreConsecutive}
use Rattle.pmem_trait.specs.Sights.{Sight}
use Rattle.pmem_trait.specs.Reads.{ContentHas}
use Rattle.tatp_model.specs.declared.done.Done.{Done}
use Rattle.tatp_layout.specs.StandsFor.{StandsFor}
use Rattle.image_recovery.specs.Recovered.{RecoversArray}
use Rattle.dude_engine.specs.Opening.{Opening}
use Rattle.dude_engine.specs.Shipping.{Ships}
use Rattle.dude_follow.specs.Packet.{packet_bytes}

-- the bytes of packets, one behind another
abbrev pub bytes_of_packets : List RedoBundle → List ℕ
bytes_of_packets packets = flat_map packet_bytes packets

-- The text is the packets of a run from this opening on. They lead to the last number, and from an array that stands for the
-- opening's tables: overwritten by the first ones of them it stands for those at the number that they lead to.
pub record IsShipment (opening : Opening) (done : List Done) (last : ℕ) (text : List ℕ) : Type 0 where
  pub array : List ℕ
  pub stands : StandsFor opening.sizes array opening.database
  pub packets : List RedoBundle
  pub ships : Ships opening array done packets
  pub whole : AreConsecutive opening.number packets last
  pub bytes : text ≡ bytes_of_packets packets

-- The array that the packets lead from is the one to which the content recovers.
abbrev pub ShipsContent : {opening : Opening} {done : List Done} {last : ℕ} {text : List ℕ} → IsShipment opening done last text → Sight → Type 0
ShipsContent {opening} shipment medium = ContentHas (RecoversArray opening.sizes opening.number shipment.array) medium
