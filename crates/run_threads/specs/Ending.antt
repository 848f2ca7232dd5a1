-- What an ending is known by, and how the back is on its way.
use Rattle.std.specs.Prelude.{◌≡◌, ◌⊎◌, ℕ, ◌<◌, ◌≤◌, true, false, List, length}
use Rattle.std.specs.List.{Contains}
use Rattle.dude_base.specs.declared.limits.TheConstants.{MAX_NUMBER}
use Rattle.dude_base.specs.declared.sizes.Sizes.{Sizes}
use Rattle.dude_base.specs.Records.{RedoBundle, RedoRecord}
use Rattle.pmem_trait.specs.Sights.{Sight}
use Rattle.back_store.specs.Back.{BackState, waiting_of_ring}
use Rattle.core_events.specs.Setups.{Setup}
use Rattle.core_events.specs.Views.{Entry}
use Rattle.core_events.specs.Entries.{writes_of}
use Rattle.stm_slots.specs.Known.{Known, Since}
use Rattle.stm_slots.specs.KnownLists.{lists}
use Rattle.stm_slots.specs.Records.{HasRecord, LacksRecord, writes_in}
use Rattle.run_threads.specs.Rest.{IsWithin, at, number_at}
use Rattle.tiny_stm.specs.Ended.{IsRest}
use Rattle.tiny_stm.specs.declared.posted.Posted.{Posted}

-- What ran: what the transactions were set up with, their medium and the back at the start; their entries, and the last number drawn; the sizes of the
-- image, and a number that was announced.
pub record Ending : Type 0 where
  pub setup : Setup
  pub start : Sight
  pub state : BackState
  pub entries : List Entry
  pub last : ℕ
  pub sizes : Sizes
  pub announced : ℕ

-- what the back was at the start
abbrev pub since : Ending → Since
since e = record { start = e.start; state = e.state; opening = e.setup.opening; first = e.setup.first }

-- The back is known by these records: each has the writes of the entry with its number.
pub record IsKnownBy (e : Ending) (records : List RedoRecord) (v : BackState) (s : Sight) : Type 0 where
  pub known : Known (since e) (lists v records) s
  pub listed : (n : ℕ) → HasRecord records n → (n ≤ e.last) × (writes_in records n ≡ writes_of e.entries n)
  pub sizes : v.log.sizes ≡ e.sizes
  pub announced : e.announced ≤ v.log.durable

-- It is known by some records.
pub record IsKept (e : Ending) (v : BackState) (s : Sight) : Type 0 where
  pub records : List RedoRecord
  pub known : IsKnownBy e records v s

-- It is so, and dead.
pub record HasDied (e : Ending) (v : BackState) (s : Sight) : Type 0 where
  pub dead : v.dead ≡ true
  pub kept : IsKept e v s

-- The rest is that of what ran, in the image's home and rings.
pub record IsRestOf (e : Ending) (rest : List Posted) : Type 0 where
  pub posted : IsRest e.setup e.sizes.rings e.entries e.last rest
  pub small : e.last ≤ MAX_NUMBER
  pub first : e.setup.first ≤ e.last
  pub pages : e.sizes.pages ≡ e.setup.pages

-- The back is alive and was handed these records; the numbers that it wasn't handed are those of the rest from a place on, each over all that waits in its ring.
pub record LeavesFrom (e : Ending) (rest : List Posted) (from : ℕ) (records : List RedoRecord) (v : BackState) : Type 0 where
  pub alive : v.dead ≡ false
  pub placed : (n : ℕ) → e.setup.first < n → n ≤ e.last → HasRecord records n ⊎ IsWithin rest from (length rest) n
  pub lacks : (i : ℕ) → from ≤ i → i < length rest → LacksRecord records (number_at rest i)
  pub newest : (i : ℕ) (b : RedoBundle) → from ≤ i → i < length rest → Contains (waiting_of_ring v (at rest i).ring) b → b.last < number_at rest i

-- All of the rest before a place was handed to the back, and all from it on is to be.
pub record IsUnderWay (e : Ending) (rest : List Posted) (from : ℕ) (v : BackState) (s : Sight) : Type 0 where
  pub of : IsRestOf e rest
  pub records : List RedoRecord
  pub known : IsKnownBy e records v s
  pub left : LeavesFrom e rest from records v
