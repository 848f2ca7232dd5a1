-- What contracts see of a group of records that are reproduced together.
use Rattle.std.specs.Prelude.{◌≡◌, ℕ, ◌*◌, ◌<◌, List, All, AllPairs, Result, flat_map, is_ok}
use Rattle.dude_base.specs.declared.limits.TheConstants.{PAGE}
use Rattle.dude_base.specs.declared.sizes.Sizes.{Sizes}
use Rattle.dude_base.specs.declared.write.Write.{Write}
use Rattle.dude_base.specs.Records.{RedoBundle, overwritten_by_all}
use Rattle.dude_base.specs.Writes.{written, overwritten, HasDistinctPlaces}
use Rattle.pmem_trait.specs.declared.failed.Failed.{Failed}
use Rattle.pmem_trait.specs.Sights.{CallsMade, Sight}
use Rattle.redo_record.specs.BackCalls.{reproduce_calls}
use Rattle.redo_record.specs.Waiting.{Lead}
use Rattle.group_combine.specs.Group.{last_written}
use Rattle.back_store.specs.Lane.{LaneState}
use Rattle.back_store.specs.Lanes.{waiting_of}

-- The sizes of the image, and the writes of home words that stand for some records.
pub record HomeGroupState : Type 0 where
  pub sizes : Sizes
  pub writes : List Write

-- exactly the calls that put its writes and then the mark at this number were made; or a prefix of them, whose last failed
abbrev pub BringsHome : HomeGroupState → ℕ → Result (Unit {0}) Failed → Sight → Sight → Type 0
BringsHome v number result s t = CallsMade (reproduce_calls v.sizes v.writes number) (is_ok result) s t

-- The writes are the last ones of the records, in rising order of word, and have the effect of the records.
pub record StandFor (s : Sizes) (records : List RedoBundle) (writes : List Write) : Type 0 where
  pub rising : AllPairs (λ v w. v.at < w.at) writes
  pub inside : All (λ w. w.at < s.pages * PAGE) writes
  pub last : (i : ℕ) → written writes i ≡ last_written records i
  pub effect : (array : List ℕ) → overwritten writes array ≡ overwritten_by_all records array

-- The writes are those of waiting records that lead from one number to another, one record behind the other.
pub record AreLedWrites (lanes : List LaneState) (from to : ℕ) (writes : List Write) : Type 0 where
  pub records : List RedoBundle
  pub lead : Lead (waiting_of lanes) from records to
  pub distinct : All (λ r. HasDistinctPlaces r.writes) records
  pub all : writes ≡ flat_map (λ r. r.writes) records

-- The writes stand for waiting records that lead from one number to another.
pub record StandForLed (s : Sizes) (lanes : List LaneState) (from to : ℕ) (writes : List Write) : Type 0 where
  pub records : List RedoBundle
  pub lead : Lead (waiting_of lanes) from records to
  pub stand : StandFor s records writes
