-- The tables of an array in which nothing is wrong but perhaps references.
use Rattle.std.specs.Prelude.{ℕ, List, length, map}
use Rattle.dude_base.specs.declared.sizes.Sizes.{Sizes}
use Rattle.hash_table.specs.Table.{FitsTable}
use Rattle.tatp_model.specs.Database.{Database}
use Rattle.tatp_layout.specs.Decoding.{subscriber_in, access_in, facility_in, call_in}
use Rattle.tatp_check.specs.declared.taken.Taken.{Taken}
use Rattle.tatp_check.specs.Taken.{records_taken, records_by_key}
use Rattle.tatp_check.specs.Whole.{KeepsWhole}
use Rattle.tatp_check.specs.declared.table_kind.TableKind.{TableKind}
use Rattle.tatp_check.specs.declared.table_kind.TableKind.TheVariants.{Subscribers, Numbers, Access, Facilities, Calls}
use Rattle.tatp_check.specs.Content.{content_of, table_of}
use Rattle.tatp_check.specs.declared.walked.Walked.{Walked}

-- what the walk through the table of this kind took in: its records, and the record of each key
abbrev pub taken_of : (walked : Walked) (kind : TableKind) → Taken
taken_of walked Subscribers = walked.subscribers
taken_of walked Numbers = walked.numbers
taken_of walked Access = walked.access
taken_of walked Facilities = walked.facilities
taken_of walked Calls = walked.calls

-- the records in the chains of the table of this kind, in the order of the walk
abbrev pub records_of_kind : Walked → TableKind → List ℕ
records_of_kind walked kind = records_taken (taken_of walked kind)

-- nothing is wrong in these tables, which lie in the array
pub record AreWalked (s : Sizes) (array : List ℕ) (walked : Walked) : Type 0 where
  pub fits : (kind : TableKind) → FitsTable (table_of kind s) (length array)
  pub each : (kind : TableKind) → KeepsWhole (content_of kind) (table_of kind s) array (taken_of walked kind)

-- the rows of their records, in rising order of key
abbrev pub database_in : List ℕ → Walked → Database
database_in array walked = record {
  subscribers = map (subscriber_in array) (records_by_key walked.subscribers);
  access = map (access_in array) (records_by_key walked.access);
  facilities = map (facility_in array) (records_by_key walked.facilities);
  calls = map (call_in array) (records_by_key walked.calls);
}
