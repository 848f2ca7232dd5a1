-- The tables for which an array of home words stands.
use Rattle.std.specs.Prelude.{◌≡◌, ℕ, ◌*◌, List, length, Contains}
use Rattle.dude_base.specs.declared.limits.TheConstants.{PAGE}
use Rattle.dude_base.specs.declared.sizes.Sizes.{Sizes}
use Rattle.hash_table.specs.declared.table.Table.{Table}
use Rattle.hash_table.specs.Table.{IsTable, records_in}
use Rattle.tatp_model.specs.Database.{Database, IsInOrder}
use Rattle.tatp_layout.specs.Index.{IndexStands}
use Rattle.tatp_layout.specs.Layout.{subscriber_table, number_table, access_table, facility_table, call_table}
use Rattle.tatp_layout.specs.Records.{RowForm, HoldsRow, subscriber_form, number_form, access_form, facility_form, call_form}

-- The table of this array has these rows: the buckets' chains and the free list have each record of the pool once, each key
-- in its bucket and in one record alone, and the header counts the records in chains. These are as many as the rows; each of
-- them has one of the rows, and each row is in one of them.
pub record HasRows {R : Type 0} (form : RowForm R) (table : Table) (array : List ℕ) (rows : List R) : Type 0 where
  pub chains : List (List ℕ)
  pub free : List ℕ
  pub lawful : IsTable table array chains free
  pub count : length (records_in chains) ≡ length rows
  pub holds : (at : ℕ) → Contains (records_in chains) at → (row : R) × Contains rows row × HoldsRow form array at row
  pub held : (row : R) → Contains rows row → (at : ℕ) × Contains (records_in chains) at × HoldsRow form array at row

-- The array stands for the database. The fields of its rows are in their ranges, and the rows belong together, as
-- `IsInOrder` says. The number table has each subscriber's phone number with its s_id, and no other record. An index has
-- the key of each subscriber, and no other.
pub record StandsFor (s : Sizes) (array : List ℕ) (db : Database) : Type 0 where
  pub size : length array ≡ s.pages * PAGE
  pub in_order : IsInOrder db
  pub subscribers : HasRows subscriber_form (subscriber_table s) array db.subscribers
  pub numbers : HasRows number_form (number_table s) array db.subscribers
  pub access : HasRows access_form (access_table s) array db.access
  pub facilities : HasRows facility_form (facility_table s) array db.facilities
  pub calls : HasRows call_form (call_table s) array db.calls
  pub index : IndexStands s array db.subscribers

-- the array stands for some database
abbrev pub IsLawful : Sizes → List ℕ → Type 0
IsLawful s array = (db : Database) × StandsFor s array db
