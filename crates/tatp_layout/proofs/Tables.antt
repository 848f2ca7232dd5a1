-- The five tables of an array, of which one changes.
use Rattle.std.proofs.Common.{◌≡◌, ℕ, ◌*◌, ◌≤◌, List, ◌++◌, length, length-append, Contains, Some, sym, arith}
use Rattle.dude_base.specs.declared.limits.TheConstants.{PAGE}
use Rattle.dude_base.specs.declared.sizes.Sizes.{Sizes}
use Rattle.hash_table.specs.declared.table.Table.{Table}
use Rattle.hash_table.specs.Table.{FindsAll, records_in}
use Rattle.hash_table.specs.Ranges.{AreSeparate}
use Rattle.hash_table.proofs.Maps.{IsAt, along, lookup-is_at}
use Rattle.record_heap.proofs.Records.{as_many}
use Rattle.tatp_model.specs.declared.call_row.CallRow.{CallRow}
use Rattle.tatp_model.specs.declared.fac_row.FacRow.{FacRow}
use Rattle.tatp_model.specs.declared.sub_row.SubRow.{SubRow}
use Rattle.tatp_model.specs.Database.{Database, IsInOrder}
use Rattle.tatp_layout.specs.Index.{IndexStands}
use Rattle.tatp_layout.specs.Layout.{access_table, call_table, facility_table, number_table, subscriber_table}
use Rattle.tatp_layout.specs.Records.{RowForm, access_form, call_form, facility_form, number_form, subscriber_form}
use Rattle.tatp_layout.specs.StandsFor.{HasRows, StandsFor}
use Rattle.tatp_layout.proofs.Places.{access_calls, access_facilities, facilities_calls, numbers_calls, numbers_facilities, separate_flip, subscribers_access, subscribers_calls, subscribers_facilities, subscribers_numbers}
use Rattle.tatp_layout.proofs.Stays.{ChangesTable, FitsRecord, rows_beside}

-- each table has its rows
pub record HasTables (s : Sizes) (array : List ℕ) (db : Database) : Type 0 where
  pub subscribers : HasRows subscriber_form (subscriber_table s) array db.subscribers
  pub numbers : HasRows number_form (number_table s) array db.subscribers
  pub access : HasRows access_form (access_table s) array db.access
  pub facilities : HasRows facility_form (facility_table s) array db.facilities
  pub calls : HasRows call_form (call_table s) array db.calls

pub tables_of : {s : Sizes} {array : List ℕ} {db : Database} → StandsFor s array db → HasTables s array db
tables_of stands = record { subscribers = stands.subscribers; numbers = stands.numbers; access = stands.access; facilities = stands.facilities; calls = stands.calls }

pub stands_by : {s : Sizes} {array : List ℕ} {db : Database} → length array ≡ s.pages * PAGE → IsInOrder db → HasTables s array db → IndexStands s array db.subscribers → StandsFor s array db
stands_by size in_order tables index = record { size = size; in_order = in_order; subscribers = tables.subscribers; numbers = tables.numbers; access = tables.access; facilities = tables.facilities; calls = tables.calls; index = index }

-- a record that a look-up finds is in a chain
pub found_among : {R : Type 0} {form : RowForm R} {table : Table} {array : List ℕ} {rows : List R} {at : ℕ} (key : ℕ) (h : HasRows form table array rows) → FindsAll table array key (Some at) → Contains (records_in h.chains) at
found_among {array = array} key h finds = (along (IsAt array (records_in h.chains) key) _ _ (sym (finds h.chains h.free h.lawful)) (lookup-is_at array (records_in h.chains) key)).0

-- no more rows than records
pub rows_within : {R : Type 0} {form : RowForm R} {table : Table} {array : List ℕ} {rows : List R} → HasRows form table array rows → length rows ≤ table.pool.count
rows_within {table = table} h = omega (arith, h.count, length-append h.free (records_in h.chains), as_many table.pool (h.free ++ records_in h.chains) h.lawful.pool.once)

-- ---- the rows' words have room

module _ (s : Sizes) where
  pub subscriber_room : FitsRecord subscriber_form (subscriber_table s).pool.size
  subscriber_room = record { words = λ row. omega arith }

  pub number_room : FitsRecord number_form (number_table s).pool.size
  number_room = record { words = λ row. omega arith }

  pub access_room : FitsRecord access_form (access_table s).pool.size
  access_room = record { words = λ row. omega arith }

  pub facility_room : FitsRecord facility_form (facility_table s).pool.size
  facility_room = record { words = λ row. omega arith }

  pub call_room : FitsRecord call_form (call_table s).pool.size
  call_room = record { words = λ row. omega arith }

-- ---- one table changes

module _ {s : Sizes} {a b : List ℕ} {db : Database} (tables : HasTables s a db) where
  pub subscribers_changed : {rows : List SubRow} → ChangesTable (subscriber_table s) a b → HasRows subscriber_form (subscriber_table s) b rows → HasRows number_form (number_table s) a rows → HasTables s b (record db { subscribers = rows })
  subscribers_changed changes now named = record {
    subscribers = now;
    numbers = rows_beside (subscribers_numbers s) (omega arith) (number_room s) changes named;
    access = rows_beside (subscribers_access s) (omega arith) (access_room s) changes tables.access;
    facilities = rows_beside (subscribers_facilities s) (omega arith) (facility_room s) changes tables.facilities;
    calls = rows_beside (subscribers_calls s) (omega arith) (call_room s) changes tables.calls;
  }

  -- the first three, beside a table that changes
  first_three : {changed : Table} → AreSeparate (subscriber_table s) changed → AreSeparate (number_table s) changed → AreSeparate (access_table s) changed → ChangesTable changed a b
      → HasRows subscriber_form (subscriber_table s) b db.subscribers × HasRows number_form (number_table s) b db.subscribers × HasRows access_form (access_table s) b db.access
  first_three subscribers numbers access changes = (
    rows_beside (separate_flip subscribers) (omega arith) (subscriber_room s) changes tables.subscribers,
    rows_beside (separate_flip numbers) (omega arith) (number_room s) changes tables.numbers,
    rows_beside (separate_flip access) (omega arith) (access_room s) changes tables.access,
  )

  pub facilities_changed : {rows : List FacRow} → ChangesTable (facility_table s) a b → HasRows facility_form (facility_table s) b rows → HasTables s b (record db { facilities = rows })
  facilities_changed changes now =
      let three = first_three (subscribers_facilities s) (numbers_facilities s) (access_facilities s) changes in
      record { subscribers = three.0; numbers = three.1; access = three.2; facilities = now; calls = rows_beside (facilities_calls s) (omega arith) (call_room s) changes tables.calls }

  pub calls_changed : {rows : List CallRow} → ChangesTable (call_table s) a b → HasRows call_form (call_table s) b rows → HasTables s b (record db { calls = rows })
  calls_changed changes now =
      let three = first_three (subscribers_calls s) (numbers_calls s) (access_calls s) changes in
      record { subscribers = three.0; numbers = three.1; access = three.2; facilities = rows_beside (separate_flip (facilities_calls s)) (omega arith) (facility_room s) changes tables.facilities; calls = now }
