-- `INSERT_CALL_FORWARDING` on the words of an array.
use Rattle.std.proofs.Common.{◌≡◌, ℕ, ◌+◌, ◌-◌, ◌*◌, true, List, length, map, Some, None, sym, ◌∙◌, arith, slice_index, slice_set, subst}
use Rattle.std.specs.List.{list_any}
use Rattle.std.proofs.lemmas.Bool.{le-leb, lt-leb}
use Rattle.std.specs.Prelude.{find}
use Rattle.dude_base.specs.declared.sizes.Sizes.{Sizes}
use Rattle.hash_table.specs.declared.put.Put.TheVariants.{There, Full, Stored}
use Rattle.hash_table.specs.Table.{FindsAll, FitsTable, InsertsAll}
use Rattle.tatp_model.specs.declared.call_row.CallRow.{CallRow}
use Rattle.tatp_model.specs.declared.reply.Reply.TheVariants.{Changed, Duplicate, FullTable, Missing, NoFacility}
use Rattle.tatp_model.specs.declared.request.Request.TheVariants.{InsertCall}
use Rattle.tatp_model.specs.Database.{Database, call_key}
use Rattle.tatp_model.specs.Request.{IsInRange}
use Rattle.tatp_model.specs.Transaction.{has_phone, is_call, is_facility}
use Rattle.tatp_layout.specs.Index.{location_key}
use Rattle.tatp_layout.specs.Layout.{call_table, facility_table}
use Rattle.tatp_layout.specs.Records.{HoldsRow, call_form, facility_form}
use Rattle.tatp_layout.specs.StandsFor.{StandsFor}
use Rattle.tatp_layout.proofs.Found.{TestsKey, any_found, any_none, tests_call, tests_facility, told_call, told_facility}
use Rattle.tatp_layout.proofs.Indexes.{index_calls}
use Rattle.tatp_layout.proofs.Rewritten.{ChangesRow, changes_row-set, changes_row-table, changes_row-then}
use Rattle.tatp_layout.proofs.Stays.{changes_table-then}
use Rattle.tatp_layout.proofs.Added.{rows_fewer, rows_full, rows_stored, stored_key, stored_record, stored_table}
use Rattle.tatp_layout.proofs.Tables.{call_room, calls_changed, tables_of}
use Rattle.tatp_core.specs.Serves.{Serves}
use Rattle.tatp_core.proofs.Lists.{adds_call}
use Rattle.tatp_core.proofs.Phones.{HasPhone}
use Rattle.tatp_core.proofs.Outcomes.{inserts_for_none, inserts_full, inserts_nowhere, inserts_one, inserts_twice, serves_by, serves_same}

module _ {s : Sizes} {a : List ℕ} {db : Database} (sub_nbr sf_type start_time end_time numberx : ℕ) (range : IsInRange (InsertCall sub_nbr sf_type start_time end_time numberx)) (stands : StandsFor s a db) where
  -- no subscriber has the number
  pub serves_for_none : {b : List ℕ} → find (has_phone sub_nbr) db.subscribers ≡ None → b ≡ a → Serves s db (InsertCall sub_nbr sf_type start_time end_time numberx) Missing b
  serves_for_none tells same = serves_same (InsertCall sub_nbr sf_type start_time end_time numberx) Missing stands range same (inserts_for_none s.calls db sub_nbr sf_type start_time end_time numberx tells)

  module _ (s_id : ℕ) (tells : HasPhone db sub_nbr s_id) where
    abbrev row : CallRow
    row = record { s_id = s_id; sf_type = sf_type; start_time = start_time; end_time = end_time; numberx = numberx }

    named_facility : TestsKey facility_form db.facilities (4 * s_id + sf_type - 1) (is_facility s_id sf_type)
    named_facility = tests_facility db.facilities s_id sf_type stands.in_order.facilities_in_range tells.range range.1

    named_call : TestsKey call_form db.calls (call_key row) (is_call s_id sf_type start_time)
    named_call = tests_call db.calls row stands.in_order.calls_in_range (record { s_id = tells.range; sf_type = range.1; start_time = range.2; end_time = range.3; numberx = range.4 })

    -- there is no such facility
    pub serves_nowhere : {b : List ℕ} → FindsAll (facility_table s) a (4 * s_id + sf_type - 1) None → b ≡ a → Serves s db (InsertCall sub_nbr sf_type start_time end_time numberx) NoFacility b
    serves_nowhere finds same = serves_same (InsertCall sub_nbr sf_type start_time end_time numberx) NoFacility stands range same
        (inserts_nowhere s.calls db sub_nbr sf_type start_time end_time numberx s_id tells (any_none (is_facility s_id sf_type) named_facility (told_facility stands (4 * s_id + sf_type - 1) None finds)))

    module _ {facility : ℕ} (finds : FindsAll (facility_table s) a (4 * s_id + sf_type - 1) (Some facility)) where
      facility_there : list_any (is_facility s_id sf_type) db.facilities ≡ true
      facility_there = any_found (is_facility s_id sf_type) named_facility (told_facility stands (4 * s_id + sf_type - 1) (Some facility) finds)

      -- the key is there
      pub serves_twice : {b : List ℕ} {at : ℕ} → InsertsAll (call_table s) (call_key row) a b (There at) → Serves s db (InsertCall sub_nbr sf_type start_time end_time numberx) Duplicate b
      serves_twice {at} inserts = serves_same (InsertCall sub_nbr sf_type start_time end_time numberx) Duplicate stands range (inserts stands.calls.chains stands.calls.free stands.calls.lawful).1
          (inserts_twice s.calls db sub_nbr sf_type start_time end_time numberx s_id tells facility_there
          (any_found (is_call s_id sf_type start_time) named_call (told_call stands (call_key row) (Some at) (λ chains free lawful. sym (inserts chains free lawful).0))))

      -- as many call rows stand as there are records
      pub serves_full : {b : List ℕ} → InsertsAll (call_table s) (call_key row) a b Full → Serves s db (InsertCall sub_nbr sf_type start_time end_time numberx) FullTable b
      serves_full inserts =
          let full = inserts stands.calls.chains stands.calls.free stands.calls.lawful in
          serves_same (InsertCall sub_nbr sf_type start_time end_time numberx) FullTable stands range full.2
          (inserts_full s.calls db sub_nbr sf_type start_time end_time numberx s_id tells facility_there
          (any_none (is_call s_id sf_type start_time) named_call (told_call stands (call_key row) None (λ chains free lawful. sym (inserts chains free lawful).0)))
          (le-leb s.calls (length db.calls) (omega (arith, rows_full stands.calls full.1))))

      -- the key went into a free record, and the row's words were written behind it
      pub serves_inserted : {b c : List ℕ} {n : ℕ} (at : ℕ) → FitsTable (call_table s) n → InsertsAll (call_table s) (call_key row) a b (Stored at) → c ≡ slice_set (slice_set b (at + 2) end_time) (at + 3) numberx → (slice_index b at ≡ call_key row → HoldsRow call_form c at row) → Serves s db (InsertCall sub_nbr sf_type start_time end_time numberx) Changed c
      serves_inserted {b} {c} at fits inserts is holds =
          let stores = inserts stands.calls.chains stands.calls.free stands.calls.lawful in
          let absent = told_call stands (call_key row) None (λ chains free lawful. sym (inserts chains free lawful).absent) in
          let words : ChangesRow (call_table s).pool.size at b (slice_set (slice_set b (at + 2) end_time) (at + 3) numberx) =
          changes_row-then (changes_row-set b 2 end_time (omega arith) (omega arith)) (changes_row-set (slice_set b (at + 2) end_time) 3 numberx (omega arith) (omega arith)) in
          let changes : ChangesRow (call_table s).pool.size at b c = subst (λ l. ChangesRow (call_table s).pool.size at b l) (sym is) words in
          let table = changes_table-then (stored_table fits stands.calls stores) (changes_row-table fits (stored_record fits stands.calls stores) changes) in
          serves_by (InsertCall sub_nbr sf_type start_time end_time numberx) Changed stands range
          (inserts_one s.calls db sub_nbr sf_type start_time end_time numberx s_id tells facility_there (any_none (is_call s_id sf_type start_time) named_call absent)
          (lt-leb s.calls (length db.calls) (rows_fewer at stores.left stands.calls stores.first)))
          (changes.size ∙ stores.changes.size)
          (calls_changed (tables_of stands) table
          (rows_stored fits stands.calls stores (call_room s) changes (holds (stored_key fits stands.calls stores)) (adds_call row db.calls absent)))
          (index_calls s (map location_key db.subscribers) table stands.index)
