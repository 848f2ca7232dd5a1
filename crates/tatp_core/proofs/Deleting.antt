-- `DELETE_CALL_FORWARDING` on the words of an array.
use Rattle.std.proofs.Common.{◌≡◌, ℕ, ◌+◌, ◌-◌, ◌*◌, ◌/◌, true, false, List, map, Some, None, sym, arith}
use Rattle.std.specs.Prelude.{find}
use Rattle.dude_base.specs.declared.sizes.Sizes.{Sizes}
use Rattle.hash_table.specs.Table.{FitsTable, RemovesAll}
use Rattle.tatp_model.specs.declared.call_row.CallRow.{CallRow}
use Rattle.tatp_model.specs.declared.reply.Reply.TheVariants.{Changed, Missing}
use Rattle.tatp_model.specs.declared.request.Request.TheVariants.{DeleteCall}
use Rattle.tatp_model.specs.Database.{Database, call_key}
use Rattle.tatp_model.specs.Request.{IsInRange}
use Rattle.tatp_model.specs.Transaction.{has_phone, is_call}
use Rattle.tatp_layout.specs.Index.{location_key}
use Rattle.tatp_layout.specs.Layout.{call_table}
use Rattle.tatp_layout.specs.Records.{call_form}
use Rattle.tatp_layout.specs.StandsFor.{StandsFor}
use Rattle.tatp_layout.proofs.Dropped.{dropped_at, dropped_table, rows_dropped}
use Rattle.tatp_layout.proofs.Found.{TestsKey, any_found, any_none, rising_apart, tells as tells_at, tests_call, told_call}
use Rattle.tatp_layout.proofs.Indexes.{index_calls}
use Rattle.tatp_layout.proofs.Tables.{call_room, calls_changed, tables_of}
use Rattle.tatp_core.specs.Serves.{Serves}
use Rattle.tatp_core.proofs.Lists.{drops_named}
use Rattle.tatp_core.proofs.Phones.{HasPhone}
use Rattle.tatp_core.proofs.Outcomes.{deletes_for_none, deletes_none, deletes_one, serves_by, serves_same}

module _ {s : Sizes} {a : List ℕ} {db : Database} (sub_nbr sf_type start_time : ℕ) (range : IsInRange (DeleteCall sub_nbr sf_type start_time)) (stands : StandsFor s a db) where
  -- no subscriber has the number
  pub serves_for_none : {b : List ℕ} → find (has_phone sub_nbr) db.subscribers ≡ None → b ≡ a → Serves s db (DeleteCall sub_nbr sf_type start_time) Missing b
  serves_for_none tells same = serves_same (DeleteCall sub_nbr sf_type start_time) Missing stands range same (deletes_for_none s.calls db sub_nbr sf_type start_time tells)

  module _ (s_id : ℕ) (tells : HasPhone db sub_nbr s_id) where
    -- a row with this key
    abbrev row : CallRow
    row = record { s_id = s_id; sf_type = sf_type; start_time = start_time; end_time = 1; numberx = 0 }

    named_call : TestsKey call_form db.calls (call_key row) (is_call s_id sf_type start_time)
    named_call = tests_call db.calls row stands.in_order.calls_in_range (record { s_id = tells.range; sf_type = range.1; start_time = range.2; end_time = (omega arith, omega arith); numberx = omega arith })

    -- the key is not there
    pub serves_none : {b : List ℕ} → RemovesAll (call_table s) (3 * (4 * s_id + sf_type - 1) + start_time / 8) a b false → Serves s db (DeleteCall sub_nbr sf_type start_time) Missing b
    serves_none removes = serves_same (DeleteCall sub_nbr sf_type start_time) Missing stands range (removes stands.calls.chains stands.calls.free stands.calls.lawful).1
        (deletes_none s.calls db sub_nbr sf_type start_time s_id tells (any_none (is_call s_id sf_type start_time) named_call (told_call stands (call_key row) None (λ chains free lawful. sym (removes chains free lawful).0))))

    -- its record was given back
    pub serves_deleted : {b : List ℕ} {n : ℕ} → FitsTable (call_table s) n → RemovesAll (call_table s) (3 * (4 * s_id + sf_type - 1) + start_time / 8) a b true → Serves s db (DeleteCall sub_nbr sf_type start_time) Changed b
    serves_deleted fits removes =
        let drops = removes stands.calls.chains stands.calls.free stands.calls.lawful in
        let found = tells_at (call_key row) (Some drops.at) stands.calls (rising_apart call_key db.calls stands.in_order.calls_rise) (dropped_at fits stands.calls drops) in
        serves_by (DeleteCall sub_nbr sf_type start_time) Changed stands range
        (deletes_one s.calls db sub_nbr sf_type start_time s_id tells (any_found (is_call s_id sf_type start_time) named_call found))
        drops.changes.size
        (calls_changed (tables_of stands) (dropped_table fits stands.calls drops) (rows_dropped fits stands.calls drops (call_room s) (drops_named (is_call s_id sf_type start_time) stands.in_order.calls_rise named_call found)))
        (index_calls s (map location_key db.subscribers) (dropped_table fits stands.calls drops) stands.index)
