-- `UPDATE_SUBSCRIBER_DATA` on the words of an array.
use Rattle.std.proofs.Common.{◌≡◌, ℕ, ◌+◌, ◌-◌, ◌*◌, List, [], ◌∷◌, map, Some, None, arith, ◌∙◌, refl, sym, subst}
use Rattle.std.specs.Prelude.{slice_set}
use Rattle.std.proofs.lemmas.List.Elements.{All-contains}
use Rattle.dude_base.specs.declared.sizes.Sizes.{Sizes}
use Rattle.record_heap.specs.Changes.{ChangesOnly}
use Rattle.tatp_model.specs.declared.fac_row.FacRow.{FacRow}
use Rattle.tatp_model.specs.declared.reply.Reply.TheVariants.{Changed, Missing}
use Rattle.tatp_model.specs.declared.request.Request.TheVariants.{UpdateSubscriber}
use Rattle.tatp_model.specs.declared.sub_row.SubRow.{SubRow}
use Rattle.tatp_model.specs.Database.{Database, IsFacRow, IsSubRow}
use Rattle.tatp_model.specs.Request.{IsInRange}
use Rattle.tatp_model.specs.Transaction.{is_facility, is_subscriber, update_where}
use Rattle.tatp_layout.specs.Index.{IndexHas, location_key}
use Rattle.tatp_layout.specs.Layout.{facility_table, subscriber_table}
use Rattle.tatp_layout.specs.Records.{HoldsRow, facility_form, subscriber_form}
use Rattle.tatp_layout.specs.StandsFor.{StandsFor}
use Rattle.tatp_layout.proofs.Found.{TestsKey, any_found, any_none, tests_facility, tests_subscriber, told_facility, told_subscriber}
use Rattle.tatp_layout.proofs.Indexes.{index_facilities, index_subscribers}
use Rattle.tatp_layout.proofs.Places.{subscribers_facilities}
use Rattle.hash_table.specs.Table.{FindsAll, FitsTable}
use Rattle.tatp_layout.proofs.Rewritten.{ChangesRow, changes_record-then, changes_row-only, changes_row-table, record_beside, record_row, rows_kept, rows_rewritten}
use Rattle.tatp_layout.proofs.Stays.{holds_same, row_beside, taken_record}
use Rattle.tatp_layout.proofs.Tables.{facilities_changed, facility_room, found_among, subscriber_room, subscribers_changed, tables_of}
use Rattle.tatp_core.specs.Serves.{Serves}
use Rattle.tatp_core.proofs.Lists.{names_found}
use Rattle.tatp_core.proofs.LocationKeys.{same_keys}
use Rattle.tatp_core.proofs.Outcomes.{no_facility, no_subscriber, serves_by, serves_same, sets_fields}

module _ {s : Sizes} {a : List ℕ} {db : Database} (s_id bit_1 sf_type data_a : ℕ) (range : IsInRange (UpdateSubscriber s_id bit_1 sf_type data_a)) (stands : StandsFor s a db) where
  named_subscriber : TestsKey subscriber_form db.subscribers s_id (is_subscriber s_id)
  named_subscriber = tests_subscriber db.subscribers s_id

  named_facility : TestsKey facility_form db.facilities (4 * s_id + sf_type - 1) (is_facility s_id sf_type)
  named_facility = tests_facility db.facilities s_id sf_type stands.in_order.facilities_in_range range.0 range.2

  -- there is no such subscriber
  pub serves_no_subscriber : {b : List ℕ} → FindsAll (subscriber_table s) a s_id None → b ≡ a → Serves s db (UpdateSubscriber s_id bit_1 sf_type data_a) Missing b
  serves_no_subscriber finds same = serves_same (UpdateSubscriber s_id bit_1 sf_type data_a) Missing stands range same
      (no_subscriber s.calls db s_id bit_1 sf_type data_a (any_none (is_subscriber s_id) named_subscriber (told_subscriber stands s_id None finds)))

  -- there is no such facility
  pub serves_no_facility : {b : List ℕ} {at : ℕ} → FindsAll (subscriber_table s) a s_id (Some at) → FindsAll (facility_table s) a (4 * s_id + sf_type - 1) None → b ≡ a → Serves s db (UpdateSubscriber s_id bit_1 sf_type data_a) Missing b
  serves_no_facility {at = at} finds finds_none same = serves_same (UpdateSubscriber s_id bit_1 sf_type data_a) Missing stands range same
      (no_facility s.calls db s_id bit_1 sf_type data_a (any_found (is_subscriber s_id) named_subscriber (told_subscriber stands s_id (Some at) finds)) (any_none (is_facility s_id sf_type) named_facility (told_facility stands (4 * s_id + sf_type - 1) None finds_none)))

  -- both are there, and the two fields were written
  pub serves_fields : {b c : List ℕ} {n : ℕ} (at facility : ℕ) → FitsTable (subscriber_table s) n → FitsTable (facility_table s) n → FindsAll (subscriber_table s) a s_id (Some at) → FindsAll (facility_table s) a (4 * s_id + sf_type - 1) (Some facility) →
      ChangesOnly ((at + 2) ∷ []) a b → ((r : SubRow) → IsSubRow r → HoldsRow subscriber_form a at r → HoldsRow subscriber_form b at (record r { bits = slice_set r.bits 0 bit_1 })) →
      ChangesOnly ((facility + 2) ∷ []) b c → ((r : FacRow) → IsFacRow r → HoldsRow facility_form b facility r → HoldsRow facility_form c facility (record r { data_a = data_a })) →
      Serves s db (UpdateSubscriber s_id bit_1 sf_type data_a) Changed c
  serves_fields {b} {c} at facility subscribers_fit facilities_fit finds_subscriber finds_facility bit_changes holds_bit data_changes holds_data =
      let subscriber_found = told_subscriber stands s_id (Some at) finds_subscriber in
      let facility_found = told_facility stands (4 * s_id + sf_type - 1) (Some facility) finds_facility in
      let subscriber_among = found_among s_id stands.subscribers finds_subscriber in
      let facility_among = found_among (4 * s_id + sf_type - 1) stands.facilities finds_facility in
      let subscriber_record = taken_record stands.subscribers at subscriber_among in
      let facility_record = taken_record stands.facilities facility facility_among in
      let bit_row : ChangesRow (subscriber_table s).pool.size at a b = changes_row-only 2 (omega arith) (omega arith) bit_changes in
      let data_row : ChangesRow (facility_table s).pool.size facility b c = changes_row-only 2 (omega arith) (omega arith) data_changes in
      let bit_table = changes_row-table subscribers_fit subscriber_record bit_row in
      let data_table = changes_row-table facilities_fit facility_record data_row in
      let subscriber_row = All-contains IsSubRow db.subscribers subscriber_found.row stands.in_order.subscribers_in_range subscriber_found.among in
      let facility_row = All-contains IsFacRow db.facilities facility_found.row stands.in_order.facilities_in_range facility_found.among in
      let still = holds_same (facility_room s) (row_beside (subscribers_facilities s) (omega arith) bit_table facility facility_record) facility_found.holds in
      let subscribers = rows_rewritten (subscriber_room s) stands.subscribers subscriber_among subscriber_found.holds (record_row subscribers_fit subscriber_record bit_row)
      (is_subscriber s_id) (λ r. record r { bits = slice_set r.bits 0 bit_1 }) (names_found (is_subscriber s_id) named_subscriber subscriber_found) subscriber_found.among (holds_bit subscriber_found.row subscriber_row subscriber_found.holds) in
      let facilities = rows_rewritten (facility_room s) stands.facilities facility_among facility_found.holds
      (changes_record-then (record_beside facility (subscribers_facilities s) (omega arith) bit_table) (record_row facilities_fit facility_record data_row))
      (is_facility s_id sf_type) (λ r. record r { data_a = data_a }) (names_found (is_facility s_id sf_type) named_facility facility_found) facility_found.among (holds_data facility_found.row facility_row still) in
      let rows = update_where (is_subscriber s_id) (λ r. record r { bits = slice_set r.bits 0 bit_1 }) db.subscribers in
      serves_by (UpdateSubscriber s_id bit_1 sf_type data_a) Changed stands range
      (sets_fields s.calls db s_id bit_1 sf_type data_a (any_found (is_subscriber s_id) named_subscriber subscriber_found) (any_found (is_facility s_id sf_type) named_facility facility_found))
      (data_changes.size ∙ bit_changes.size)
      (facilities_changed (subscribers_changed (tables_of stands) bit_table subscribers (rows_kept (is_subscriber s_id) (λ r. record r { bits = slice_set r.bits 0 bit_1 }) (λ r. refl) (λ r. refl) (λ r long. long) stands.numbers)) data_table facilities)
      (index_facilities s (map location_key rows) data_table (index_subscribers s (map location_key rows) bit_table
      (subst (λ keys. IndexHas s a keys) (sym (same_keys (is_subscriber s_id) (λ r. record r { bits = slice_set r.bits 0 bit_1 }) (λ r. refl) db.subscribers)) stands.index)))
