-- What the reading calls learn of a lawful array, by the row that a look-up found.
use Rattle.std.proofs.Common.{◌≡◌, ℕ, ◌+◌, ◌-◌, ◌*◌, Bool, false, cond, List, [], ◌∷◌, Option, Some, None, sym, ap, ◌∙◌}
use Rattle.std.specs.Prelude.{◌==◌, nat_lt, find}
use Rattle.std.specs.List.{list_any}
use Rattle.std.specs.Option.{option_map_or}
use Rattle.dude_base.specs.declared.sizes.Sizes.{Sizes}
use Rattle.tatp_model.specs.declared.access_row.AccessRow.{AccessRow}
use Rattle.tatp_model.specs.declared.call_row.CallRow.{CallRow}
use Rattle.tatp_model.specs.declared.fac_row.FacRow.{FacRow}
use Rattle.tatp_model.specs.declared.sub_row.SubRow.{SubRow}
use Rattle.tatp_model.specs.Database.{Database, IsSubRow, IsAccessRow, IsFacRow, IsCallRow, access_key, call_key, facility_key}
use Rattle.tatp_model.specs.Ranges.{IsId, IsKind}
use Rattle.tatp_model.specs.Transaction.{is_subscriber, is_access, is_facility, is_active_facility}
use Rattle.tatp_layout.specs.FoundRows.{FindsRow, IsRowOf}
use Rattle.tatp_layout.specs.Layout.{subscriber_table, access_table, facility_table, call_table}
use Rattle.tatp_layout.specs.Records.{subscriber_form, access_form, facility_form, call_form}
use Rattle.tatp_layout.specs.StandsFor.{StandsFor}
use Rattle.tatp_layout.proofs.Found.{rising_apart, row_found, any_by_row, tests_subscriber, tests_access, tests_facility}
use Rattle.tatp_read.specs.Forwarding.{numbers_at}
use Rattle.tatp_read.proofs.Forwarding.{numbers_absent, numbers_found}

module _ {s : Sizes} {a : List ℕ} {db : Database} (stands : StandsFor s a db) where
  pub subscriber_found : {s_id : ℕ} (row : Option SubRow) → FindsRow subscriber_form IsSubRow (subscriber_table s) s_id a row → row ≡ find (is_subscriber s_id) db.subscribers
  subscriber_found {s_id} row finds =
      row_found (is_subscriber s_id) (tests_subscriber db.subscribers s_id) a row
      (finds.finds db.subscribers stands.subscribers (rising_apart (λ r. r.s_id) db.subscribers stands.in_order.subscribers_rise) stands.in_order.subscribers_in_range)

  module _ (s_id kind : ℕ) (id : IsId s_id) (in_range : IsKind kind) where
    pub access_found : (row : Option AccessRow) → FindsRow access_form IsAccessRow (access_table s) (4 * s_id + kind - 1) a row → row ≡ find (is_access s_id kind) db.access
    access_found row finds =
        row_found (is_access s_id kind) (tests_access db.access s_id kind stands.in_order.access_in_range id in_range) a row
        (finds.finds db.access stands.access (rising_apart access_key db.access stands.in_order.access_rise) stands.in_order.access_in_range)

    pub facility_found : (row : Option FacRow) → FindsRow facility_form IsFacRow (facility_table s) (4 * s_id + kind - 1) a row → option_map_or (λ r. r.is_active == 1) row false ≡ list_any (is_active_facility s_id kind) db.facilities
    facility_found row finds =
        any_by_row (is_facility s_id kind) (tests_facility db.facilities s_id kind stands.in_order.facilities_in_range id in_range) (λ r. r.is_active == 1) a row
        (finds.finds db.facilities stands.facilities (rising_apart facility_key db.facilities stands.in_order.facilities_rise) stands.in_order.facilities_in_range)

  module _ {key : ℕ} (end_time : ℕ) where
    of_calls : {row : Option CallRow} → FindsRow call_form IsCallRow (call_table s) key a row → IsRowOf call_form a db.calls key row
    of_calls finds = finds.finds db.calls stands.calls (rising_apart call_key db.calls stands.in_order.calls_rise) stands.in_order.calls_in_range

    pub no_call_found : FindsRow call_form IsCallRow (call_table s) key a None → [] ≡ numbers_at key end_time db.calls
    no_call_found finds = sym (numbers_absent key end_time db.calls (of_calls finds))

    pub call_found : {row : CallRow} (late : Bool) → nat_lt end_time row.end_time ≡ late → FindsRow call_form IsCallRow (call_table s) key a (Some row) → cond late (row.numberx ∷ []) [] ≡ numbers_at key end_time db.calls
    call_found late by finds =
        let found = of_calls finds in
        rw (← by) (ap (λ (r : CallRow). cond (nat_lt end_time r.end_time) (r.numberx ∷ []) []) found.2 ∙ sym (numbers_found end_time db.calls found.1 stands.in_order.calls_rise))
