-- `UPDATE_LOCATION` on the words of an array.
use Rattle.std.proofs.Common.{◌≡◌, ℕ, ◌+◌, ◌*◌, ◌<◌, List, length, map, Contains, Some, None, slice_set, refl, sym, ap, ◌∙◌, arith}
use Rattle.std.specs.Prelude.{find}
use Rattle.std.proofs.lemmas.List.Elements.{All-contains}
use Rattle.dude_base.specs.declared.limits.TheConstants.{PAGE}
use Rattle.dude_base.specs.declared.sizes.Sizes.{Sizes}
use Rattle.tatp_model.specs.declared.reply.Reply.TheVariants.{Changed, Missing}
use Rattle.tatp_model.specs.declared.request.Request.TheVariants.{UpdateLocation}
use Rattle.tatp_model.specs.declared.sub_row.SubRow.{SubRow}
use Rattle.tatp_model.specs.Database.{Database, IsSubRow}
use Rattle.tatp_model.specs.Request.{IsInRange}
use Rattle.tatp_model.specs.Transaction.{has_phone}
use Rattle.tatp_layout.specs.Index.{location_key}
use Rattle.tatp_layout.specs.Layout.{subscriber_table}
use Rattle.tatp_layout.specs.RecordCalls.{MovesLocation}
use Rattle.tatp_layout.specs.Records.{subscriber_form}
use Rattle.tatp_layout.specs.StandsFor.{StandsFor}
use Rattle.tatp_layout.proofs.Found.{told_subscriber}
use Rattle.tatp_layout.proofs.Indexes.{keys_reordered, tables_stay}
use Rattle.hash_table.specs.Table.{FindsAll, FitsTable}
use Rattle.tatp_layout.proofs.Rewritten.{ChangesRow, NamesRow, changes_row-set, changes_row-table, record_row, rows_kept, rows_rewritten}
use Rattle.tatp_layout.proofs.Stays.{taken_record}
use Rattle.tatp_layout.proofs.Stored.{vlr_set}
use Rattle.tatp_layout.proofs.Tables.{found_among, subscriber_room, subscribers_changed, tables_of}
use Rattle.tatp_core.specs.Serves.{Serves}
use Rattle.tatp_core.proofs.LocationKeys.{key_absent, keys_apart, keys_together, others_of}
use Rattle.tatp_core.proofs.Phones.{HasPhone}
use Rattle.tatp_core.proofs.Outcomes.{no_location, serves_by, serves_same, sets_location}

module _ {s : Sizes} {a : List ℕ} {db : Database} (sub_nbr vlr : ℕ) (range : IsInRange (UpdateLocation sub_nbr vlr)) (stands : StandsFor s a db) where
  -- no subscriber has the number
  pub serves_no_number : {b : List ℕ} → find (has_phone sub_nbr) db.subscribers ≡ None → b ≡ a → Serves s db (UpdateLocation sub_nbr vlr) Missing b
  serves_no_number none same = serves_same (UpdateLocation sub_nbr vlr) Missing stands range same (no_location s.calls db sub_nbr vlr none)

  module _ (s_id : ℕ) (tells : HasPhone db sub_nbr s_id) where
    -- a subscriber that has it is there
    pub subscriber_is_there : FindsAll (subscriber_table s) a s_id None → ⊥
    subscriber_is_there finds = (told_subscriber stands s_id None finds).none tells.row tells.among tells.id

    -- and its location was written, and its key moved where there is an index
    pub serves_location : {b : List ℕ} (at : ℕ) → FitsTable (subscriber_table s) (s.pages * PAGE) → FindsAll (subscriber_table s) a s_id (Some at) → MovesLocation s at vlr a b tt → Serves s db (UpdateLocation sub_nbr vlr) Changed b
    serves_location {b} at fits finds moves =
        let found = told_subscriber stands s_id (Some at) finds in
        let same : tells.row ≡ found.row = found.only tells.row tells.among tells.id in
        let among = found_among s_id stands.subscribers finds in
        let is_record = taken_record stands.subscribers at among in
        let inside : at + 6 < length a = omega (arith, fits.pool.inside at is_record, stands.size) in
        let changes : ChangesRow (subscriber_table s).pool.size at a (slice_set a (at + 6) vlr) = changes_row-set a 6 vlr (omega arith) (omega arith) in
        let rewrite = λ (r : SubRow). record r { vlr = vlr } in
        let names : NamesRow subscriber_form (has_phone sub_nbr) db.subscribers found.row = record {
          passes = ap (has_phone sub_nbr) (sym same) ∙ tells.passes;
          names = λ r c passes. ap (λ (t : SubRow). t.s_id) (tells.only r c passes ∙ same);
          alone = λ r c one. found.only r c (one ∙ found.key_is);
        } in
        let in_range = λ (r : SubRow) (c : Contains db.subscribers r). All-contains IsSubRow db.subscribers r stands.in_order.subscribers_in_range c in
        let rise = stands.in_order.subscribers_rise in
        let others = map location_key (others_of (has_phone sub_nbr) db.subscribers) in
        let done = moves found.row others (in_range found.row found.among) found.holds (λ some. keys_reordered (keys_apart rise found.among names) (stands.index some)) (key_absent rise found.among names vlr (λ r c. (in_range r c).s_id.1)) in
        let subscribers = rows_rewritten (subscriber_room s) stands.subscribers among found.holds (record_row fits is_record changes)
        (has_phone sub_nbr) rewrite names found.among (vlr_set vlr inside found.holds) in
        let tables = subscribers_changed (tables_of stands) (changes_row-table fits is_record changes) subscribers (rows_kept (has_phone sub_nbr) rewrite (λ r. refl) (λ r. refl) (λ r long. long) stands.numbers) in
        serves_by (UpdateLocation sub_nbr vlr) Changed stands range (sets_location s.calls db sub_nbr vlr s_id tells) done.size
        (tables_stay done.tables tables) (λ some. keys_reordered (keys_together rise found.among names rewrite) (done.keys some))
