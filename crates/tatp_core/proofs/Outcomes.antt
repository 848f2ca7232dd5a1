-- What a writing request answers and leaves, case by case.
use Rattle.std.proofs.Common.{◌≡◌, ℕ, true, false, not, List, length, None, refl, sym, ap, ◌∙◌, subst}
use Rattle.std.specs.Prelude.{is_some, find, slice_set, nat_le}
use Rattle.std.specs.List.{filter, list_any}
use Rattle.dude_base.specs.declared.sizes.Sizes.{Sizes}
use Rattle.tatp_model.specs.declared.reply.Reply.{Reply}
use Rattle.tatp_model.specs.declared.reply.Reply.TheVariants.{Missing, NoFacility, Duplicate, FullTable}
use Rattle.tatp_model.specs.declared.request.Request.{Request}
use Rattle.tatp_model.specs.declared.request.Request.TheVariants.{UpdateSubscriber, UpdateLocation, InsertCall, DeleteCall}
use Rattle.tatp_model.specs.Database.{Database}
use Rattle.tatp_model.specs.Request.{IsInRange}
use Rattle.tatp_model.specs.Transaction.{Outcome, answers, changes, has_phone, is_call, is_facility, is_subscriber, outcome_of, update_where, with_call}
use Rattle.tatp_model.proofs.Numbered.{list_any-find}
use Rattle.tatp_model.proofs.InOrder.{KeepsOrder-after_request}
use Rattle.tatp_layout.specs.Index.{IndexStands}
use Rattle.tatp_layout.specs.StandsFor.{StandsFor}
use Rattle.tatp_layout.proofs.Tables.{HasTables, rows_within, stands_by, tables_of}
use Rattle.tatp_core.specs.Serves.{Serves}
use Rattle.tatp_core.proofs.Phones.{HasPhone}

module _ {s : Sizes} {a b : List ℕ} {db after : Database} (request : Request) (reply : Reply) (stands : StandsFor s a db) where
  -- the step's outcome, of whose tables the array has the rows
  pub serves_by : IsInRange request → outcome_of s.calls db request ≡ record { reply = reply; after = after } → length b ≡ length a → HasTables s b after → IndexStands s b after.subscribers → Serves s db request reply b
  serves_by range outcome size tables index =
      let kept = KeepsOrder-after_request s.calls db request range (record { order = stands.in_order; room = rows_within stands.calls }) in
      record {
        replies = sym (ap (λ (o : Outcome). o.reply) outcome);
        stands = stands_by (size ∙ stands.size) kept.order (subst (HasTables s b) (sym (ap (λ (o : Outcome). o.after) outcome)) tables)
            (subst (λ (d : Database). IndexStands s b d.subscribers) (sym (ap (λ (o : Outcome). o.after) outcome)) index);
      }

-- nothing changes
pub serves_same : {s : Sizes} {a b : List ℕ} {db : Database} (request : Request) (reply : Reply) → StandsFor s a db → IsInRange request → b ≡ a → outcome_of s.calls db request ≡ answers db reply → Serves s db request reply b
serves_same {s} {a} {b} {db} request reply stands range same outcome = subst (λ l. Serves s db request reply l) (sym same) (serves_by request reply stands range outcome refl (tables_of stands) stands.index)

-- ---- the cases of each request

module _ (limit : ℕ) (db : Database) where
  module _ (s_id bit_1 sf_type data_a : ℕ) where
    pub no_subscriber : list_any (is_subscriber s_id) db.subscribers ≡ false → outcome_of limit db (UpdateSubscriber s_id bit_1 sf_type data_a) ≡ answers db Missing
    no_subscriber none = rw none refl

    pub no_facility : list_any (is_subscriber s_id) db.subscribers ≡ true → list_any (is_facility s_id sf_type) db.facilities ≡ false → outcome_of limit db (UpdateSubscriber s_id bit_1 sf_type data_a) ≡ answers db Missing
    no_facility there none = rw (there, none) refl

    pub sets_fields : list_any (is_subscriber s_id) db.subscribers ≡ true → list_any (is_facility s_id sf_type) db.facilities ≡ true → outcome_of limit db (UpdateSubscriber s_id bit_1 sf_type data_a) ≡ changes (record db {
      subscribers = update_where (is_subscriber s_id) (λ r. record r { bits = slice_set r.bits 0 bit_1 }) db.subscribers;
      facilities = update_where (is_facility s_id sf_type) (λ r. record r { data_a = data_a }) db.facilities;
    })
    sets_fields there facility = rw (there, facility) refl

  module _ (sub_nbr vlr : ℕ) where
    pub no_location : find (has_phone sub_nbr) db.subscribers ≡ None → outcome_of limit db (UpdateLocation sub_nbr vlr) ≡ answers db Missing
    no_location none = rw (list_any-find (has_phone sub_nbr) db.subscribers ∙ ap is_some none) refl

    pub sets_location : (s_id : ℕ) → HasPhone db sub_nbr s_id → outcome_of limit db (UpdateLocation sub_nbr vlr) ≡ changes (record db { subscribers = update_where (has_phone sub_nbr) (λ r. record r { vlr = vlr }) db.subscribers })
    sets_location s_id tells = rw (list_any-find (has_phone sub_nbr) db.subscribers ∙ ap is_some tells.found) refl

  module _ (sub_nbr sf_type start_time end_time numberx : ℕ) where
    pub inserts_for_none : find (has_phone sub_nbr) db.subscribers ≡ None → outcome_of limit db (InsertCall sub_nbr sf_type start_time end_time numberx) ≡ answers db Missing
    inserts_for_none none = rw none refl

    module _ (s_id : ℕ) (tells : HasPhone db sub_nbr s_id) where
      pub inserts_nowhere : list_any (is_facility s_id sf_type) db.facilities ≡ false → outcome_of limit db (InsertCall sub_nbr sf_type start_time end_time numberx) ≡ answers db NoFacility
      inserts_nowhere none = rw tells.found (rw tells.id (rw none refl))

      pub inserts_twice : list_any (is_facility s_id sf_type) db.facilities ≡ true → list_any (is_call s_id sf_type start_time) db.calls ≡ true → outcome_of limit db (InsertCall sub_nbr sf_type start_time end_time numberx) ≡ answers db Duplicate
      inserts_twice facility there = rw tells.found (rw tells.id (rw (facility, there) refl))

      pub inserts_full : list_any (is_facility s_id sf_type) db.facilities ≡ true → list_any (is_call s_id sf_type start_time) db.calls ≡ false → nat_le limit (length db.calls) ≡ true → outcome_of limit db (InsertCall sub_nbr sf_type start_time end_time numberx) ≡ answers db FullTable
      inserts_full facility absent full = rw tells.found (rw tells.id (rw (facility, absent, full) refl))

      pub inserts_one : list_any (is_facility s_id sf_type) db.facilities ≡ true → list_any (is_call s_id sf_type start_time) db.calls ≡ false → nat_le limit (length db.calls) ≡ false → outcome_of limit db (InsertCall sub_nbr sf_type start_time end_time numberx) ≡ changes (record db { calls = with_call (record { s_id = s_id; sf_type = sf_type; start_time = start_time; end_time = end_time; numberx = numberx }) db.calls })
      inserts_one facility absent room = rw tells.found (rw tells.id (rw (facility, absent, room) refl))

  module _ (sub_nbr sf_type start_time : ℕ) where
    pub deletes_for_none : find (has_phone sub_nbr) db.subscribers ≡ None → outcome_of limit db (DeleteCall sub_nbr sf_type start_time) ≡ answers db Missing
    deletes_for_none none = rw none refl

    module _ (s_id : ℕ) (tells : HasPhone db sub_nbr s_id) where
      pub deletes_none : list_any (is_call s_id sf_type start_time) db.calls ≡ false → outcome_of limit db (DeleteCall sub_nbr sf_type start_time) ≡ answers db Missing
      deletes_none none = rw tells.found (rw tells.id (rw none refl))

      pub deletes_one : list_any (is_call s_id sf_type start_time) db.calls ≡ true → outcome_of limit db (DeleteCall sub_nbr sf_type start_time) ≡ changes (record db { calls = filter (λ r. not (is_call s_id sf_type start_time r)) db.calls })
      deletes_one there = rw tells.found (rw tells.id (rw there refl))
