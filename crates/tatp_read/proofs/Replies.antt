-- The replies, by what was learned of the tables.
use Rattle.std.proofs.Common.{◌≡◌, ◌≢◌, ℕ, ◌≤◌, true, false, List, [], length, map, Option, Some, None, Result, Ok, refl, sym, ap, ◌∙◌, subst, zero-le}
use Rattle.std.specs.Prelude.{◌==◌, find, filter}
use Rattle.std.specs.List.{list_any}
use Rattle.std.specs.Option.{option_map_or}
use Rattle.std.specs.Result.{IsErrAnd}
use Rattle.std.proofs.lemmas.Bool.{eqb-true, eqb-false}
use Rattle.std.proofs.lemmas.List.{length-map}
use Rattle.dude_base.specs.declared.sizes.Sizes.{Sizes}
use Rattle.word_space.specs.declared.stop.Stop.{Stop}
use Rattle.word_space.specs.Sights.{WordsSight, IsBelow, shown}
use Rattle.word_space.specs.Steps.{WordsUsed}
use Rattle.word_space.proofs.Runs.{is_err, used_more}
use Rattle.tatp_model.specs.declared.access_row.AccessRow.{AccessRow}
use Rattle.tatp_model.specs.declared.call_row.CallRow.{CallRow}
use Rattle.tatp_model.specs.declared.numbers.Numbers.{Numbers}
use Rattle.tatp_model.specs.declared.reply.Reply.{Reply}
use Rattle.tatp_model.specs.declared.reply.Reply.TheVariants.{Subscriber, Destinations, Access, Missing, Changed}
use Rattle.tatp_model.specs.declared.request.Request.{Request}
use Rattle.tatp_model.specs.declared.request.Request.TheVariants.{GetSubscriber, GetDestination, GetAccess}
use Rattle.tatp_model.specs.declared.sub_row.SubRow.{SubRow}
use Rattle.tatp_model.specs.Database.{Database}
use Rattle.tatp_model.specs.Numbers.{numbers_of}
use Rattle.tatp_model.specs.Transaction.{is_subscriber, is_access, is_active_facility, forwards, reply_to}
use Rattle.tatp_layout.specs.StandsFor.{StandsFor}
use Rattle.tatp_layout.proofs.Seen.{stands_bare}
use Rattle.tatp_read.specs.Lookups.{AnswersRequest, reads_of}
use Rattle.tatp_model.proofs.Rows.{list_any-from_none, list_any-from_some}

module _ (limit : ℕ) (db : Database) {q : Request} where
  pub subscriber_reply : {s_id : ℕ} (row : Option SubRow) → q ≡ GetSubscriber s_id → row ≡ find (is_subscriber s_id) db.subscribers → option_map_or Subscriber row Missing ≡ reply_to limit db q
  subscriber_reply row is found = ap (λ o. option_map_or Subscriber o Missing) found ∙ sym (ap (reply_to limit db) is)

  pub access_reply : {s_id ai_type : ℕ} (row : Option AccessRow) → q ≡ GetAccess s_id ai_type → row ≡ find (is_access s_id ai_type) db.access → option_map_or (λ r. Access r.info) row Missing ≡ reply_to limit db q
  access_reply row is found = ap (λ o. option_map_or (λ (r : AccessRow). Access r.info) o Missing) found ∙ sym (ap (reply_to limit db) is)

  module _ {s_id sf_type start_time end_time : ℕ} (is : q ≡ GetDestination s_id sf_type start_time end_time) where
    pub inactive_reply : false ≡ list_any (is_active_facility s_id sf_type) db.facilities → Missing ≡ reply_to limit db q
    inactive_reply inactive = sym (ap (reply_to limit db) is ∙ (rw (← inactive) refl))

    module _ {phones : Numbers} (active : true ≡ list_any (is_active_facility s_id sf_type) db.facilities) (held : phones ≡ numbers_of (map (λ r. r.numberx) (filter (forwards s_id sf_type start_time end_time) db.calls))) where
      counted : phones.count ≡ length (filter (forwards s_id sf_type start_time end_time) db.calls)
      counted = ap (λ (n : Numbers). n.count) held ∙ length-map (filter (forwards s_id sf_type start_time end_time) db.calls) (λ (r : CallRow). r.numberx)

      pub no_destination_reply : (phones.count == 0) ≡ true → Missing ≡ reply_to limit db q
      no_destination_reply empty =
          let none : list_any (forwards s_id sf_type start_time end_time) db.calls ≡ false = list_any-from_none (forwards s_id sf_type start_time end_time) db.calls (sym counted ∙ eqb-true _ _ empty) in
          sym (ap (reply_to limit db) is ∙ (rw (← active, none) refl))

      pub destinations_reply : (phones.count == 0) ≡ false → Destinations phones ≡ reply_to limit db q
      destinations_reply not_empty =
          let some : list_any (forwards s_id sf_type start_time end_time) db.calls ≡ true = list_any-from_some (forwards s_id sf_type start_time end_time) db.calls (λ none. eqb-false _ _ not_empty (counted ∙ none)) in
          ap Destinations held ∙ sym (ap (reply_to limit db) is ∙ (rw (← active, some) refl))

-- ---- what answering leaves, by how it ended, of a request that was taken apart

module _ {S : Type 0} {sight : S → WordsSight} {turns_into : S → S → Type 0} (s : Sizes) {request taken : Request} (is : request ≡ taken) where
  within : {k : ℕ} {stop : Option Stop} {x y : S} → WordsUsed sight turns_into k 0 stop x y → k ≤ reads_of s taken → WordsUsed sight turns_into (reads_of s request) 0 stop x y
  within {stop = stop} {x = x} {y = y} used reads = subst (λ q. WordsUsed sight turns_into (reads_of s q) 0 stop x y) (sym is) (used_more used reads zero-le)

  -- a Stop that `?` hands on
  pub answers_stopped : {e : Stop} {k : ℕ} {x y : S} (r : Result Reply Stop) → IsErrAnd r (λ f. f ≡ e) → WordsUsed sight turns_into k 0 (Some e) x y → k ≤ reads_of s taken → AnswersRequest sight turns_into s request r x y
  answers_stopped {e} {x = x} {y = y} r handed used reads = subst (λ o. AnswersRequest sight turns_into s request o x y) (sym (is_err r handed)) (record { uses = within {stop = Some e} used reads; unchanged = tt; reply = tt })

  -- a reply, where no word was written before
  pub answers_as : {k : ℕ} {x y : S} (reply : Reply) → (sight x).writes ≡ [] → WordsUsed sight turns_into k 0 None x y → k ≤ reads_of s taken → reply ≢ Changed
      → ((array : List ℕ) → IsBelow (sight y) array → (db : Database) → StandsFor s (shown (sight x) array) db → reply ≡ reply_to s.calls db request) → AnswersRequest sight turns_into s request (Ok reply) x y
  answers_as {x = x} reply bare used reads other replies = record {
    uses = within {stop = None} used reads;
    unchanged = other;
    reply = λ array below db stands. replies array below db (stands_bare (sight x) bare stands);
  }
