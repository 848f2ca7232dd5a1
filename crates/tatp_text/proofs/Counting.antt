-- Counts of the front of a list, with one more item.
use Rattle.std.proofs.Common.{ℕ, ◌≡◌, ◌+◌, ◌<◌, Bool, true, false, ◌&&◌, List, length, take, get_or, cond, refl, sym, ap, ◌∙◌, ◌^◌, length-take, arith}
use Rattle.std.specs.Prelude.{codes, if◌then◌else◌}
use Rattle.std.proofs.lemmas.List.Filters.{length-filter_more}
use Rattle.std.proofs.lemmas.List.Sums.{length-filter, count_by-le-length}
use Rattle.tatp_model.specs.declared.done.Done.{Done}
use Rattle.tatp_model.specs.declared.request.Request.{Request}
use Rattle.tatp_model.specs.declared.reply.Reply.{Reply}
use Rattle.tatp_text.specs.declared.counts.Counts.{Counts}
use Rattle.tatp_text.specs.declared.summary.Summary.{Summary}
use Rattle.tatp_text.specs.Counts.{HasRoom, count_of, counts_of, is_answered, is_ok, more_if}
use Rattle.tatp_text.specs.Summary.{EachHasRoom, counted, is_named, with_done, with_reply_if}

-- one more of a number, where both tests hold
more_of_is : (of_kind answered : Bool) (n : ℕ) → n + cond (of_kind && answered) 1 0 ≡ if of_kind then more_if answered n else n
more_of_is true true n = refl
more_of_is true false n = omega arith
more_of_is false answered n = omega arith

count_of-more : (of_kind : Request → Bool) (answered : Reply → Bool) (done : List Done) (i : ℕ) (d : Done) → i < length done
    → count_of of_kind answered (take (i + 1) done)
    ≡ if of_kind (get_or done i d).request then more_if (answered (get_or done i d).reply) (count_of of_kind answered (take i done)) else count_of of_kind answered (take i done)
count_of-more of_kind answered done i d lt =
    length-filter_more (λ (x : Done). of_kind x.request && answered x.reply) done i d lt
    ∙ more_of_is (of_kind (get_or done i d).request) (answered (get_or done i d).reply) (count_of of_kind answered (take i done))

with_reply_if_is : (test : Bool) (counts : Counts) (reply : Reply) → ◌≡◌ {A = Counts} (record {
  requests = if test then counts.requests + 1 else counts.requests;
  ok = if test then more_if (is_ok reply) counts.ok else counts.ok;
  missing = if test then more_if (is_answered (codes "NONE") reply) counts.missing else counts.missing;
  no_facility = if test then more_if (is_answered (codes "NOFAC") reply) counts.no_facility else counts.no_facility;
  duplicate = if test then more_if (is_answered (codes "DUP") reply) counts.duplicate else counts.duplicate;
  full = if test then more_if (is_answered (codes "FULL") reply) counts.full else counts.full;
}) (with_reply_if test counts reply)
with_reply_if_is true counts reply = refl
with_reply_if_is false counts reply = refl

counts_of-more : (of_kind : Request → Bool) (done : List Done) (i : ℕ) (d : Done) → i < length done
    → counts_of of_kind (take (i + 1) done) ≡ with_reply_if (of_kind (get_or done i d).request) (counts_of of_kind (take i done)) (get_or done i d).reply
counts_of-more of_kind done i d lt =
    let one = λ (answered : Reply → Bool). count_of-more of_kind answered done i d lt in
    rw (one (λ r. true), one is_ok, one (is_answered (codes "NONE")), one (is_answered (codes "NOFAC")), one (is_answered (codes "DUP")), one (is_answered (codes "FULL")))
    (with_reply_if_is (of_kind (get_or done i d).request) (counts_of of_kind (take i done)) (get_or done i d).reply)

-- the counts of each kind
counted-more : (done : List Done) (i : ℕ) (d : Done) → i < length done → counted (take (i + 1) done) ≡ with_done (counted (take i done)) (get_or done i d)
unfolding with_done
counted-more done i d lt =
    let one = λ (of_kind : Request → Bool). counts_of-more of_kind done i d lt in
    rw (
      one (is_named (codes "GET_SUBSCRIBER_DATA")),
      one (is_named (codes "GET_NEW_DESTINATION")),
      one (is_named (codes "GET_ACCESS_DATA")),
      one (is_named (codes "UPDATE_SUBSCRIBER_DATA")),
      one (is_named (codes "UPDATE_LOCATION")),
      one (is_named (codes "INSERT_CALL_FORWARDING")),
      one (is_named (codes "DELETE_CALL_FORWARDING")),
      one (is_named (codes "SYNC")),
    ) refl

pub counted-add : (done : List Done) (i : ℕ) (d : Done) (before after : Summary) → i < length done → before ≡ counted (take i done) → after ≡ with_done before (get_or done i d) → after ≡ counted (take (i + 1) done)
counted-add done i d before after lt is added = added ∙ ap (λ (s : Summary). with_done s (get_or done i d)) is ∙ sym (counted-more done i d lt)

-- a count of a front is below the length of the whole
count_of-room : (of_kind : Request → Bool) (answered : Reply → Bool) (done : List Done) (i : ℕ) → i < length done → length done < 2 ^ 64
    → count_of of_kind answered (take i done) + 1 < 2 ^ 64
count_of-room of_kind answered done i lt fits =
    let p = λ (x : Done). of_kind x.request && answered x.reply in
    omega (arith, length-filter p (take i done), count_by-le-length p (take i done), length-take i done)

counts_of-room : (of_kind : Request → Bool) (done : List Done) (i : ℕ) → i < length done → length done < 2 ^ 64 → HasRoom (counts_of of_kind (take i done))
counts_of-room of_kind done i lt fits =
    let one = λ (answered : Reply → Bool). count_of-room of_kind answered done i lt fits in
    (one (λ r. true), one is_ok, one (is_answered (codes "NONE")), one (is_answered (codes "NOFAC")), one (is_answered (codes "DUP")), one (is_answered (codes "FULL")))

pub counted-room : (done : List Done) (i : ℕ) → i < length done → length done < 2 ^ 64 → EachHasRoom (counted (take i done))
counted-room done i lt fits =
    let one = λ (of_kind : Request → Bool). counts_of-room of_kind done i lt fits in
    (one (is_named (codes "GET_SUBSCRIBER_DATA")), one (is_named (codes "GET_NEW_DESTINATION")), one (is_named (codes "GET_ACCESS_DATA")), one (is_named (codes "UPDATE_SUBSCRIBER_DATA")), one (is_named (codes "UPDATE_LOCATION")), one (is_named (codes "INSERT_CALL_FORWARDING")), one (is_named (codes "DELETE_CALL_FORWARDING")), one (is_named (codes "SYNC")))
