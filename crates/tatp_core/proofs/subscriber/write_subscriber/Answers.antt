use Rattle.std.proofs.Common.{ap, arith, subst, refl, slice_set, ◌+◌, [], ◌∷◌, ◌∙◌, lit≤, lit<}
use Rattle.hash_table.specs.Walk.{walk_reads}
use Rattle.word_space.specs.Sights.{shown}
use Rattle.word_space.proofs.Runs.{below_before, shown_same, used_then, used_until, wrote_none, wrote_then}
use Rattle.record_heap.specs.Changes.{ChangesOnly}
use Rattle.tatp_model.specs.declared.sub_row.SubRow.{SubRow}
use Rattle.tatp_model.specs.Database.{IsSubRow}
use Rattle.tatp_model.specs.declared.reply.Reply.TheVariants.{Missing}
use Rattle.tatp_model.specs.Request.{IsInRange}
use Rattle.tatp_layout.specs.Records.{HoldsRow, subscriber_form}
use Rattle.tatp_layout.proofs.Seen.{fits_still, record_at}
use Rattle.tatp_core.proofs.Answered.{finds_at, fits_at}
use Rattle.tatp_core.proofs.Subscribers.{serves_fields, serves_no_facility, serves_no_subscriber}
use Rattle.tatp_core.proofs.Serving.{serves_changed, serves_stopped, serves_unchanged, wrote_more}
use Rattle.tatp_core.proofs.subscriber.write_subscriber.Goals as goal

pub find-requires : goal.find-requires
find-requires g c = record { fits = fits_still c.requires.can.size c.subscribers.ensures.fits }

pub kind_key-requires-clause-id : goal.kind_key-requires-clause-id
kind_key-requires-clause-id g c = (subst IsInRange c.in-UpdateSubscriber.is c.requires.can.in_range).0

pub kind_key-requires-clause-kind : goal.kind_key-requires-clause-kind
kind_key-requires-clause-kind g c = (subst IsInRange c.in-UpdateSubscriber.is c.requires.can.in_range).2

pub find-requires-2 : goal.find-requires-2
find-requires-2 g c = record { fits = fits_still (c.in_ok-subscriber.ensures.uses.count ∙ c.requires.can.size) c.facilities.ensures.fits }

pub put_bit1-requires-clause-size : goal.put_bit1-requires-clause-size
put_bit1-requires-clause-size g c = c.in_ok-facility.ensures.uses.count ∙ c.in_ok-subscriber.ensures.uses.count ∙ c.requires.can.size

pub put_bit1-requires-clause-record : goal.put_bit1-requires-clause-record
put_bit1-requires-clause-record g c = record_at c.subscribers.ensures.table c.in-Some.is c.in_ok-subscriber.ensures.«record»

pub put_bit1-requires-clause-range : goal.put_bit1-requires-clause-range
put_bit1-requires-clause-range g c = (subst IsInRange c.in-UpdateSubscriber.is c.requires.can.in_range).1

pub put_data_a-requires-clause-size : goal.put_data_a-requires-clause-size
put_data_a-requires-clause-size g c = c.in_ok-put_bit1.ensures.uses.count ∙ c.in_ok-facility.ensures.uses.count ∙ c.in_ok-subscriber.ensures.uses.count ∙ c.requires.can.size

pub put_data_a-requires-clause-record : goal.put_data_a-requires-clause-record
put_data_a-requires-clause-record g c = record_at c.facilities.ensures.table c.in-Some-2.is c.in_ok-facility.ensures.«record»

pub put_data_a-requires-clause-range : goal.put_data_a-requires-clause-range
put_data_a-requires-clause-range g c = (subst IsInRange c.in-UpdateSubscriber.is c.requires.can.in_range).3

pub returns-in_err-subscriber : goal.returns-in_err-subscriber
returns-in_err-subscriber g c = serves_stopped c.args.lay.now c.in-UpdateSubscriber.is c.from_residual.result c.from_residual.ensures.1 c.requires.can c.in_err-subscriber.ensures.uses (omega (arith, ap walk_reads c.subscribers.ensures.table)) (lit≤ tt)

pub returns-in_default-2 : goal.returns-in_default-2
returns-in_default-2 g c = serves_unchanged c.args.lay.now c.in-UpdateSubscriber.is g.met.W.Words.well_formed Missing c.requires.can c.in_ok-subscriber.ensures.uses (omega (arith, ap walk_reads c.subscribers.ensures.table)) (lit≤ tt) (wrote_none c.in_ok-subscriber.ensures.uses) (λ same. cc)
    (λ range array below db stands.
    let q = c.in-UpdateSubscriber in
    let find = c.in_ok-subscriber.ensures in
    (serves_no_subscriber q.s_id q.bit_1 q.sf_type q.data_a range stands
    (finds_at c.subscribers.ensures.table refl refl c.in_default-2.is (find.found array below)) (shown_same find.uses array)))

pub returns-in_err-facility : goal.returns-in_err-facility
returns-in_err-facility g c = serves_stopped c.args.lay.now c.in-UpdateSubscriber.is c.from_residual-in_err-facility.result c.from_residual-in_err-facility.ensures.1 c.requires.can (used_until c.in_ok-subscriber.ensures.uses c.in_err-facility.ensures.uses) (omega (arith, ap walk_reads c.subscribers.ensures.table, ap walk_reads c.facilities.ensures.table)) (lit≤ tt)

pub returns-in_default-3 : goal.returns-in_default-3
returns-in_default-3 g c = serves_unchanged c.args.lay.now c.in-UpdateSubscriber.is g.met.W.Words.well_formed Missing c.requires.can (used_then c.in_ok-subscriber.ensures.uses c.in_ok-facility.ensures.uses) (omega (arith, ap walk_reads c.subscribers.ensures.table, ap walk_reads c.facilities.ensures.table)) (lit≤ tt) (wrote_none (used_then c.in_ok-subscriber.ensures.uses c.in_ok-facility.ensures.uses)) (λ same. cc)
    (λ range array below db stands.
    let q = c.in-UpdateSubscriber in
    let find = c.in_ok-subscriber.ensures in
    let find_facility = c.in_ok-facility.ensures in
    (serves_no_facility q.s_id q.bit_1 q.sf_type q.data_a range stands
    (finds_at c.subscribers.ensures.table refl refl c.in-Some.is (find.found array (below_before find_facility.uses below)))
    (finds_at c.facilities.ensures.table (shown_same find.uses array) c.kind_key.ensures c.in_default-3.is (find_facility.found array below))
    (shown_same (used_then find.uses find_facility.uses) array)))

pub returns-in_err-put_bit1 : goal.returns-in_err-put_bit1
returns-in_err-put_bit1 g c = serves_stopped c.args.lay.now c.in-UpdateSubscriber.is c.from_residual-in_err-put_bit1.result c.from_residual-in_err-put_bit1.ensures.1 c.requires.can (used_until (used_then c.in_ok-subscriber.ensures.uses c.in_ok-facility.ensures.uses) c.in_err-put_bit1.ensures.uses) (omega (arith, ap walk_reads c.subscribers.ensures.table, ap walk_reads c.facilities.ensures.table)) (lit≤ tt)

pub returns-in_err-put_data_a : goal.returns-in_err-put_data_a
returns-in_err-put_data_a g c = serves_stopped c.args.lay.now c.in-UpdateSubscriber.is c.from_residual-in_err-put_data_a.result c.from_residual-in_err-put_data_a.ensures.1 c.requires.can (used_until (used_then c.in_ok-subscriber.ensures.uses (used_then c.in_ok-facility.ensures.uses c.in_ok-put_bit1.ensures.uses)) c.in_err-put_data_a.ensures.uses) (omega (arith, ap walk_reads c.subscribers.ensures.table, ap walk_reads c.facilities.ensures.table)) (lit≤ tt)

pub returns : goal.returns
returns g c = serves_changed c.args.lay.now c.in-UpdateSubscriber.is g.met.W.Words.well_formed c.requires.can (used_then c.in_ok-subscriber.ensures.uses (used_then c.in_ok-facility.ensures.uses (used_then c.in_ok-put_bit1.ensures.uses c.in_ok-put_data_a.ensures.uses))) (omega (arith, ap walk_reads c.subscribers.ensures.table, ap walk_reads c.facilities.ensures.table)) (lit≤ tt) (wrote_more (wrote_then (wrote_none (used_then c.in_ok-subscriber.ensures.uses c.in_ok-facility.ensures.uses)) (wrote_then c.in_ok-put_bit1.ensures.wrote c.in_ok-put_data_a.ensures.wrote)) (lit< tt))
    (λ range array below db stands.
    let q = c.in-UpdateSubscriber in
    let find = c.in_ok-subscriber.ensures in
    let find_facility = c.in_ok-facility.ensures in
    let bit = c.in_ok-put_bit1.ensures in
    let byte = c.in_ok-put_data_a.ensures in
    let below_bit = below_before byte.uses below in
    let below_facility = below_before bit.uses below_bit in
    let same = shown_same (used_then find.uses find_facility.uses) array in
    let middle = shown (g.W.Words.sight c.put_bit1.new.w) array in
    (serves_fields q.s_id q.bit_1 q.sf_type q.data_a range stands
    c.in-Some.subscriber c.in-Some-2.facility (fits_at c.subscribers.ensures.table c.subscribers.ensures.fits) (fits_at c.facilities.ensures.table c.facilities.ensures.fits)
    (finds_at c.subscribers.ensures.table refl refl c.in-Some.is (find.found array (below_before find_facility.uses below_facility)))
    (finds_at c.facilities.ensures.table (shown_same find.uses array) c.kind_key.ensures c.in-Some-2.is (find_facility.found array below_facility))
    (subst (λ l. ChangesOnly ((c.in-Some.subscriber + 2) ∷ []) l middle) same (bit.changes array below_bit))
    (subst (λ l. (r : SubRow) → IsSubRow r → HoldsRow subscriber_form l c.in-Some.subscriber r → HoldsRow subscriber_form middle c.in-Some.subscriber (record r { bits = slice_set r.bits 0 q.bit_1 })) same (bit.holds array below_bit))
    (byte.changes array below) (byte.holds array below)))
