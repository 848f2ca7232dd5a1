use Rattle.std.proofs.Common.{◌≡◌, ◌∙◌, true, false, sym, ap, refl, map, arith}
use Rattle.std.specs.List.{list_any, filter}
use Rattle.std.proofs.lemmas.Bool.{eqb-true, eqb-false}
use Rattle.std.proofs.lemmas.List.{length-map}
use Rattle.tatp_model.specs.declared.numbers.Numbers.{Numbers}
use Rattle.tatp_model.specs.declared.call_row.CallRow.{CallRow}
use Rattle.tatp_model.specs.declared.reply.Reply.TheVariants.{Destinations}
use Rattle.tatp_model.specs.Numbers.{numbers_of}
use Rattle.tatp_model.specs.Transaction.{forwards, is_active_facility}
use Rattle.tatp_model.proofs.Rows.{list_any-from_none, list_any-from_some}
use Rattle.tatp_model.proofs.reads.get_destination.Goals as goal

pub returns-then-is_empty : goal.returns-then-is_empty
returns-then-is_empty c limit =
    let fits = forwards c.args.s_id c.args.sf_type c.args.start_time c.args.end_time in
    let calls = c.args.t.now.calls.items in
    let active : list_any (is_active_facility c.args.s_id c.args.sf_type) c.args.t.now.facilities.items ≡ true = sym (rw c.deref.ensures.value at c.if-not-has_active_facility.ensures) in
    let held : c.destinations-phones.result ≡ numbers_of (map (λ (r : CallRow). r.numberx) (filter fits calls)) = rw c.deref-2.ensures.value at c.destinations-phones.ensures in
    let few : c.destinations-phones.result.count ≡ 0 = eqb-true _ _ (sym c.is_empty.ensures ∙ c.if-is_empty.true) in
    let none : list_any fits calls ≡ false = list_any-from_none fits calls (omega (arith, ap (λ (n : Numbers). n.count) held, length-map (filter fits calls) (λ (r : CallRow). r.numberx), few)) in
    rw (active, none) refl

pub returns : goal.returns
returns c limit =
    let fits = forwards c.args.s_id c.args.sf_type c.args.start_time c.args.end_time in
    let calls = c.args.t.now.calls.items in
    let active : list_any (is_active_facility c.args.s_id c.args.sf_type) c.args.t.now.facilities.items ≡ true = sym (rw c.deref.ensures.value at c.if-not-has_active_facility.ensures) in
    let held : c.destinations-phones.result ≡ numbers_of (map (λ (r : CallRow). r.numberx) (filter fits calls)) = rw c.deref-2.ensures.value at c.destinations-phones.ensures in
    let some : list_any fits calls ≡ true = list_any-from_some fits calls (λ none. eqb-false _ _ (sym c.is_empty.ensures ∙ c.if-is_empty.false) (omega (arith, ap (λ (n : Numbers). n.count) held, length-map (filter fits calls) (λ (r : CallRow). r.numberx), none))) in
    rw (active, some) (ap Destinations held)
