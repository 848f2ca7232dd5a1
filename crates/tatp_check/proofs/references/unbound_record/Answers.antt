use Rattle.std.proofs.Common.{◌≡◌, ◌<◌, ◌≤◌, length, get_or, ap, sym, ◌∙◌, subst}
use Rattle.std.proofs.lemmas.Bool.{false≢true}
use Rattle.tatp_check.specs.Taken.{records_taken}
use Rattle.tatp_check.specs.Walked.{records_of_kind}
use Rattle.tatp_check.proofs.Referring.{unbound_at, bound_all}
use Rattle.tatp_check.proofs.references.unbound_record.Goals as goal

pub returns-then-not-refers : goal.returns-then-not-refers
returns-then-not-refers c =
    let items : c.records-at-items.result.now ≡ records_of_kind c.args.walked.now c.args.kind = c.records-at-items.ensures ∙ ap records_taken c.of.ensures in
    unbound_at c.args.a.now (records_of_kind c.args.walked.now) c.args.kind c.loop-at.at-index _ (subst (λ l. c.loop-at.at-index < length l) items c.loop-at-test.true) (ap (λ l. get_or l c.loop-at.at-index 0) items) c.loop-at.invariant
    (λ there. false≢true (sym c.if-not-refers.true ∙ c.refers.ensures.1 there))

pub returns : goal.returns
returns c =
    let items : c.records-at-items.result.now ≡ records_of_kind c.args.walked.now c.args.kind = c.records-at-items.ensures ∙ ap records_taken c.of.ensures in
    bound_all c.args.a.now (records_of_kind c.args.walked.now) c.args.kind c.loop-at.at-index (subst (λ l. length l ≤ c.loop-at.at-index) items c.loop-at-test.false) c.loop-at.invariant
