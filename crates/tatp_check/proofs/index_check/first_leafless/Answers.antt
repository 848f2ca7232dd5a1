use Rattle.std.proofs.Common.{All, take, get_or, refl, sym, ◌∙◌, subst}
use Rattle.std.proofs.lemmas.Bool.{false≢true}
use Rattle.std.proofs.lemmas.List.{take_all, take_more}
use Rattle.std.proofs.lemmas.List.Elements.{All-push}
use Rattle.tatp_check.specs.IndexFaults.{HasLeaf}
use Rattle.tatp_check.proofs.IndexSound.{leafless_at}
use Rattle.tatp_check.proofs.index_check.first_leafless.Goals as goal

pub returns-then-not-has_leaf : goal.returns-then-not-has_leaf
returns-then-not-has_leaf c = λ leaves taken.
    leafless_at c.args.a.now leaves c.args.subscribers.now c.loop-at.at-index _ c.loop-at-test.true refl (c.loop-at.invariant leaves taken)
    (λ has. false≢true (sym c.if-not-has_leaf.true ∙ (c.has_leaf.ensures leaves taken).1 has))

pub loop-at-preserved : goal.loop-at-preserved
loop-at-preserved c = λ leaves taken.
    let array = c.args.a.now in
    let i = c.loop-at.at-index in
    let subscribers = c.args.subscribers.now in
    subst (All (HasLeaf array leaves)) (sym (take_more subscribers i 0 c.loop-at-test.true))
    (All-push (HasLeaf array leaves) (take i subscribers) (get_or subscribers i 0) (c.loop-at.invariant leaves taken) ((c.has_leaf.ensures leaves taken).0 c.if-not-has_leaf.false))

pub returns : goal.returns
returns c = λ leaves taken.
    subst (All (HasLeaf c.args.a.now leaves)) (take_all c.loop-at.at-index c.args.subscribers.now c.loop-at-test.false) (c.loop-at.invariant leaves taken)
