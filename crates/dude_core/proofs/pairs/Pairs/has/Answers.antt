use Rattle.dude_core.proofs.Walks.{filled_here, filled_on, rest_all}
use Rattle.dude_core.proofs.pairs.Pairs.has.Goals.{else-item-key-via-then-item-key+else-item-value, else-item-key-via-else-item-key}
use Rattle.dude_core.proofs.pairs.Pairs.has.Goals as goal

pub returns-then-item-value : goal.returns-then-item-value
returns-then-item-value c = rw (← c.self.view_is, ← c.deref-item-items.ensures.value) (filled_here c.deref-item-items.result.now c.loop-item.item-index c.args.key c.args.value c.loop-item-test.true c.if-item-key.true c.if-item-value.true)

pub loop-item-preserved : goal.loop-item-preserved
loop-item-preserved c = λ h. filled_on c.deref-item-items.result.now c.loop-item.item-index c.args.key c.args.value c.loop-item-test.true (c.loop-item.invariant h)
    (λ t. elim c.else-item-key.branch [ else-item-key-via-then-item-key+else-item-value w ↦ w.if-item-value.false t.1 | else-item-key-via-else-item-key w ↦ w.if-item-key.false t.0 ])

pub returns : goal.returns
returns c = rw (← c.self.view_is, ← c.deref-item-items.ensures.value) (λ h. rw (rest_all c.deref-item-items.result.now c.loop-item.item-index c.loop-item-test.false) at (c.loop-item.invariant h))
