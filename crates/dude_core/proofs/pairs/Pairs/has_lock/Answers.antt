use Rattle.std.proofs.Common.{◌∙◌, sym}
use Rattle.dude_core.proofs.Walks.{lock_here, lock_on, lock_end}
use Rattle.dude_core.proofs.pairs.Pairs.has_lock.Goals as goal

pub returns-then-lock_of-lock : goal.returns-then-lock_of-lock
returns-then-lock_of-lock c = rw (← c.self.view_is, ← c.deref-item-items.ensures.value) (lock_here c.args.z.now c.deref-item-items.result.now c.args.lock c.loop-item.item-index c.loop-item-test.true c.loop-item.invariant (sym c.lock_of.ensures ∙ c.if-lock_of-lock.true))

pub loop-item-preserved : goal.loop-item-preserved
loop-item-preserved c = lock_on c.args.z.now c.deref-item-items.result.now c.args.lock c.loop-item.item-index c.loop-item-test.true c.loop-item.invariant (λ e. c.if-lock_of-lock.false (c.lock_of.ensures ∙ e))

pub returns : goal.returns
returns c = rw (← c.self.view_is, ← c.deref-item-items.ensures.value) (lock_end c.args.z.now c.deref-item-items.result.now c.args.lock c.loop-item.item-index c.loop-item-test.false c.loop-item.invariant)
