use Rattle.std.proofs.Common.{◌∙◌, sym, ap}
use Rattle.core_events.specs.Keyed.{has}
use Rattle.dude_core.proofs.Walks.{checked_here, checked_on, checked_end}
use Rattle.dude_core.proofs.pairs.Pairs.all_checked.Goals as goal

pub returns-then-not-has : goal.returns-then-not-has
returns-then-not-has c = rw (← c.self.view_is, ← c.deref-item-items.ensures.value) (checked_here c.args.z.now c.args.locks.now c.deref-item-items.result.now c.loop-item.item-index c.loop-item-test.true c.loop-item.invariant (ap (has c.args.locks.now) (sym c.lock_of.ensures) ∙ (sym c.has.ensures ∙ c.if-not-has.true)))

pub loop-item-preserved : goal.loop-item-preserved
loop-item-preserved c = checked_on c.args.z.now c.args.locks.now c.deref-item-items.result.now c.loop-item.item-index c.loop-item-test.true c.loop-item.invariant (ap (has c.args.locks.now) (sym c.lock_of.ensures) ∙ (sym c.has.ensures ∙ c.if-not-has.false))

pub returns : goal.returns
returns c = rw (← c.self.view_is, ← c.deref-item-items.ensures.value) (checked_end c.args.z.now c.args.locks.now c.deref-item-items.result.now c.loop-item.item-index c.loop-item-test.false c.loop-item.invariant)
