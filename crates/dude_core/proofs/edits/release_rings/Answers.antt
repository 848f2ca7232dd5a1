use Rattle.std.proofs.Common.{arith}
use Rattle.dude_base.proofs.ChangedLists.{changed_next}
use Rattle.dude_core.specs.Effects.{ring_released}
use Rattle.dude_core.proofs.edits.release_rings.Goals as goal

pub loop-ring-preserved : goal.loop-ring-preserved
loop-ring-preserved c =
    changed_next (ring_released c.args.number) c.loop-ring.ring-index c.args.rings.now.items c.loop-ring.ring-items c.ring-item.result c.release.new.self c.loop-ring.invariant c.release.ensures
    (omega (arith, c.loop-ring-test.true, c.loop-ring.auto.ring-items, c.deref_mut-ring-items.ensures.value, c.deref_mut-ring-items.ensures.len))
