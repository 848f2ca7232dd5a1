use Rattle.std.proofs.Common.{arith}
use Rattle.dude_base.proofs.ChangedLists.{changed_next}
use Rattle.back_store.specs.Lane.{released_lane}
use Rattle.back_store.proofs.backlog.release_all.Goals as goal

pub loop-lane-preserved : goal.loop-lane-preserved
loop-lane-preserved c =
    changed_next (released_lane c.args.number) c.loop-lane.lane-index c.args.lanes.now.items c.loop-lane.lane-items c.lane-item.result c.release.new.self c.loop-lane.invariant c.release.ensures
    (omega (arith, c.loop-lane-test.true, c.loop-lane.auto.lane-items, c.deref_mut-lane-items.ensures.value, c.deref_mut-lane-items.ensures.len))
