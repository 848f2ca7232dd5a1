use Rattle.std.proofs.Common.{refl}
use Rattle.back_store.proofs.EmptyLanes.{empty_lawful}
use Rattle.back_store.proofs.backlog.Backlog.new.Goals as goal

pub invariant_of-result : goal.invariant_of-result
invariant_of-result c = record {
  lawful = rw c.in_ok-empty_lanes.ensures (empty_lawful c.args.place c.args.number c.sizes-sizes.ensures.accepted c.requires);
  group = rw c.in_ok-new.ensures refl;
}
