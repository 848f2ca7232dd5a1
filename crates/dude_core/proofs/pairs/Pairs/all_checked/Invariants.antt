use Rattle.std.proofs.Common.{◌≡◌, drop}
use Rattle.core_events.specs.Events.{all_checked}
use Rattle.dude_core.proofs.pairs.Pairs.all_checked.Given as goal

abbrev pub invariant-loop-item : goal.invariant-loop-item
invariant-loop-item l = all_checked l.z l.locks l.item-items ≡ all_checked l.z l.locks (drop l.item-index l.item-items)
