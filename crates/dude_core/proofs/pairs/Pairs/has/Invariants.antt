use Rattle.std.proofs.Common.{drop}
use Rattle.core_events.specs.Conditions.{IsFilled}
use Rattle.dude_core.proofs.pairs.Pairs.has.Given as goal

abbrev pub invariant-loop-item : goal.invariant-loop-item
invariant-loop-item l = IsFilled l.item-items l.key l.value → IsFilled (drop l.item-index l.item-items) l.key l.value
