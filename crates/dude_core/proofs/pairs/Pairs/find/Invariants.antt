use Rattle.std.proofs.Common.{◌≡◌, drop}
use Rattle.core_events.specs.Keyed.{find}
use Rattle.dude_core.proofs.pairs.Pairs.find.Given as goal

abbrev pub invariant-loop-item : goal.invariant-loop-item
invariant-loop-item l = find l.item-items l.key ≡ find (drop l.item-index l.item-items) l.key
