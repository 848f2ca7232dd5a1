use Rattle.std.proofs.Common.{◌≡◌, drop}
use Rattle.core_events.specs.Keyed.{has}
use Rattle.dude_core.proofs.numbers.Numbers.has.Given as goal

abbrev pub invariant-loop-item : goal.invariant-loop-item
invariant-loop-item l = has l.item-items l.number ≡ has (drop l.item-index l.item-items) l.number
