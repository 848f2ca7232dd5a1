use Rattle.dude_core.proofs.Walks.{AllBelow}
use Rattle.dude_core.specs.Held.{Holds}
use Rattle.dude_core.proofs.writes.holds_all.Given as goal

abbrev pub invariant-loop-k : goal.invariant-loop-k
invariant-loop-k l = AllBelow (Holds l.z l.view) l.writes l.k
