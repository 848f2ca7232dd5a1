use Rattle.tatp_check.specs.TreeSeen.{KnowsNext, records_left}
use Rattle.tatp_check.proofs.tree_walk.walk_tree.Given as goal

abbrev pub invariant-loop-next : goal.invariant-loop-next
invariant-loop-next l = KnowsNext l.tree l.a l.keys l.seen l.next

abbrev pub decreases-loop-next : goal.decreases-loop-next
decreases-loop-next l = records_left l.seen
