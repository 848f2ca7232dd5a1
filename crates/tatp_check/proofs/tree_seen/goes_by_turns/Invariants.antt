use Rattle.std.proofs.Common.{◌≡◌, ◌≤◌, List, length}
use Rattle.tatp_check.specs.TreeSeen.{kept_forks}
use Rattle.tatp_check.specs.TreeWalk.{Turn}
use Rattle.tatp_check.proofs.KeptTurns.{LeavesTurns}
use Rattle.tatp_check.proofs.tree_seen.goes_by_turns.Given as goal

abbrev pub invariant-loop-left : goal.invariant-loop-left
invariant-loop-left l = record {
  inside : l.left ≤ length l.above;
  leaves : (turns : List Turn) → l.above ≡ kept_forks turns → LeavesTurns l.key l.above turns l.left l.first;
}

abbrev pub decreases-loop-left : goal.decreases-loop-left
decreases-loop-left l = l.left
