use Rattle.std.proofs.Common.{◌≡◌, ◌+◌, ◌<◌, ◌^◌, List, All, length}
use Rattle.tree_index.specs.Shape.{Shape, least_of}
use Rattle.tatp_check.specs.declared.tree_seen.OpenFork.{OpenFork}
use Rattle.tatp_check.specs.TreeSeen.{kept_forks, turned}
use Rattle.tatp_check.specs.TreeWalk.{Turn}
use Rattle.tatp_check.proofs.KeptTurns.{StandsBack}
use Rattle.tatp_check.proofs.tree_seen.turn_back.Given as goal

abbrev pub invariant-loop-fork : goal.invariant-loop-fork
invariant-loop-fork l = record {
  small : All (λ (fork : OpenFork). fork.at + 3 < 2 ^ 64) l.above.items;
  stands : (turns : List Turn) (shape : Shape) → l.initial.above.items ≡ kept_forks turns → l.key ≡ least_of shape → StandsBack (turned shape turns) l.first l.above.items;
}

abbrev pub decreases-loop-fork : goal.decreases-loop-fork
decreases-loop-fork l = length l.above.items
