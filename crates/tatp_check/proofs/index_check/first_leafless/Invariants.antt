use Rattle.std.proofs.Common.{ℕ, List, All, take}
use Rattle.tatp_check.specs.IndexFaults.{HasLeaf}
use Rattle.tatp_check.specs.Taken.{AreTaken}
use Rattle.tatp_check.proofs.index_check.first_leafless.Given as goal

-- a leaf has the key of each of the subscribers so far
abbrev pub invariant-loop-at : goal.invariant-loop-at
invariant-loop-at l = (leaves : List ℕ) → AreTaken l.a leaves l.leaves → All (HasLeaf l.a leaves) (take l.at-index l.subscribers)
