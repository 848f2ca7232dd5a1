use Rattle.std.proofs.Common.{◌≡◌, take}
use Rattle.dude_base.proofs.bundle.Bundle.is_same.Given as goal

-- the numbers, the counts, and the first k writes are the same
abbrev pub invariant-loop-k : goal.invariant-loop-k
invariant-loop-k l = (l.k-end ≡ l.initial.k-end) × (take l.k l.self.writes ≡ take l.k l.other.writes)
