use Rattle.std.proofs.Common.{◌≡◌, take}
use Rattle.dude_base.proofs.bundle.Bundle.one.Given as goal

-- the first k writes were copied
abbrev pub invariant-loop-k : goal.invariant-loop-k
invariant-loop-k l = l.writes ≡ take l.k l.r.writes
