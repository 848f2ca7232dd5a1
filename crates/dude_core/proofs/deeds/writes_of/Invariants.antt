use Rattle.std.proofs.Common.{◌≡◌, take}
use Rattle.dude_core.proofs.deeds.writes_of.Given as goal

abbrev pub invariant-loop-k : goal.invariant-loop-k
invariant-loop-k l = l.writes ≡ take l.k l.record.writes
