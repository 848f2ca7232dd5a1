use Rattle.std.proofs.Common.{◌≡◌}
use Rattle.std.specs.Vec.{vec_capacity}
use Rattle.group_combine.specs.Numbered.{IsKept}
use Rattle.group_combine.proofs.numbered.keep_last.Given as goal

abbrev pub invariant-loop-k : goal.invariant-loop-k
invariant-loop-k l = record {
  kept : IsKept l.row l.writes.items l.k;
  capacity : vec_capacity l.writes ≡ vec_capacity l.initial.writes;
}
