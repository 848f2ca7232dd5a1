use Rattle.std.proofs.Common.{◌≡◌, ◌++◌, take}
use Rattle.group_combine.proofs.group.take_bundle.Given as goal

-- the writes gone over so far were taken
abbrev pub invariant-loop-k : goal.invariant-loop-k
invariant-loop-k l = record {
  taken : l.out.taken ≡ l.fn.out.taken ++ take l.k l.bundle.writes;
  room : l.out.room ≡ l.fn.out.room;
}
