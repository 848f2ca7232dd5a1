use Rattle.std.proofs.Common.{◌≡◌, take}
use Rattle.dude_base.specs.Writes.{put_all}
use Rattle.dude_base.proofs.bundle.Bundle.take.Given as goal

-- the first k writes were taken
abbrev pub invariant-loop-k : goal.invariant-loop-k
invariant-loop-k l = record {
  writes : l.self-inside.writes ≡ put_all l.initial.self-inside.writes (take l.k l.r.writes);
  span : l.self-inside.span ≡ l.initial.self-inside.span;
}
