use Rattle.std.proofs.Common.{◌≡◌, take}
use Rattle.std.specs.Vec.{vec_capacity}
use Rattle.dude_core.proofs.replay_room.copy_writes.Given as goal

abbrev pub invariant-loop-k : goal.invariant-loop-k
invariant-loop-k l = record {
  items : l.list.items ≡ take l.k l.group.writes;
  capacity : vec_capacity l.list ≡ vec_capacity l.fn.list;
}
