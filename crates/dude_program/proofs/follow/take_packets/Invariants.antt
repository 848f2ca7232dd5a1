use Rattle.std.proofs.Common.{◌≤◌, take}
use Rattle.dude_program.specs.Taking.{TakesAll}
use Rattle.dude_program.proofs.follow.take_packets.Given as goal

-- the first packets were taken, and so many dropped
abbrev pub invariant-loop-index : goal.invariant-loop-index
invariant-loop-index g l = record {
  taken : TakesAll (take l.index l.packets) l.dropped l.initial.follower l.follower;
  few : l.dropped ≤ l.index;
}
