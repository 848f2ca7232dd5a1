use Rattle.std.proofs.Common.{◌≤◌, ◌*◌, ◌^◌, List, take}
use Rattle.std.specs.List.{AllZip}
use Rattle.dude_base.specs.Records.{RedoBundle}
use Rattle.dude_program.specs.Delivery.{packets_in}
use Rattle.dude_program.specs.Taking.{MeansPackets, TakesAll}
use Rattle.dude_program.proofs.follow.take_texts.Given as goal

-- the packets of the first texts were taken, and so many dropped
abbrev pub invariant-loop-index : goal.invariant-loop-index
invariant-loop-index g l = record {
  each : List (List RedoBundle);
  read : AllZip (MeansPackets l.sizes) (take l.index l.texts) each;
  taken : TakesAll (packets_in each) l.dropped l.initial.follower l.follower;
  few : l.dropped ≤ l.index * 2 ^ 64;
}
