use Rattle.std.proofs.Common.{◌≡◌, false}
use Rattle.dude_stream.specs.Printing.{HasGathered, Lessens}
use Rattle.dude_stream.proofs.Receiving.{AreDrainedTo}
use Rattle.dude_stream.proofs.gathering.gather_round.Given as goal

abbrev pub invariant-loop-lane : goal.invariant-loop-lane
invariant-loop-lane l = record {
  gathered : HasGathered l.fn.outlets l.outlets l.fn.text.items l.text.items;
  end : l.lane-end ≡ l.initial.lane-end;
  drained : l.some ≡ false → AreDrainedTo l.lane l.outlets;
  lessens : Lessens l.some l.fn.outlets l.outlets;
}
