use Rattle.std.proofs.Common.{◌-◌, ◌≤◌, length, take}
use Rattle.std.specs.Prelude.{slice_index}
use Rattle.dude_io.specs.Sink.{Took}
use Rattle.dude_stream.specs.Streams.{rest_lines}
use Rattle.dude_stream.proofs.rest.print_rest.Given as goal

abbrev pub invariant-pieces : goal.invariant-pieces
invariant-pieces g l = record {
  within : l.at ≤ length l.done;
  took : Took (rest_lines (slice_index l.printed) (take l.at l.done)) (g.K.Sink.sight l.fn.out) (g.K.Sink.sight l.out);
}

abbrev pub decreases-pieces : goal.decreases-pieces
decreases-pieces g l = length l.done - l.at
