use Rattle.std.proofs.Common.{◌≡◌, ◌+◌, false}
use Rattle.std.specs.Prelude.{All, if◌then◌else◌}
use Rattle.dude_stream.specs.Printing.{HasPrinted, IsDrained, left_in}
use Rattle.dude_stream.proofs.printer.print_lanes.Given as goal

abbrev pub invariant-lines : goal.invariant-lines
invariant-lines g l = record {
  printed : HasPrinted l.fn.outlets l.outlets (g.K.Sink.sight l.fn.out) (g.K.Sink.sight l.out);
  drained : l.more ≡ false → All IsDrained l.outlets;
}

abbrev pub decreases-lines : goal.decreases-lines
decreases-lines g l = (if l.more then 1 else 0) + left_in l.outlets
