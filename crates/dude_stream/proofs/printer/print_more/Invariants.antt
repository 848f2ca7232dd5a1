use Rattle.std.proofs.Common.{◌<◌, ◌≤◌}
use Rattle.std.specs.Prelude.{All}
use Rattle.dude_stream.specs.Printing.{HasPrinted, IsDrained, left_in}
use Rattle.dude_stream.proofs.printer.print_more.Given as goal

abbrev pub invariant-loop-round : goal.invariant-loop-round
invariant-loop-round g l = record {
  printed : HasPrinted l.fn.outlets l.outlets (g.K.Sink.sight l.fn.out) (g.K.Sink.sight l.out);
  drained : 0 < l.round → All IsDrained l.outlets;
  less : left_in l.outlets ≤ left_in l.fn.outlets;
}
