use Rattle.dude_stream.proofs.Receiving.{printed_then, stopped_then}
use Rattle.dude_stream.proofs.printer.print_lanes.Goals as goal

pub returns-in-Err-clause-err : goal.returns-in-Err-clause-err
returns-in-Err-clause-err g c =
    stopped_then c.args.outlets.now c.lines.outlets c.print_more.new.outlets (g.K.Sink.sight c.args.out.now) (g.K.Sink.sight c.lines.out) (g.K.Sink.sight c.print_more.new.out)
    c.in-Err.fault c.lines.invariant.printed c.in-Err.ensures.err

pub lines-preserved : goal.lines-preserved
lines-preserved g c = record {
  printed = printed_then c.args.outlets.now c.lines.outlets c.print_more.new.outlets (g.K.Sink.sight c.args.out.now) (g.K.Sink.sight c.lines.out) (g.K.Sink.sight c.print_more.new.out)
      c.lines.invariant.printed c.in-Ok.ensures.ok;
  drained = c.in-Ok.ensures.drained;
}
