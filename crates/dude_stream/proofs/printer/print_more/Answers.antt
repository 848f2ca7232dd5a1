use Rattle.std.proofs.Common.{arith}
use Rattle.dude_stream.proofs.Receiving.{printed_then, stopped_then}
use Rattle.dude_stream.proofs.printer.print_more.Goals as goal

pub returns-in-Err : goal.returns-in-Err
returns-in-Err g c = record {
  ok = tt;
  drained = tt;
  lessens = tt;
  err = stopped_then c.args.outlets.now c.loop-round.outlets c.print_round.new.outlets (g.K.Sink.sight c.args.out.now) (g.K.Sink.sight c.loop-round.out) (g.K.Sink.sight c.print_round.new.out)
      c.in-Err.fault c.loop-round.invariant.printed c.in-Err.ensures.err;
}

pub returns-then-found : goal.returns-then-found
returns-then-found g c = record {
  ok = printed_then c.args.outlets.now c.loop-round.outlets c.print_round.new.outlets (g.K.Sink.sight c.args.out.now) (g.K.Sink.sight c.loop-round.out) (g.K.Sink.sight c.print_round.new.out)
      c.loop-round.invariant.printed c.in-Ok.ensures.ok;
  drained = c.in-Ok.ensures.drained;
  lessens = omega (arith, c.loop-round.invariant.less, c.in-Ok.ensures.lessens);
  err = tt;
}

pub loop-round-preserved : goal.loop-round-preserved
loop-round-preserved g c = record {
  printed = printed_then c.args.outlets.now c.loop-round.outlets c.print_round.new.outlets (g.K.Sink.sight c.args.out.now) (g.K.Sink.sight c.loop-round.out) (g.K.Sink.sight c.print_round.new.out)
      c.loop-round.invariant.printed c.in-Ok.ensures.ok;
  drained = λ _. c.in-Ok.ensures.drained c.if-found.false;
  less = omega (arith, c.loop-round.invariant.less, c.in-Ok.ensures.lessens);
}
