use Rattle.dude_stream.proofs.Giving.{at_any, lines_stop}
use Rattle.dude_stream.proofs.outlet.Outlet.take_some.Goals as goal

pub returns-in_err-take_next-clause-err : goal.returns-in_err-take_next-clause-err
returns-in_err-take_next-clause-err c =
    let stopped = c.in_err-take_next.ensures.err in
    at_any c.from_residual.result
    (lines_stop c.args.self.now c.loop-reply.self c.take_next.new.self c.args.text.now.items c.loop-reply.text.items c.take_next.new.text.items c.loop-reply.invariant.gave stopped.0 stopped.1)
