use Rattle.std.proofs.Common.{refl}
use Rattle.dude_stream.proofs.Giving.{at_any, gave_lost}
use Rattle.dude_stream.proofs.outlet.Outlet.take_next.Goals as goal

pub returns-in_err-write_lane-clause-err : goal.returns-in_err-write_lane-clause-err
returns-in_err-write_lane-clause-err c =
    at_any c.from_residual.result
    (gave_lost c.args.self.now (record c.args.self.now { drain = c.next.new.self }) c.in-Some.done c.in-Some.ensures.lane c.in-Some.ensures.some refl, c.in_err-write_lane.ensures.err)
