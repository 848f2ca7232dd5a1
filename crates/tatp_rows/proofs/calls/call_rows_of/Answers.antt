use Rattle.std.proofs.Common.{◌≡◌, ◌+◌, ◌-◌, arith}
use Rattle.tatp_rows.proofs.Populations.{calls_of_facility, length-calls_of_facility, flat_count}
use Rattle.tatp_rows.proofs.calls.call_rows_of.Goals as goal

pub loop-f-preserved : goal.loop-f-preserved
loop-f-preserved c =
    let s = c.args.s in
    let f = c.loop-f.f in
    let same : f ≡ f + 1 - 1 = omega arith in
    record {
      few = omega (arith, c.loop-f.invariant.few);
      count = omega (arith, c.loop-f.invariant.count, length-calls_of_facility s f, flat_count (calls_of_facility s) (f - 1) f (f + 1 - 1) (omega arith) same);
    }
