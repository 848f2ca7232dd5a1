use Rattle.std.proofs.Common.{◌≡◌, ◌+◌, ◌-◌, arith}
use Rattle.tatp_model.specs.Population.{calls_of}
use Rattle.tatp_rows.proofs.Populations.{flat_count}
use Rattle.tatp_rows.proofs.calls.call_rows.Goals as goal

pub loop-s-preserved : goal.loop-s-preserved
loop-s-preserved c =
    let s = c.loop-s.s in
    let same : s ≡ s + 1 - 1 = omega arith in
    record {
      few = omega (arith, c.loop-s.invariant.few, c.call_rows_of-rows.ensures.few);
      count = omega (arith, c.loop-s.invariant.count, c.call_rows_of-rows.ensures.rows, flat_count calls_of (s - 1) s (s + 1 - 1) (omega arith) same);
    }
