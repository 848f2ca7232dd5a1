use Rattle.std.proofs.Common.{◌≡◌, ◌≤◌, ◌-◌, ◌*◌, length}
use Rattle.std.specs.List.{flat_map, range_with_len}
use Rattle.tatp_model.specs.Population.{calls_of}
use Rattle.tatp_rows.proofs.calls.call_rows.Given as goal

abbrev pub invariant-loop-s : goal.invariant-loop-s
invariant-loop-s l = record {
  few : l.rows ≤ 12 * (l.s - 1);
  count : l.rows ≡ length (flat_map calls_of (range_with_len 1 (l.s - 1)));
}
