use Rattle.std.proofs.Common.{◌≡◌, ◌≤◌, ◌-◌, ◌*◌, length}
use Rattle.std.specs.List.{flat_map, range_with_len}
use Rattle.tatp_rows.proofs.Populations.{calls_of_facility}
use Rattle.tatp_rows.proofs.calls.call_rows_of.Given as goal

abbrev pub invariant-loop-f : goal.invariant-loop-f
invariant-loop-f l = record {
  few : l.rows ≤ 3 * (l.f - 1);
  count : l.rows ≡ length (flat_map (calls_of_facility l.s) (range_with_len 1 (l.f - 1)));
}
