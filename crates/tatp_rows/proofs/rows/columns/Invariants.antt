use Rattle.std.proofs.Common.{◌≡◌, ℕ, ◌+◌, ◌%◌, ◌<◌, length, get_or}
use Rattle.tatp_rows.proofs.rows.columns.Given as goal

-- the columns up to this one are there
abbrev pub invariant-loop-i : goal.invariant-loop-i
invariant-loop-i l = record {
  count : length l.columns ≡ 10;
  filled : (k : ℕ) → k < l.i → get_or l.columns k 0 ≡ (l.start + (k + 1)) % l.base;
}
