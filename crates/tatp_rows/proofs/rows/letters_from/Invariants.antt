use Rattle.std.proofs.Common.{◌≡◌, ℕ, ◌+◌, ◌%◌, ◌<◌, length, get_or}
use Rattle.tatp_rows.proofs.rows.letters_from.Given as goal

-- the letters up to this one are there
abbrev pub invariant-loop-j : goal.invariant-loop-j
invariant-loop-j g l = record {
  count : length l.letters ≡ g.row.N;
  filled : (k : ℕ) → k < l.j → get_or l.letters k 0 ≡ 65 + (l.start + k) % 26;
}
