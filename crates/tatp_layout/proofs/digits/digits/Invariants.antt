use Rattle.std.proofs.Common.{◌≡◌, ℕ, ◌/◌, ◌%◌, ◌^◌, ◌<◌, length, get_or}
use Rattle.tatp_layout.proofs.digits.digits.Given as goal

-- the digits up to this one are there, and the rest of the word is left
abbrev pub invariant-loop-i : goal.invariant-loop-i
invariant-loop-i g l = record {
  count : length l.digits ≡ g.row.N;
  rest : l.rest ≡ l.word / l.base ^ l.i;
  filled : (k : ℕ) → k < l.i → get_or l.digits k 0 ≡ l.word / l.base ^ k % l.base;
}
