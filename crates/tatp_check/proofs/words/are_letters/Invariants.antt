use Rattle.std.proofs.Common.{◌≡◌, ℕ, ◌/◌, ◌%◌, ◌^◌, ◌<◌, true}
use Rattle.tatp_check.specs.Tests.{is_letter}
use Rattle.tatp_check.proofs.words.are_letters.Given as goal

-- the bytes so far are letters, and the rest of the word is left
abbrev pub invariant-loop-i : goal.invariant-loop-i
invariant-loop-i l = record {
  rest : l.rest ≡ l.word / 256 ^ l._i;
  letters : (k : ℕ) → k < l._i → is_letter (l.word / 256 ^ k % 256) ≡ true;
}
