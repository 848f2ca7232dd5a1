use Rattle.std.proofs.Common.{◌≡◌, None, ◌+◌, ◌-◌, ◌≤◌, ◌<◌, ℕ, List, length, slice_index}
use Rattle.word_space.specs.Sights.{IsBelow, shown}
use Rattle.word_space.specs.Steps.{WordsUsed}
use Rattle.tatp_layout.proofs.record_words.read_record.Given as goal

abbrev pub invariant-loop-k : goal.invariant-loop-k
invariant-loop-k g l = record {
  uses : WordsUsed g.W.Words.sight g.W.Words.turns_into (l.k - 1) 0 None l.fn.w l.w;
  long : length l.words ≡ 8;
  key : (array : List ℕ) → IsBelow (g.W.Words.sight l.w) array → slice_index l.words 0 ≡ slice_index (shown (g.W.Words.sight l.fn.w) array) l.at;
  fields : (array : List ℕ) → IsBelow (g.W.Words.sight l.w) array → (j : ℕ) → 2 ≤ j → j < l.k →
      slice_index l.words j ≡ slice_index (shown (g.W.Words.sight l.fn.w) array) (l.at + j);
}
