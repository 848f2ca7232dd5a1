use Rattle.std.proofs.Common.{◌≡◌, ℕ, ◌+◌, ◌<◌, ◌≤◌, length, slice_index}
use Rattle.record_heap.specs.Pool.{AreApart}
use Rattle.tatp_rows.proofs.fill.put_entry.Given as goal

-- the words up to this one are there
abbrev pub invariant-loop-j : goal.invariant-loop-j
invariant-loop-j l = record {
  size : length l.words ≡ length l.fn.words;
  key : slice_index l.words l.at ≡ slice_index l.entry 0;
  fields : (k : ℕ) → 1 ≤ k → k < l.j → slice_index l.words (l.at + 1 + k) ≡ slice_index l.entry k;
  link : slice_index l.words (l.at + 1) ≡ slice_index l.fn.words (l.at + 1);
  others : (i : ℕ) → AreApart l.at (1 + length l.entry) i 1 → slice_index l.words i ≡ slice_index l.fn.words i;
}
