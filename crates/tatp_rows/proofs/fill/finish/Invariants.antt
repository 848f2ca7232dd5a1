use Rattle.std.proofs.Common.{◌≡◌, ◌≢◌, ℕ, ◌+◌, ◌<◌, ◌≤◌, length, slice_index}
use Rattle.tatp_rows.specs.Filled.{record_at}
use Rattle.tatp_rows.specs.Filling.{free_link}
use Rattle.tatp_rows.proofs.fill.finish.Given as goal

-- the free records up to this one are linked
abbrev pub invariant-loop-k : goal.invariant-loop-k
invariant-loop-k l = record {
  size : length l.words ≡ length l.fn.words;
  first : slice_index l.words l.pool.base ≡ free_link l.pool l.rows;
  live : slice_index l.words (l.pool.base + 1) ≡ l.rows;
  links : (j : ℕ) → l.rows ≤ j → j < l.k → slice_index l.words (record_at l.pool j + 1) ≡ free_link l.pool (j + 1);
  others : (i : ℕ) → i ≢ l.pool.base → i ≢ l.pool.base + 1 → ((j : ℕ) → l.rows ≤ j → j < l.k → i ≢ record_at l.pool j + 1) → slice_index l.words i ≡ slice_index l.fn.words i;
}
