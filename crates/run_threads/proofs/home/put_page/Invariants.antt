use Rattle.std.proofs.Common.{◌≡◌, ℕ, ◌+◌, ◌<◌, get_or}
use Rattle.run_threads.proofs.home.put_page.Given as goal

abbrev pub invariant-loop-i : goal.invariant-loop-i
invariant-loop-i l = record {
  page : (k : ℕ) → k < l.i → get_or l.words (l.at + k) 0 ≡ get_or l.page k 0;
  before : (k : ℕ) → k < l.at → get_or l.words k 0 ≡ get_or l.fn.words k 0;
}
