use Rattle.std.proofs.Common.{◌≢◌, ℕ, ◌%◌, ◌<◌, get_or}
use Rattle.stm_transactions.proofs.looking.repeats_lock.Given as goal

abbrev pub invariant-loop-j : goal.invariant-loop-j
invariant-loop-j l = (j : ℕ) → j < l.j → (get_or l.reads j (0, 0)).0 % l.locks ≢ l.lock
