use Rattle.std.proofs.Common.{ℕ, ◌+◌, ◌<◌, ◌≤◌, length}
use Rattle.stm_transactions.specs.Looks.{RepeatsLock}
use Rattle.stm_transactions.proofs.looking.up_to_last_lock.Given as goal

abbrev pub invariant-loop-behind : goal.invariant-loop-behind
invariant-loop-behind l = (k : ℕ) → length l.reads ≤ k + l.behind → k < length l.reads → RepeatsLock l.locks l.reads k
