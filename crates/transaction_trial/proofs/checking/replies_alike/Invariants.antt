use Rattle.std.proofs.Common.{◌≤◌, length}
use Rattle.tatp_model.specs.Database.{database_of, IsInOrder}
use Rattle.transaction_trial.proofs.checking.replies_alike.Given as goal

abbrev pub invariant-loop-done : goal.invariant-loop-done
invariant-loop-done l = IsInOrder (database_of l.tables) × (length (database_of l.tables).calls ≤ l.limit)
