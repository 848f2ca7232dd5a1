use Rattle.std.proofs.Common.{◌≤◌, length}
use Rattle.tatp_model.specs.Database.{database_of, IsInOrder}
use Rattle.home_runs.proofs.checks.say_steps.Given as goal

-- the tables are in order, and no more call rows stand than may
abbrev pub invariant-loop-request : goal.invariant-loop-request
invariant-loop-request l = IsInOrder (database_of l.tables) × (length (database_of l.tables).calls ≤ l.limit)
