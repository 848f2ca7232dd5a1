use Rattle.std.proofs.Common.{◌≢◌, ◌⊎◌, ℕ, ◌<◌, get_or}
use Rattle.log_runs.specs.declared.persisted.Persisted.{Persisted}
use Rattle.log_runs.proofs.trial.may_follow.Given as goal

-- those gone over end before these numbers, or are of another ring and begin behind them
abbrev pub invariant-loop-k : goal.invariant-loop-k
invariant-loop-k l = (j : ℕ) (d : Persisted) → j < l.k → ((get_or l.persisted j d).last < l.first) ⊎ ((l.last < (get_or l.persisted j d).first) × ((get_or l.persisted j d).ring ≢ l.ring))
