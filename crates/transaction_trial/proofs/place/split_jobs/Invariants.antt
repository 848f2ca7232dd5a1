use Rattle.std.specs.List.{All}
use Rattle.stm_transactions.specs.Passes.{IsResting}
use Rattle.transaction_trial.specs.Fit.{IsFit}
use Rattle.transaction_trial.proofs.place.split_jobs.Given as goal

abbrev pub invariant-loop-file : goal.invariant-loop-file
invariant-loop-file l = IsResting l.place.stm.events l.first × All (IsFit l.place.stm.events) l.jobs.items
