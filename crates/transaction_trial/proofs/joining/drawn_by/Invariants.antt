use Rattle.std.specs.List.{All}
use Rattle.stm_transactions.specs.Passes.{IsResting}
use Rattle.transaction_trial.specs.Fit.{IsFit}
use Rattle.transaction_trial.proofs.joining.drawn_by.Given as goal

abbrev pub invariant-loop : goal.invariant-loop
invariant-loop l = IsResting l.place.stm.events l.pass × All (IsFit l.place.stm.events) l.jobs.items
