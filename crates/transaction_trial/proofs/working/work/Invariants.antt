use Rattle.transaction_trial.specs.Fit.{IsFit}
use Rattle.transaction_trial.proofs.working.work.Given as goal

abbrev pub invariant-loop-index : goal.invariant-loop-index
invariant-loop-index l = IsFit l.place.stm.events l.job
