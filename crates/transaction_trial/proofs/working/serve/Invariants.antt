use Rattle.stm_transactions.specs.Passes.{IsResting}
use Rattle.transaction_trial.proofs.working.serve.Given as goal

abbrev pub invariant-loop : goal.invariant-loop
invariant-loop l = IsResting l.place.stm.events l.p
