use Rattle.std.specs.List.{All}
use Rattle.tatp_model.specs.Request.{IsInRange}
use Rattle.transaction_trial.proofs.checking.printed_order.Given as goal

abbrev pub invariant-loop-job : goal.invariant-loop-job
invariant-loop-job l = All (λ d. IsInRange d.request) l.order.items
