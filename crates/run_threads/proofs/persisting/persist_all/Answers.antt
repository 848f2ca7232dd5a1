use Rattle.run_threads.proofs.ResultLaws.{on_err}
use Rattle.run_threads.proofs.persisting.persist_all.Goals as goal

pub returns-in_err-from-clause-err : goal.returns-in_err-from-clause-err
returns-in_err-from-clause-err g c = on_err c.from_residual.result (λ e u. c.in_err-from.ensures.err e (c.loop-from.invariant.hands e u))
