use Rattle.std.proofs.Common.{ℕ, subst}
use Rattle.run_threads.specs.Bundled.{IsBundled}
use Rattle.run_threads.proofs.ResultLaws.{on_err}
use Rattle.run_threads.proofs.persisting.persist_from.Goals as goal

pub returns-in_err-persist_bundle-clause-err : goal.returns-in_err-persist_bundle-clause-err
returns-in_err-persist_bundle-clause-err g c =
    let rest = c.args.rest.now in let from = c.args.from in let taken = c.from-taken.result in
    on_err c.from_residual.result (λ e u. c.in_err-persist_bundle.ensures.err rest from (subst (λ (n : ℕ). IsBundled n rest from taken) c.cells.ensures c.from-taken.ensures) e u)
