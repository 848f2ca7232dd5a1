use Rattle.std.proofs.Common.{arith}
use Rattle.thread_runs.proofs.Runs.{may_run}
use Rattle.thread_runs.proofs.held.run_held.Goals as goal

pub threaded-ran-requires-clause-may : goal.threaded-ran-requires-clause-may
threaded-ran-requires-clause-may g c κs within =
    may_run c.in_ok-opened.opened c.run_over-run.result 7 8 _ _ c.in_ok-first.ensures c.in_ok-second.ensures (omega arith) (omega arith)
    c.in_ok-opened.ensures.held c.in_ok-opened.ensures.number c.run_over-run.ensures (omega (arith, c.if-opened-lt2.false))
