use Rattle.std.proofs.Common.{List, ℕ, subst}
use Rattle.dude_recover.specs.Opened.{HoldsWhereIdle}
use Rattle.run_threads.proofs.IdleMedia.{holds_reopened, only_memory}
use Rattle.run_threads.proofs.reopening.reopen.Goals as goal
use Rattle.tatp_check.specs.Faults.{IsCause}
use Rattle.tatp_check.specs.Order.{IsNotDb}

pub returns-in-Ok-new-clause-holds : goal.returns-in-Ok-new-clause-holds
returns-in-Ok-new-clause-holds g c =
    let sight = g.M.Medium.sight in let closed = c.args.closed in let lay = c.args.lay in
    holds_reopened sight lay closed c.requires.room (subst (λ (m : g.row.M.Denot). HoldsWhereIdle lay closed.number closed.words.items (sight m)) c.into_medium-medium.ensures c.in-Ok-new.ensures.holds)

pub returns-clause-accepts : goal.returns-clause-accepts
returns-clause-accepts g c =
    let words = c.args.closed.words.items in let lay = c.args.lay in
    only_memory lay words c.in-Err.fault (subst (λ (ws : List ℕ). IsCause (IsNotDb lay ws) c.in-Err.fault) c.as_slice.ensures.value c.in-Err.ensures.fault)
