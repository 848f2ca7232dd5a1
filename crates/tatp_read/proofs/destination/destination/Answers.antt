use Rattle.std.proofs.Common.{true, false, refl, arith, lit≤}
use Rattle.std.proofs.lemmas.Bool.{lt-ltb, le-ltb}
use Rattle.std.proofs.lemmas.Result.{IfOk-from_err}
use Rattle.word_space.proofs.Runs.{used_handed, used_more}
use Rattle.tatp_layout.proofs.Found.{finds_as}
use Rattle.tatp_read.proofs.Lookups.{call_found, no_call_found}
use Rattle.tatp_read.proofs.destination.destination.Goals as goal

pub returns-in_err-row : goal.returns-in_err-row
returns-in_err-row g c = let r = c.from_residual in record { uses = used_handed r.result r.ensures.1 c.in_err-row.ensures.uses (omega arith) (lit≤ tt); numbers = IfOk-from_err _ _ r.ensures.0 }

pub returns-in_default-clause-uses : goal.returns-in_default-clause-uses
returns-in_default-clause-uses g c = used_more c.in_ok-row.ensures.uses (omega arith) (lit≤ tt)

pub returns-in_default-clause-numbers : goal.returns-in_default-clause-numbers
returns-in_default-clause-numbers g c = λ array below db stands. no_call_found stands c.args.end_time (finds_as refl c.in_default.is (c.in_ok-row.ensures.row array below))

pub returns-then-end_time-row-clause-uses : goal.returns-then-end_time-row-clause-uses
returns-then-end_time-row-clause-uses g c = used_more c.in_ok-row.ensures.uses (omega arith) (lit≤ tt)

pub returns-then-end_time-row-clause-numbers : goal.returns-then-end_time-row-clause-numbers
returns-then-end_time-row-clause-numbers g c = λ array below db stands. call_found stands c.args.end_time true (lt-ltb _ _ c.if-end_time-row.true) (finds_as refl c.in-Some.is (c.in_ok-row.ensures.row array below))

pub returns-else-end_time-row-clause-uses : goal.returns-else-end_time-row-clause-uses
returns-else-end_time-row-clause-uses g c = used_more c.in_ok-row.ensures.uses (omega arith) (lit≤ tt)

pub returns-else-end_time-row-clause-numbers : goal.returns-else-end_time-row-clause-numbers
returns-else-end_time-row-clause-numbers g c = λ array below db stands. call_found stands c.args.end_time false (le-ltb _ _ c.if-end_time-row.false) (finds_as refl c.in-Some.is (c.in_ok-row.ensures.row array below))
