use Rattle.std.proofs.Common.{Some, None, arith, lit≤}
use Rattle.std.proofs.lemmas.Result.{IfOk-from_err}
use Rattle.word_space.proofs.Runs.{used_handed, used_more}
use Rattle.tatp_layout.proofs.Found.{finds_as}
use Rattle.tatp_read.proofs.Lookups.{facility_found}
use Rattle.tatp_read.proofs.destination.has_active_facility.Goals as goal

pub returns-in_err-row : goal.returns-in_err-row
returns-in_err-row g c = let r = c.from_residual in record { uses = used_handed r.result r.ensures.1 c.in_err-row.ensures.uses (omega arith) (lit≤ tt); active = IfOk-from_err _ _ r.ensures.0 }

pub returns-in-Some-clause-uses : goal.returns-in-Some-clause-uses
returns-in-Some-clause-uses g c = used_more c.in_ok-row.ensures.uses (omega arith) (lit≤ tt)

pub returns-in-Some-clause-active : goal.returns-in-Some-clause-active
returns-in-Some-clause-active g c = λ array below db stands. facility_found stands c.args.s_id c.args.sf_type c.requires.id c.requires.kind (Some c.in-Some.row) (finds_as c.kind_key.ensures c.in-Some.is (c.in_ok-row.ensures.row array below))

pub returns-in-None-clause-uses : goal.returns-in-None-clause-uses
returns-in-None-clause-uses g c = used_more c.in_ok-row.ensures.uses (omega arith) (lit≤ tt)

pub returns-in-None-clause-active : goal.returns-in-None-clause-active
returns-in-None-clause-active g c = λ array below db stands. facility_found stands c.args.s_id c.args.sf_type c.requires.id c.requires.kind None (finds_as c.kind_key.ensures c.in-None.is (c.in_ok-row.ensures.row array below))
