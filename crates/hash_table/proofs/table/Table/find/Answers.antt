use Rattle.std.proofs.lemmas.Result.{IfOk-from_err}
use Rattle.hash_table.proofs.Insertions.{found_first}
use Rattle.hash_table.proofs.Walks.{finds_none, finds_some}
use Rattle.std.proofs.Common.{arith, lit≤}
use Rattle.word_space.proofs.Runs.{used_handed}
use Rattle.hash_table.proofs.table.Table.find.Goals as goal

pub returns-in_err-position : goal.returns-in_err-position
returns-in_err-position g c = let r = c.from_residual in record { uses = used_handed r.result r.ensures.1 c.in_err-position.ensures.uses (omega arith) (lit≤ tt); finds = IfOk-from_err _ _ r.ensures.0; «record» = IfOk-from_err _ _ r.ensures.0; found = IfOk-from_err _ _ r.ensures.0 }

pub returns-in-Some-clause-uses : goal.returns-in-Some-clause-uses
returns-in-Some-clause-uses g c = c.in_ok-position.ensures.uses

pub returns-in-None-clause-uses : goal.returns-in-None-clause-uses
returns-in-None-clause-uses g c = c.in_ok-position.ensures.uses

pub returns-in-Some-clause-finds : goal.returns-in-Some-clause-finds
returns-in-Some-clause-finds g c = λ array below. finds_some c.in_ok-position.field-0 c.in-Some.position c.in-Some.is (c.in_ok-position.ensures.seeks array below)

pub returns-in-Some-clause-found : goal.returns-in-Some-clause-found
returns-in-Some-clause-found g c = λ array below chains free lawful. found_first chains free c.requires.fits lawful (finds_some c.in_ok-position.field-0 c.in-Some.position c.in-Some.is (c.in_ok-position.ensures.seeks array below))

pub returns-in-None-clause-finds : goal.returns-in-None-clause-finds
returns-in-None-clause-finds g c = λ array below. finds_none c.in_ok-position.field-0 c.in-None.is (c.in_ok-position.ensures.seeks array below)

pub returns-in-None-clause-found : goal.returns-in-None-clause-found
returns-in-None-clause-found g c = λ array below chains free lawful. found_first chains free c.requires.fits lawful (finds_none c.in_ok-position.field-0 c.in-None.is (c.in_ok-position.ensures.seeks array below))
