use Rattle.std.proofs.Common.{◌∙◌, ap, arith, lit≤}
use Rattle.std.proofs.lemmas.Result.{IfOk-from_err}
use Rattle.word_space.proofs.Runs.{below_before, shown_same, used_until, used_handed, used_more, used_then}
use Rattle.hash_table.specs.Walk.{walk_reads}
use Rattle.tatp_layout.proofs.Found.{finds_no_row, finds_the_row}
use Rattle.tatp_layout.proofs.Seen.{fits_still, record_at}
use Rattle.tatp_layout.proofs.record_row.find_row.Goals as goal

pub find-requires : goal.find-requires
find-requires g c = record { fits = fits_still c.requires.size c.table.ensures.fits }

pub get_row-requires : goal.get_row-requires
get_row-requires g c = record { size = c.in_ok-at.ensures.uses.count ∙ c.requires.size; «record» = record_at c.table.ensures.table c.in-Some.is c.in_ok-at.ensures.«record» }

pub returns-in_err-at : goal.returns-in_err-at
returns-in_err-at g c = let r = c.from_residual in record { uses = used_handed r.result r.ensures.1 c.in_err-at.ensures.uses (omega (arith, ap walk_reads c.table.ensures.table)) (lit≤ tt); row = IfOk-from_err _ _ r.ensures.0 }

pub returns-in_default-clause-uses : goal.returns-in_default-clause-uses
returns-in_default-clause-uses g c = used_more c.in_ok-at.ensures.uses (omega (arith, ap walk_reads c.table.ensures.table)) (lit≤ tt)

pub returns-in_default-clause-row : goal.returns-in_default-clause-row
returns-in_default-clause-row g c = λ array below. finds_no_row c.table.ensures.table c.in_default.is (c.in_ok-at.ensures.found array below)

pub returns-in_err-get_row : goal.returns-in_err-get_row
returns-in_err-get_row g c = let r = c.from_residual-in_err-get_row in record { uses = used_handed r.result r.ensures.1 (used_until c.in_ok-at.ensures.uses c.in_err-get_row.ensures.uses) (omega (arith, ap walk_reads c.table.ensures.table)) (lit≤ tt); row = IfOk-from_err _ _ r.ensures.0 }

pub returns-clause-uses : goal.returns-clause-uses
returns-clause-uses g c = used_more (used_then c.in_ok-at.ensures.uses c.in_ok-get_row.ensures.uses) (omega (arith, ap walk_reads c.table.ensures.table)) (lit≤ tt)

pub returns-clause-row : goal.returns-clause-row
returns-clause-row g c = λ array below.
    finds_the_row c.table.ensures.table c.in-Some.is (shown_same c.in_ok-at.ensures.uses array) (c.in_ok-at.ensures.found array (below_before c.in_ok-get_row.ensures.uses below)) (c.in_ok-get_row.ensures.row array below)
