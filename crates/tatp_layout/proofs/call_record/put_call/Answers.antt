use Rattle.std.proofs.Common.{◌∙◌, ◌+◌, slice_set, sym, ap, subst, lit≤, lit<}
use Rattle.word_space.specs.Sights.{shown}
use Rattle.tatp_layout.specs.Records.{HoldsRow, call_form}
use Rattle.tatp_layout.proofs.Stored.{word_fits, call_set}
use Rattle.word_space.proofs.Runs.{below_before, length_shown, used_until, used_handed, used_then, wrote_one, wrote_then}
use Rattle.std.proofs.lemmas.Result.{IfOk-from_err}
use Rattle.tatp_layout.proofs.call_record.put_call.Goals as goal

pub returns-in_err-write : goal.returns-in_err-write
returns-in_err-write g c = let r = c.from_residual in record { uses = used_handed r.result r.ensures.1 c.in_err-write.ensures.uses (lit≤ tt) (lit≤ tt); wrote = IfOk-from_err _ _ r.ensures.0; shown = IfOk-from_err _ _ r.ensures.0; holds = IfOk-from_err _ _ r.ensures.0 }

pub returns-in_err-write-2 : goal.returns-in_err-write-2
returns-in_err-write-2 g c = let r = c.from_residual-in_err-write-2 in record { uses = used_handed r.result r.ensures.1 (used_until c.in_ok-write.ensures.uses c.in_err-write-2.ensures.uses) (lit≤ tt) (lit≤ tt); wrote = IfOk-from_err _ _ r.ensures.0; shown = IfOk-from_err _ _ r.ensures.0; holds = IfOk-from_err _ _ r.ensures.0 }

pub returns-clause-uses : goal.returns-clause-uses
returns-clause-uses g c = used_then c.in_ok-write.ensures.uses c.in_ok-write-2.ensures.uses

pub returns-clause-wrote : goal.returns-clause-wrote
returns-clause-wrote g c = wrote_then (wrote_one c.in_ok-write.ensures.writes) (wrote_one c.in_ok-write-2.ensures.writes)

pub returns-clause-shown : goal.returns-clause-shown
returns-clause-shown g c = λ array. c.in_ok-write-2.ensures.shown array ∙ ap (λ seen. slice_set seen (c.args.at + 3) c.args.row.now.numberx) (c.in_ok-write.ensures.shown array)

pub returns-clause-holds : goal.returns-clause-holds
returns-clause-holds g c = λ array below key.
    let row = c.args.row.now in
    let wrote = c.in_ok-write-2.ensures.shown array ∙ ap (λ seen. slice_set seen (c.args.at + 3) row.numberx) (c.in_ok-write.ensures.shown array) in
    subst (λ seen. HoldsRow call_form seen c.args.at row) (sym wrote)
    (call_set (shown (g.W.Words.sight c.args.w.now) array) c.args.at (word_fits _ 3 (lit< tt) c.calls.ensures.table c.calls.ensures.fits c.requires.record (length_shown (below_before (used_then c.in_ok-write.ensures.uses c.in_ok-write-2.ensures.uses) below) ∙ c.requires.size)) key)
