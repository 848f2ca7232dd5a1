use Rattle.std.proofs.Common.{ap, arith, cond, subst, ◌+◌, ◌/◌, ◌∙◌, IfSome, ◌<◌, lit≤, lit<}
use Rattle.hash_table.specs.Walk.{walk_reads}
use Rattle.word_space.specs.Sights.{shown}
use Rattle.word_space.specs.Steps.{Wrote}
use Rattle.word_space.proofs.Runs.{below_before, shown_same, used_then, used_until, wrote_none, wrote_then}
use Rattle.tatp_model.proofs.Calls.{eighth}
use Rattle.tatp_model.specs.Ranges.{IsId}
use Rattle.tatp_model.specs.declared.reply.Reply.TheVariants.{Missing}
use Rattle.tatp_model.specs.Request.{IsInRange}
use Rattle.tatp_layout.proofs.Seen.{fits_still}
use Rattle.tatp_core.proofs.Answered.{fits_at, removes_at}
use Rattle.tatp_core.proofs.Deleting.{serves_deleted, serves_for_none, serves_none}
use Rattle.tatp_core.proofs.Phones.{known, unknown}
use Rattle.tatp_core.proofs.Serving.{serves_changed, serves_stopped, serves_unchanged, wrote_more}
use Rattle.tatp_core.proofs.delete.write_delete.Goals as goal

pub first_call_key-requires-clause-id : goal.first_call_key-requires-clause-id
first_call_key-requires-clause-id g c = subst (λ o. IfSome o IsId) c.in-Some.is c.in_ok-s_id.ensures.range

pub first_call_key-requires-clause-kind : goal.first_call_key-requires-clause-kind
first_call_key-requires-clause-kind g c = (subst IsInRange c.in-DeleteCall.is c.requires.can.in_range).1

pub overflow_add-key : goal.overflow_add-key
overflow_add-key g c =
    let range = subst IsInRange c.in-DeleteCall.is c.requires.can.in_range in
    let id : IsId c.in-Some.s_id = subst (λ o. IfSome o IsId) c.in-Some.is c.in_ok-s_id.ensures.range in
    let small : c.in-DeleteCall.start_time / 8 < 3 = eighth c.in-DeleteCall.start_time range.2 in
    omega (arith, c.first_call_key.ensures, id, range.1, small)

pub remove-requires : goal.remove-requires
remove-requires g c = record { fits = fits_still (c.in_ok-s_id.ensures.uses.count ∙ c.requires.can.size) c.calls.ensures.fits }

pub returns-in_err-s_id : goal.returns-in_err-s_id
returns-in_err-s_id g c = serves_stopped c.args.lay.now c.in-DeleteCall.is c.from_residual.result c.from_residual.ensures.1 c.requires.can c.in_err-s_id.ensures.uses (omega arith) (lit≤ tt)

pub returns-in_default-2 : goal.returns-in_default-2
returns-in_default-2 g c = serves_unchanged c.args.lay.now c.in-DeleteCall.is g.met.W.Words.well_formed Missing c.requires.can c.in_ok-s_id.ensures.uses (omega arith) (lit≤ tt) (wrote_none c.in_ok-s_id.ensures.uses) (λ same. cc)
    (λ range array below db stands. serves_for_none c.in-DeleteCall.sub_nbr c.in-DeleteCall.sf_type c.in-DeleteCall.start_time range stands (unknown c.in-DeleteCall.sub_nbr stands c.in_default-2.is (c.in_ok-s_id.ensures.id array below)) (shown_same c.in_ok-s_id.ensures.uses array))

pub returns-in_err-remove : goal.returns-in_err-remove
returns-in_err-remove g c = serves_stopped c.args.lay.now c.in-DeleteCall.is c.from_residual-in_err-remove.result c.from_residual-in_err-remove.ensures.1 c.requires.can (used_until c.in_ok-s_id.ensures.uses c.in_err-remove.ensures.uses) (omega (arith, ap walk_reads c.calls.ensures.table)) (lit≤ tt)

pub returns-then-branch : goal.returns-then-branch
returns-then-branch g c = serves_changed c.args.lay.now c.in-DeleteCall.is g.met.W.Words.well_formed c.requires.can (used_then c.in_ok-s_id.ensures.uses c.in_ok-remove.ensures.uses) (omega (arith, ap walk_reads c.calls.ensures.table)) (lit≤ tt) (wrote_more (wrote_then (wrote_none c.in_ok-s_id.ensures.uses) (subst (λ b. Wrote (cond b 4 0) (g.W.Words.sight c.id_of.new.w) (g.W.Words.sight c.remove.new.w)) c.if-branch.true c.in_ok-remove.ensures.wrote)) (lit< tt))
    (λ range array below db stands. serves_deleted c.in-DeleteCall.sub_nbr c.in-DeleteCall.sf_type c.in-DeleteCall.start_time range stands c.in-Some.s_id (known c.in-DeleteCall.sub_nbr stands c.in-Some.is (c.in_ok-s_id.ensures.id array (below_before c.in_ok-remove.ensures.uses below)))
    (fits_at c.calls.ensures.table c.calls.ensures.fits) (removes_at (shown (g.W.Words.sight c.remove.new.w) array) c.calls.ensures.table (shown_same c.in_ok-s_id.ensures.uses array) (ap (λ k. k + c.in-DeleteCall.start_time / 8) c.first_call_key.ensures) c.if-branch.true (c.in_ok-remove.ensures.removes array below)))

pub returns-else-branch : goal.returns-else-branch
returns-else-branch g c = serves_unchanged c.args.lay.now c.in-DeleteCall.is g.met.W.Words.well_formed Missing c.requires.can (used_then c.in_ok-s_id.ensures.uses c.in_ok-remove.ensures.uses) (omega (arith, ap walk_reads c.calls.ensures.table)) (lit≤ tt) (wrote_then (wrote_none c.in_ok-s_id.ensures.uses) (subst (λ b. Wrote (cond b 4 0) (g.W.Words.sight c.id_of.new.w) (g.W.Words.sight c.remove.new.w)) c.if-branch.false c.in_ok-remove.ensures.wrote)) (λ same. cc)
    (λ range array below db stands. serves_none c.in-DeleteCall.sub_nbr c.in-DeleteCall.sf_type c.in-DeleteCall.start_time range stands c.in-Some.s_id (known c.in-DeleteCall.sub_nbr stands c.in-Some.is (c.in_ok-s_id.ensures.id array (below_before c.in_ok-remove.ensures.uses below))) (removes_at (shown (g.W.Words.sight c.remove.new.w) array) c.calls.ensures.table (shown_same c.in_ok-s_id.ensures.uses array) (ap (λ k. k + c.in-DeleteCall.start_time / 8) c.first_call_key.ensures) c.if-branch.false (c.in_ok-remove.ensures.removes array below)))
