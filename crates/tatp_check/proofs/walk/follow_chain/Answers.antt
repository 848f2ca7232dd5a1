use Rattle.std.proofs.Common.{◌≡◌, Err, IfErr, arith, rules, sym, subst}
use Rattle.tatp_check.specs.Faults.{IsCause, IsInChains}
use Rattle.tatp_check.proofs.Ends.{cause_of}
use Rattle.tatp_check.proofs.Steps.{chain_begins, wrong_link, wrong_record, chain_more, chain_ends}
use Rattle.tatp_check.proofs.PoolSteps.{word_inside}
use Rattle.tatp_check.proofs.walk.follow_chain.Goals as goal

pub loop-link-init : goal.loop-link-init
loop-link-init g c = record {
  inside = omega (arith, c.requires.fits.links, c.requires.bucket);
  knows = chain_begins _ _ _ _ _ c.requires.knows;
}

pub returns-then-not-meet-clause-fault : goal.returns-then-not-meet-clause-fault
returns-then-not-meet-clause-fault g c =
    let known = c.loop-link.invariant.knows in
    wrong_link _ _ _ _ known c.requires.bucket c.loop-link-test.true (c.if-not-meet.ensures.meets _ known.knows.marked)

pub check_record-requires-clause-place : goal.check_record-requires-clause-place
check_record-requires-clause-place g c = c.if-not-meet.ensures.place

pub returns-in_err-check_record-clause-fault : goal.returns-in_err-check_record-clause-fault
returns-in_err-check_record-clause-fault g c =
    let known = c.loop-link.invariant.knows in
    let met = c.if-not-meet.ensures.meets _ known.knows.marked in
    let was : c.from_residual.result ≡ Err c.in_err-check_record.field-0.0 = search rules in
    subst (λ r. IfErr r (IsCause (IsInChains (g.C.Content.MayHold c.args.content.now) c.args.table.now c.args.a.now))) (sym was)
    (cause_of _ _ (λ word wrong. wrong_record _ _ _ _ known c.requires.bucket word wrong) c.in_err-check_record.field-0.0 (c.in_err-check_record.ensures.fault _ known.knows.taken met.0))

pub overflow_add-link-in-loop-link : goal.overflow_add-link-in-loop-link
overflow_add-link-in-loop-link g c = omega (arith, word_inside 1 c.requires.fits.pool c.if-not-meet.ensures.place c.requires.fits.pool.size)

pub loop-link-preserved : goal.loop-link-preserved
loop-link-preserved g c = record {
  inside = word_inside 1 c.requires.fits.pool c.if-not-meet.ensures.place (omega (arith, c.requires.fits.pool.size));
  knows =
      let known = c.loop-link.invariant.knows in
      let met = c.if-not-meet.ensures.meets _ known.knows.marked in
      chain_more _ _ _ _ known _ met.1 (c.in_ok-check_record.ensures.sound _ known.knows.taken);
}

pub returns-clause-knows : goal.returns-clause-knows
returns-clause-knows g c = chain_ends _ _ _ _ c.loop-link.invariant.knows c.loop-link-test.false
