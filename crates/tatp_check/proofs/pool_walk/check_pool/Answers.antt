use Rattle.std.proofs.Common.{◌≡◌, Err, arith, rules, inl}
use Rattle.tatp_check.proofs.PoolSteps.{handed_word, lost_record, whole_pool, wrong_count}
use Rattle.tatp_check.proofs.pool_walk.check_pool.Goals as goal

pub returns-in_err-follow_free-clause-fault : goal.returns-in_err-follow_free-clause-fault
returns-in_err-follow_free-clause-fault c =
    let was : c.from_residual.result ≡ Err c.in_err-follow_free.field-0.0 = search rules in
    handed_word _ _ (λ word wrong. inl wrong) was (c.in_err-follow_free.ensures.fault _ c.requires.marked)

pub first_unmet-requires-clause-fits : goal.first_unmet-requires-clause-fits
first_unmet-requires-clause-fits c = λ at r. omega (arith, c.requires.fits.inside at r, c.requires.fits.size)

pub returns-in-Some-clause-fault : goal.returns-in-Some-clause-fault
returns-in-Some-clause-fault c =
    let known = c.in_ok-follow_free.ensures.list c.args.taken.now c.requires.marked in
    lost_record _ _ _ known c.in-Some.word (c.in-Some.ensures _ known.marked)

pub returns-then-a-count-clause-fault : goal.returns-then-a-count-clause-fault
returns-then-a-count-clause-fault c =
    let known = c.in_ok-follow_free.ensures.list c.args.taken.now c.requires.marked in
    wrong_count _ _ _ known (c.in_default.ensures _ known.marked) c.if-a-count.true

pub returns-clause-whole : goal.returns-clause-whole
returns-clause-whole c =
    let known = c.in_ok-follow_free.ensures.list c.args.taken.now c.requires.marked in
    whole_pool _ _ _ known (c.in_default.ensures _ known.marked) c.if-a-count.false
