use Rattle.std.proofs.Common.{arith, ◌^◌, false, get_or, sym, ap, ◌∙◌}
use Rattle.tatp_check.proofs.Marking.{record_below, each_met, least_new}
use Rattle.tatp_check.proofs.marks.Marks.first_unmet.Goals as goal

pub overflow_mul-result : goal.overflow_mul-result
overflow_mul-result c =
    let below = record_below c.args.pool.now c.loop-index.index (2 ^ 64) c.requires.fits (omega (arith, c.requires.count)) in omega (arith, below)

pub overflow_add-result : goal.overflow_add-result
overflow_add-result c =
    let below = record_below c.args.pool.now c.loop-index.index (2 ^ 64) c.requires.fits (omega (arith, c.requires.count)) in omega (arith, below)

pub returns-then-not-met : goal.returns-then-not-met
returns-then-not-met c = λ met marked. least_new marked c.loop-index.index c.loop-index.invariant c.requires.size (omega (arith, c.requires.count)) (ap (λ m. get_or m c.loop-index.index false) (sym c.deref-met-items.ensures.value) ∙ c.if-not-met.true)

pub returns : goal.returns
returns c = λ met marked. each_met marked c.loop-index.index c.loop-index.invariant (omega (arith, c.requires.count))
