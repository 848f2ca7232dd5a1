use Rattle.std.proofs.Common.{arith}
use Rattle.tatp_check.proofs.PoolSteps.{free_begins, wrong_free, free_more, free_ends, word_inside}
use Rattle.tatp_check.proofs.pool_walk.follow_free.Goals as goal

pub loop-link-init : goal.loop-link-init
loop-link-init c = record {
  count = c.requires.count;
  inside = omega (arith, c.requires.fits.header);
  knows = λ taken apart. free_begins c.args.pool.now c.args.a.now taken c.args.marks.now apart;
}

pub returns-then-not-meet-clause-fault : goal.returns-then-not-meet-clause-fault
returns-then-not-meet-clause-fault c = λ taken apart.
    let known = c.loop-link.invariant.knows taken apart in
    wrong_free c.args.pool.now c.args.a.now taken known c.loop-link-test.true (c.if-not-meet.ensures.meets _ known.marked)

pub overflow_add-link : goal.overflow_add-link
overflow_add-link c = omega (arith, word_inside 1 c.requires.fits c.if-not-meet.ensures.place c.requires.fits.size)

pub loop-link-preserved : goal.loop-link-preserved
loop-link-preserved c = record {
  count = c.meet.ensures.count;
  inside = word_inside 1 c.requires.fits c.if-not-meet.ensures.place (omega (arith, c.requires.fits.size));
  knows = λ taken apart.
      let known = c.loop-link.invariant.knows taken apart in
      let met = c.if-not-meet.ensures.meets _ known.marked in
      free_more c.args.pool.now c.args.a.now taken known c.meet.new.self met.0 met.1;
}

pub returns-clause-list : goal.returns-clause-list
returns-clause-list c = λ taken apart. free_ends c.args.pool.now c.args.a.now taken (c.loop-link.invariant.knows taken apart) c.loop-link-test.false
