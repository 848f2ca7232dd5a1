use Rattle.std.proofs.Common.{◌≤◌, ◌<◌, arith, refl, ◌∙◌, slice_index}
use Rattle.tree_index.proofs.Walks.{leaf_apart}
use Rattle.tatp_check.specs.TreeWalk.{bit_limit}
use Rattle.tatp_check.proofs.TreeWalks.{down, high_bit, stray}
use Rattle.tatp_check.proofs.tree_walk.go_down.Goals as goal

pub returns-then-not-meet-clause-fault : goal.returns-then-not-meet-clause-fault
returns-then-not-meet-clause-fault c = λ keys known.
    stray c.args.tree.now c.args.a.now keys known (λ new. leaf_apart c.requires.fits _ new.place c.requires.place) (c.if-not-meet.ensures.meets _ known.records.forks_marked)

pub returns-then-bit-bit_limit-clause-fault : goal.returns-then-bit-bit_limit-clause-fault
returns-then-bit-bit_limit-clause-fault c = λ keys known.
    let met = c.if-not-meet.ensures.meets _ known.records.forks_marked in
    let limit = c.bit_limit.ensures known.turns (c.as_slice.ensures.value ∙ known.above) in
    let high : bit_limit known.turns ≤ slice_index c.args.a.now (slice_index c.args.a.now c.args.slot) = omega (arith, limit, c.if-bit-bit_limit.true) in
    high_bit c.args.tree.now c.args.a.now keys known met.0 high

pub returns-clause-down : goal.returns-clause-down
returns-clause-down c = λ keys known.
    let met = c.if-not-meet.ensures.meets _ known.records.forks_marked in
    let limit = c.bit_limit.ensures known.turns (c.as_slice.ensures.value ∙ known.above) in
    let falls : slice_index c.args.a.now (slice_index c.args.a.now c.args.slot) < bit_limit known.turns = omega (arith, limit, c.if-bit-bit_limit.false) in
    down c.args.tree.now c.args.a.now keys known _ _ met.0 falls met.1 refl refl refl c.in_ok-open_fork.ensures
