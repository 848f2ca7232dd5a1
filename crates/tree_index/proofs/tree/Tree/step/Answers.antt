use Rattle.std.proofs.Common.{◌+◌, slice_index, arith, ap, ◌∙◌, lit≤}
use Rattle.std.proofs.lemmas.Bool.{false≢true}
use Rattle.std.proofs.lemmas.Result.{IfOk-from_err}
use Rattle.word_space.specs.Sights.{shown}
use Rattle.word_space.proofs.Runs.{below_before, shown_same, used_handed, used_more, used_none, used_then, used_until}
use Rattle.tree_index.proofs.Walks.{step_fits, steps_on}
use Rattle.tree_index.proofs.tree.Tree.step.Goals as goal

pub returns-then-not-has-clause-uses : goal.returns-then-not-has-clause-uses
returns-then-not-has-clause-uses g c = used_more used_none (lit≤ tt) (lit≤ tt)

pub returns-then-not-has-clause-steps : goal.returns-then-not-has-clause-steps
returns-then-not-has-clause-steps g c = λ array below there. absurd (false≢true (c.if-not-has.ensures.1 there))

pub returns-in_err-bit : goal.returns-in_err-bit
returns-in_err-bit g c = let r = c.from_residual in record { uses = used_handed r.result r.ensures.1 c.in_err-bit.ensures.uses (lit≤ tt) (lit≤ tt); position = IfOk-from_err _ _ r.ensures.0; steps = IfOk-from_err _ _ r.ensures.0 }

pub returns-then-bit-floor-clause-uses : goal.returns-then-bit-floor-clause-uses
returns-then-bit-floor-clause-uses g c = used_more c.in_ok-bit.ensures.uses (lit≤ tt) (lit≤ tt)

pub returns-then-bit-floor-clause-steps : goal.returns-then-bit-floor-clause-steps
returns-then-bit-floor-clause-steps g c = λ array below there. omega (arith, c.if-bit-floor.true, c.in_ok-bit.ensures.value array below)

pub returns-in_err-link : goal.returns-in_err-link
returns-in_err-link g c = let r = c.from_residual-in_err-link in record { uses = used_handed r.result r.ensures.1 (used_until c.in_ok-bit.ensures.uses c.in_err-link.ensures.uses) (lit≤ tt) (lit≤ tt); position = IfOk-from_err _ _ r.ensures.0; steps = IfOk-from_err _ _ r.ensures.0 }

pub returns-clause-uses : goal.returns-clause-uses
returns-clause-uses g c = used_then c.in_ok-bit.ensures.uses c.in_ok-link.ensures.uses

pub returns-clause-position : goal.returns-clause-position
returns-clause-position g c = step_fits c.requires.fits c.args.key c.args.position c.in_ok-bit.bit c.side-side.result c.in_ok-link.link c.turn_after-turn.result c.requires.position (c.has.ensures.0 c.if-not-has.false) c.side-side.ensures c.turn_after-turn.ensures

pub returns-clause-steps : goal.returns-clause-steps
returns-clause-steps g c = λ array below.
    let bit_step = c.in_ok-bit.ensures in
    let link_step = c.in_ok-link.ensures in
    let slot = c.args.position.link + 2 + c.side-side.result in
    steps_on c.args.self.now (shown (g.W.Words.sight c.args.w.now) array) c.args.key c.args.floor c.args.position c.in_ok-bit.bit c.side-side.result c.in_ok-link.link c.turn_after-turn.result (c.has.ensures.0 c.if-not-has.false)
    (bit_step.value array (below_before link_step.uses below)) c.if-bit-floor.false c.side-side.ensures
    (link_step.value array below ∙ ap (λ seen. slice_index seen slot) (shown_same bit_step.uses array)) c.turn_after-turn.ensures
