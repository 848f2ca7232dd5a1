use Rattle.std.proofs.Common.{◌≡◌, ◌+◌, ◌-◌, ◌<◌, length, arith, refl, sym, ◌∙◌, subst}
use Rattle.std.proofs.lemmas.Bool.{false≢true}
use Rattle.tatp_check.proofs.KeptTurns.{LeavesTurns, goes_by_all, goes_on_there, stops_there}
use Rattle.tatp_check.proofs.tree_seen.goes_by_turns.Goals as goal

pub returns-then-not-passes : goal.returns-then-not-passes
returns-then-not-passes c = λ turns same.
    let left = c.loop-left.left - 1 in
    let more : c.loop-left.left ≡ left + 1 = omega arith in
    let below : left < length c.args.above.now = omega (arith, c.loop-left.invariant.inside) in
    let known = subst (λ k. LeavesTurns c.args.key c.args.above.now turns k c.loop-left.first) more (c.loop-left.invariant.leaves turns same) in (
      (λ t. absurd (false≢true t)),
      (λ goes. absurd (stops_there c.args.key c.args.above.now turns left c.loop-left.first _ known below (λ passes. false≢true (sym c.if-not-passes.true ∙ c.passes.ensures.1 passes)) goes)),
    )

pub loop-left-preserved : goal.loop-left-preserved
loop-left-preserved c = record {
  inside = omega (arith, c.loop-left.invariant.inside);
  leaves = λ turns same.
      let left = c.loop-left.left - 1 in
      let more : c.loop-left.left ≡ left + 1 = omega arith in
      let below : left < length c.args.above.now = omega (arith, c.loop-left.invariant.inside) in
      let known = subst (λ k. LeavesTurns c.args.key c.args.above.now turns k c.loop-left.first) more (c.loop-left.invariant.leaves turns same) in
      subst (λ f. LeavesTurns c.args.key c.args.above.now turns left f) (sym c.or-first.ensures)
      (goes_on_there c.args.key c.args.above.now turns left c.loop-left.first _ known below (c.passes.ensures.0 c.if-not-passes.false));
}

pub returns : goal.returns
returns c = λ turns same.
    let none : c.loop-left.left ≡ 0 = omega arith in (
      (λ t. goes_by_all c.args.key c.args.above.now turns c.loop-left.first (subst (λ k. LeavesTurns c.args.key c.args.above.now turns k c.loop-left.first) none (c.loop-left.invariant.leaves turns same))),
      (λ goes. refl),
    )
