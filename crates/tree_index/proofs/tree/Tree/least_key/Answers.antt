use Rattle.std.proofs.Common.{Some, arith, sym, ap, ◌∙◌, subst, slice_index, lit≤}
use Rattle.std.proofs.lemmas.Bool.{false≢true}
use Rattle.std.proofs.lemmas.Result.{IfOk-from_err}
use Rattle.word_space.proofs.Runs.{below_before, shown_same, used_handed, used_more, used_none, used_then, used_until}
use Rattle.tree_index.specs.Tree.{FitsTree}
use Rattle.tree_index.specs.Walk.{GoesToZeros}
use Rattle.tree_index.proofs.Walks.{lowest_end, lowest_more, lowest_none}
use Rattle.tree_index.proofs.tree.Tree.least_key.Goals as goal

pub loop-init : goal.loop-init
loop-init g c = record {
  uses = used_none;
  low = λ array below shape held radix here. lowest_none _ _ shape _ held radix here;
}

pub zeros_link-requires : goal.zeros_link-requires
zeros_link-requires g c = record { fits = subst (FitsTree c.args.self.now) (sym c.loop.invariant.uses.count) c.requires.fits }

pub loop-preserved : goal.loop-preserved
loop-preserved g c =
    let before = c.loop.invariant in
    let step = c.in_ok-at.ensures in
    record {
      uses = used_more (used_then before.uses step.uses) (omega arith) (lit≤ tt);
      low = λ array below shape held radix here.
          lowest_more c.requires.fits _ shape _ _ _
          (subst (λ words. GoesToZeros c.args.self.now c.loop.at words c.in_ok-at.at) (shown_same before.uses array) (step.zeros array below))
          (before.low array (below_before step.uses below) shape held radix here);
    }

pub returns-in_err-at : goal.returns-in_err-at
returns-in_err-at g c = let r = c.from_residual in record { uses = used_handed r.result r.ensures.1 (used_until c.loop.invariant.uses c.in_err-at.ensures.uses) (omega (arith, c.loop-test.true)) (lit≤ tt); least = IfOk-from_err _ _ r.ensures.0 }

pub returns-then-not-has-clause-uses : goal.returns-then-not-has-clause-uses
returns-then-not-has-clause-uses g c = used_more c.loop.invariant.uses (omega (arith, c.loop.auto.counter-end)) (lit≤ tt)

pub returns-then-not-has-clause-least : goal.returns-then-not-has-clause-least
returns-then-not-has-clause-least g c = λ array below shape held radix here.
    absurd (false≢true (c.if-not-has.ensures.1 (lowest_end (omega (arith, c.loop-test.false)) (c.loop.invariant.low array below shape held radix here)).0))

pub read-requires : goal.read-requires
read-requires g c = record { inside = omega (arith, c.requires.fits.leaves.inside _ (c.has.ensures.0 c.if-not-has.false), c.requires.fits.leaves.size, c.loop.invariant.uses.count) }

pub returns-in_err-key : goal.returns-in_err-key
returns-in_err-key g c = let r = c.from_residual-in_err-key in record { uses = used_handed r.result r.ensures.1 (used_until c.loop.invariant.uses c.in_err-key.ensures.uses) (omega (arith, c.loop.auto.counter-end)) (lit≤ tt); least = IfOk-from_err _ _ r.ensures.0 }

pub returns-clause-uses : goal.returns-clause-uses
returns-clause-uses g c = used_more (used_then c.loop.invariant.uses c.in_ok-key.ensures.uses) (omega (arith, c.loop.auto.counter-end)) (lit≤ tt)

pub returns-clause-least : goal.returns-clause-least
returns-clause-least g c = λ array below shape held radix here.
    let step = c.in_ok-key.ensures in
    let before = c.loop.invariant in
    ap Some (step.value array below ∙ ap (λ ws. slice_index ws c.loop.at) (shown_same before.uses array)
    ∙ sym (lowest_end (omega (arith, c.loop-test.false)) (before.low array (below_before step.uses below) shape held radix here)).1)
