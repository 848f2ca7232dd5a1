use Rattle.std.proofs.Common.{arith, ap, ◌∙◌, slice_index, lit≤}
use Rattle.std.proofs.lemmas.Bool.{false≢true}
use Rattle.std.proofs.lemmas.Result.{IfOk-from_err}
use Rattle.word_space.proofs.Runs.{below_before, shown_same, used_handed, used_more, used_then, used_until}
use Rattle.tree_index.proofs.Found.{no_tree, some_tree}
use Rattle.tree_index.proofs.tree.Tree.nearest.Goals as goal

pub returns-in_err-trail : goal.returns-in_err-trail
returns-in_err-trail g c = let r = c.from_residual in record { uses = used_handed r.result r.ensures.1 c.in_err-trail.ensures.uses (lit≤ tt) (lit≤ tt); trail = IfOk-from_err _ _ r.ensures.0; leaf = IfOk-from_err _ _ r.ensures.0; nearest = IfOk-from_err _ _ r.ensures.0 }

pub returns-then-not-has-clause-uses : goal.returns-then-not-has-clause-uses
returns-then-not-has-clause-uses g c = used_more c.in_ok-trail.ensures.uses (lit≤ tt) (lit≤ tt)

pub returns-then-not-has-clause-nearest : goal.returns-then-not-has-clause-nearest
returns-then-not-has-clause-nearest g c = λ array below. no_tree (c.in_ok-trail.ensures.walks array below) (λ there. false≢true (c.if-not-has.ensures.1 there))

pub read-requires : goal.read-requires
read-requires g c = record { inside = omega (arith, c.requires.fits.leaves.inside _ (c.has.ensures.0 c.if-not-has.false), c.requires.fits.leaf_size, c.in_ok-trail.ensures.uses.count) }

pub returns-in_err-other : goal.returns-in_err-other
returns-in_err-other g c = let r = c.from_residual-in_err-other in record { uses = used_handed r.result r.ensures.1 (used_until c.in_ok-trail.ensures.uses c.in_err-other.ensures.uses) (lit≤ tt) (lit≤ tt); trail = IfOk-from_err _ _ r.ensures.0; leaf = IfOk-from_err _ _ r.ensures.0; nearest = IfOk-from_err _ _ r.ensures.0 }

pub returns-clause-uses : goal.returns-clause-uses
returns-clause-uses g c = used_then c.in_ok-trail.ensures.uses c.in_ok-other.ensures.uses

pub returns-clause-nearest : goal.returns-clause-nearest
returns-clause-nearest g c = λ array below.
    let walk_step = c.in_ok-trail.ensures in
    let key_step = c.in_ok-other.ensures in
    let below_walk = below_before key_step.uses below in
    let there = c.has.ensures.0 c.if-not-has.false in
    record {
      leaf = there;
      read = key_step.value array below ∙ ap (λ ws. slice_index ws c.in_ok-trail.trail.last.link) (shown_same walk_step.uses array);
      walk = walk_step.walks array below_walk;
      some = some_tree _ c.in_ok-trail.trail c.requires.fits (walk_step.empty array below_walk) there;
    }
