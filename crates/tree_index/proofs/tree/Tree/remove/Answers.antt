use Rattle.std.proofs.Common.{IfSome, sym, ◌∙◌, subst, false, lit≤}
use Rattle.word_space.specs.Sights.{shown}
use Rattle.word_space.proofs.Runs.{below_before, length_shown, used_handed, used_then, used_until, shown_same}
use Rattle.record_heap.specs.Pool.{FitsPool, IsRecord}
use Rattle.tree_index.specs.declared.tree.NearestLeaf.{NearestLeaf}
use Rattle.tree_index.specs.Linking.{Unlinks}
use Rattle.tree_index.specs.Tree.{RemovesAll}
use Rattle.tree_index.specs.Walk.{FindsNearest}
use Rattle.tree_index.proofs.Found.{near_leads, seen_unchanged, trail_fits}
use Rattle.tree_index.proofs.Removed.{removes_none, removes_other, removes_there}
use Rattle.tree_index.proofs.tree.Tree.remove.Goals as goal

pub returns-in_default-clause-removes : goal.returns-in_default-clause-removes
returns-in_default-clause-removes g c = seen_unchanged c.in_ok-near.ensures.uses (λ old new. RemovesAll c.args.self.now c.args.key old new false) (λ array below.
    removes_none (subst (λ o. FindsNearest c.args.self.now c.args.key (shown (g.W.Words.sight c.args.w.now) array) o) c.in_default.is (c.in_ok-near.ensures.nearest array below)))

pub returns-then-near-key-clause-removes : goal.returns-then-near-key-clause-removes
returns-then-near-key-clause-removes g c = seen_unchanged c.in_ok-near.ensures.uses (λ old new. RemovesAll c.args.self.now c.args.key old new false) (λ array below.
    removes_other (near_leads c.args.self.now c.args.key c.in_ok-near.ensures.uses c.in-Some.is c.in_ok-near.ensures.nearest array below) c.if-near-key.true)

pub unlink-requires-clause-position : goal.unlink-requires-clause-position
unlink-requires-clause-position g c = (trail_fits c.args.self.now c.in_ok-near.ensures.uses.count c.in-Some.is c.in_ok-near.ensures.trail).last

pub give-requires : goal.give-requires
give-requires g c = record {
  fits = subst (FitsPool c.args.self.now.leaves) (sym (c.in_ok-unlink.ensures.uses.count ∙ c.in_ok-near.ensures.uses.count)) c.requires.fits.leaves;
  «record» = subst (λ o. IfSome o (λ (near : NearestLeaf). IsRecord c.args.self.now.leaves near.trail.last.link)) c.in-Some.is c.in_ok-near.ensures.leaf;
}

pub returns-in_err-give-clause-uses : goal.returns-in_err-give-clause-uses
returns-in_err-give-clause-uses g c = let r = c.from_residual-in_err-give in used_handed r.result r.ensures.1 (used_until (used_then c.in_ok-near.ensures.uses c.in_ok-unlink.ensures.uses) c.in_err-give.ensures.uses) (lit≤ tt) (lit≤ tt)

pub returns-clause-uses : goal.returns-clause-uses
returns-clause-uses g c = used_then c.in_ok-near.ensures.uses (used_then c.in_ok-unlink.ensures.uses c.in_ok-give.ensures.uses)

pub returns-clause-removes : goal.returns-clause-removes
returns-clause-removes g c = λ array below.
    let tree = c.args.self.now in
    let near_step = c.in_ok-near.ensures in
    let unlink_step = c.in_ok-unlink.ensures in
    let give_step = c.in_ok-give.ensures in
    let below_unlink = below_before give_step.uses below in
    let below_near = below_before unlink_step.uses below_unlink in
    let middle = shown (g.W.Words.sight c.unlink.new.w) array in
    removes_there c.requires.fits (length_shown (below_before near_step.uses below_near))
    (near_leads tree c.args.key near_step.uses c.in-Some.is near_step.nearest array below_near) c.if-near-key.false
    (subst (λ ws. Unlinks tree c.in-Some.near.trail.last.over ws middle tt) (shown_same near_step.uses array) (unlink_step.unlinks array below_unlink))
    (give_step.gives array below)
