use Rattle.std.proofs.Common.{Some, ℕ, List, IfSome, arith, sym, ap, ◌∙◌, subst, lit≤}
use Rattle.std.proofs.lemmas.Result.{IfOk-from_err}
use Rattle.word_space.specs.Sights.{IsBelow, shown}
use Rattle.word_space.proofs.Runs.{below_before, shown_same, used_handed, used_more, used_then, used_until}
use Rattle.tree_index.specs.Tree.{FitsTree}
use Rattle.tree_index.specs.Walk.{FitsPosition, FitsTrail, IsStep, start_at}
use Rattle.tree_index.proofs.Walks.{empty_step, start_fits, trailing_end, trailing_more, trailing_none, trailing_out}
use Rattle.tree_index.proofs.tree.Tree.walk.Goals as goal

pub returns-in_err-link : goal.returns-in_err-link
returns-in_err-link g c = let r = c.from_residual in record { uses = used_handed r.result r.ensures.1 c.in_err-link.ensures.uses (lit≤ tt) (lit≤ tt); trail = IfOk-from_err _ _ r.ensures.0; walks = IfOk-from_err _ _ r.ensures.0; empty = IfOk-from_err _ _ r.ensures.0 }

pub loop-init : goal.loop-init
loop-init g c =
    let step = c.in_ok-link.ensures in
    record {
      uses = used_more step.uses (omega arith) (lit≤ tt);
      inside = start_fits c.args.self.now _ c.in_ok-link.link (omega (arith, c.requires.fits.root, step.uses.count));
      stands = λ array below whole there. trailing_none c.args.self.now c.args.key c.args.floor c.in_ok-link.link _ whole there (step.value array below);
      empty = λ array below none. ap (λ l. start_at c.args.self.now l) (step.value array below ∙ none);
    }

pub step-requires : goal.step-requires
step-requires g c = record { fits = subst (FitsTree c.args.self.now) (sym c.loop.invariant.uses.count) c.requires.fits; position = c.loop.invariant.inside.last }

pub returns-in_err-next : goal.returns-in_err-next
returns-in_err-next g c = let r = c.from_residual-in_err-next in record { uses = used_handed r.result r.ensures.1 (used_until c.loop.invariant.uses c.in_err-next.ensures.uses) (omega (arith, c.loop-test.true)) (lit≤ tt); trail = IfOk-from_err _ _ r.ensures.0; walks = IfOk-from_err _ _ r.ensures.0; empty = IfOk-from_err _ _ r.ensures.0 }

pub returns-in_default-clause-uses : goal.returns-in_default-clause-uses
returns-in_default-clause-uses g c = used_more (used_then c.loop.invariant.uses c.in_ok-next.ensures.uses) (omega (arith, c.loop-test.true)) (lit≤ tt)

pub returns-in_default-clause-trail : goal.returns-in_default-clause-trail
returns-in_default-clause-trail g c = subst (λ n. FitsTrail c.args.self.now n c.loop.trail) c.loop.invariant.uses.count c.loop.invariant.inside

pub returns-in_default-clause-walks : goal.returns-in_default-clause-walks
returns-in_default-clause-walks g c = λ array below whole there.
    let before = c.loop.invariant in
    let step = c.in_ok-next.ensures in
    trailing_end
    (subst (λ o. IsStep c.args.self.now c.args.key c.args.floor c.loop.trail.last (shown (g.W.Words.sight c.args.w.now) array) o) c.in_default.is
    (subst (λ words. IsStep c.args.self.now c.args.key c.args.floor c.loop.trail.last words c.in_ok-next.field-0) (shown_same before.uses array) (step.steps array below)))
    (before.stands array (below_before step.uses below) whole there)

pub returns-in_default-clause-empty : goal.returns-in_default-clause-empty
returns-in_default-clause-empty g c = λ array below. c.loop.invariant.empty array (below_before c.in_ok-next.ensures.uses below)

pub loop-preserved : goal.loop-preserved
loop-preserved g c =
    let before = c.loop.invariant in
    let step = c.in_ok-next.ensures in
    let taken : (array : List ℕ) → IsBelow (g.W.Words.sight c.step.new.w) array → IsStep c.args.self.now c.args.key c.args.floor c.loop.trail.last (shown (g.W.Words.sight c.args.w.now) array) (Some c.in-Some.next) = λ array below.
    subst (λ o. IsStep c.args.self.now c.args.key c.args.floor c.loop.trail.last (shown (g.W.Words.sight c.args.w.now) array) o) c.in-Some.is
    (subst (λ words. IsStep c.args.self.now c.args.key c.args.floor c.loop.trail.last words c.in_ok-next.field-0) (shown_same before.uses array) (step.steps array below)) in
    record {
      uses = used_more (used_then before.uses step.uses) (omega arith) (lit≤ tt);
      inside = subst (λ n. FitsTrail c.args.self.now n (record { last = c.in-Some.next; second = c.loop.trail.last; third = c.loop.trail.second })) (sym step.uses.count) (record {
        last = subst (λ o. IfSome o (FitsPosition c.args.self.now (g.W.Words.sight c.loop.w).count)) c.in-Some.is step.position;
        second = before.inside.last;
        third = before.inside.second;
      });
      stands = λ array below whole there. trailing_more c.requires.fits c.args.key c.args.floor _ whole c.loop.counter c.loop.trail c.in-Some.next (taken array below) (before.stands array (below_before step.uses below) whole there);
      empty = λ array below none. absurd (empty_step c.requires.fits c.args.key c.args.floor _ c.loop.trail.last c.in-Some.next (taken array below) (before.empty array (below_before step.uses below) none));
    }

pub returns-clause-uses : goal.returns-clause-uses
returns-clause-uses g c = used_more c.loop.invariant.uses (omega (arith, c.loop.auto.counter-end)) (lit≤ tt)

pub returns-clause-trail : goal.returns-clause-trail
returns-clause-trail g c = subst (λ n. FitsTrail c.args.self.now n c.loop.trail) c.loop.invariant.uses.count c.loop.invariant.inside

pub returns-clause-walks : goal.returns-clause-walks
returns-clause-walks g c = λ array below whole there. trailing_out (omega (arith, c.loop-test.false)) (c.loop.invariant.stands array below whole there)

pub returns-clause-empty : goal.returns-clause-empty
returns-clause-empty g c = c.loop.invariant.empty
