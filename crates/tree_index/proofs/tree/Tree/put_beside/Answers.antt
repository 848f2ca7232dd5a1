use Rattle.std.proofs.Common.{arith, Some, IfSome, inl, inr, sym, ◌∙◌, subst, lit≤}
use Rattle.std.proofs.lemmas.Bool.{false≢true}
use Rattle.std.proofs.lemmas.Result.{IfOk-from_err}
use Rattle.word_space.specs.Sights.{shown}
use Rattle.word_space.proofs.Runs.{below_before, shown_same, used_handed, used_more, used_then, used_until}
use Rattle.record_heap.specs.Pool.{FitsPool, IsPool, IsRecord, Takes}
use Rattle.tree_index.specs.Tree.{FitsTree}
use Rattle.tree_index.proofs.Frees.{inner_stays, no_first, no_free, none_free}
use Rattle.tree_index.proofs.tree.Tree.put_beside.Goals as goal

pub read-requires : goal.read-requires
read-requires g c = record { inside = omega (arith, c.requires.fits.inner.header) }

pub returns-in_err-first : goal.returns-in_err-first
returns-in_err-first g c = let r = c.from_residual in record { uses = used_handed r.result r.ensures.1 c.in_err-first.ensures.uses (lit≤ tt) (lit≤ tt); puts = IfOk-from_err _ _ r.ensures.0 }

pub returns-then-not-has-clause-uses : goal.returns-then-not-has-clause-uses
returns-then-not-has-clause-uses g c = used_more c.in_ok-first.ensures.uses (lit≤ tt) (lit≤ tt)

pub returns-then-not-has-clause-puts : goal.returns-then-not-has-clause-puts
returns-then-not-has-clause-puts g c = λ array below free_leaves leaves free_inner inner leaf_pool inner_pool.
    (inr (no_first free_inner c.in_ok-first.first (c.in_ok-first.ensures.value array below) (λ there. false≢true (c.if-not-has.ensures.1 there)) inner_pool), shown_same c.in_ok-first.ensures.uses array)

pub take-requires : goal.take-requires
take-requires g c = record { fits = subst (FitsPool c.args.self.now.leaves) (sym c.in_ok-first.ensures.uses.count) c.requires.fits.leaves }

pub returns-in_err-leaf : goal.returns-in_err-leaf
returns-in_err-leaf g c = let r = c.from_residual-in_err-leaf in record { uses = used_handed r.result r.ensures.1 (used_until c.in_ok-first.ensures.uses c.in_err-leaf.ensures.uses) (lit≤ tt) (lit≤ tt); puts = IfOk-from_err _ _ r.ensures.0 }

pub returns-in_default-clause-uses : goal.returns-in_default-clause-uses
returns-in_default-clause-uses g c = used_more (used_then c.in_ok-first.ensures.uses c.in_ok-leaf.ensures.uses) (lit≤ tt) (lit≤ tt)

pub returns-in_default-clause-puts : goal.returns-in_default-clause-puts
returns-in_default-clause-puts g c = λ array below free_leaves leaves free_inner inner leaf_pool inner_pool.
    let tree = c.args.self.now in
    let same = shown_same c.in_ok-first.ensures.uses array in
    let new = shown (g.W.Words.sight c.take.new.w) array in
    let none = none_free tree.leaves leaves _ _ free_leaves
    (subst (λ o. Takes tree.leaves free_leaves leaves o (shown (g.W.Words.sight c.args.w.now) array) new) c.in_default.is
    (subst (λ old. Takes tree.leaves free_leaves leaves c.in_ok-leaf.field-0 old new) same (c.in_ok-leaf.ensures.takes array below free_leaves leaves (subst (λ old. IsPool tree.leaves old free_leaves leaves) (sym same) leaf_pool)))) in
    (inl none.0, none.1)

pub take-requires-2 : goal.take-requires-2
take-requires-2 g c = record { fits = subst (FitsPool c.args.self.now.inner) (sym (c.in_ok-leaf.ensures.uses.count ∙ c.in_ok-first.ensures.uses.count)) c.requires.fits.inner }

pub returns-in_err-fork : goal.returns-in_err-fork
returns-in_err-fork g c = let r = c.from_residual-in_err-fork in record { uses = used_handed r.result r.ensures.1 (used_until (used_then c.in_ok-first.ensures.uses c.in_ok-leaf.ensures.uses) c.in_err-fork.ensures.uses) (lit≤ tt) (lit≤ tt); puts = IfOk-from_err _ _ r.ensures.0 }

pub returns-in_default-2-clause-uses : goal.returns-in_default-2-clause-uses
returns-in_default-2-clause-uses g c = used_more (used_then c.in_ok-first.ensures.uses (used_then c.in_ok-leaf.ensures.uses c.in_ok-fork.ensures.uses)) (lit≤ tt) (lit≤ tt)

pub returns-in_default-2-clause-puts : goal.returns-in_default-2-clause-puts
returns-in_default-2-clause-puts g c = λ array below free_leaves leaves free_inner inner leaf_pool inner_pool.
    let tree = c.args.self.now in
    let first_step = c.in_ok-first.ensures in
    let below_leaf = below_before c.in_ok-fork.ensures.uses below in
    let below_first = below_before c.in_ok-leaf.ensures.uses below_leaf in
    let same = shown_same first_step.uses array in
    let old = shown (g.W.Words.sight c.args.w.now) array in
    let middle = shown (g.W.Words.sight c.take.new.w) array in
    let new = shown (g.W.Words.sight c.take-2.new.w) array in
    let took : Takes tree.leaves free_leaves leaves (Some c.in-Some.leaf) old middle =
    subst (λ o. Takes tree.leaves free_leaves leaves o old middle) c.in-Some.is
    (subst (λ x. Takes tree.leaves free_leaves leaves c.in_ok-leaf.field-0 x middle) same (c.in_ok-leaf.ensures.takes array below_leaf free_leaves leaves (subst (λ x. IsPool tree.leaves x free_leaves leaves) (sym same) leaf_pool))) in
    let none = none_free tree.inner inner _ _ free_inner (subst (λ o. Takes tree.inner free_inner inner o middle new) c.in_default-2.is (c.in_ok-fork.ensures.takes array below free_inner inner (inner_stays c.requires.fits c.in-Some.leaf leaves free_leaves took inner_pool))) in
    absurd (no_free c.in_ok-first.first c.requires.fits free_inner (first_step.value array below_first) (c.has.ensures.0 c.if-not-has.false) inner_pool none.0)

pub link_beside-requires : goal.link_beside-requires
link_beside-requires g c =
    let count = c.in_ok-fork.ensures.uses.count ∙ c.in_ok-leaf.ensures.uses.count ∙ c.in_ok-first.ensures.uses.count in
    record {
      fits = subst (FitsTree c.args.self.now) (sym count) c.requires.fits;
      leaf = subst (λ o. IfSome o (IsRecord c.args.self.now.leaves)) c.in-Some.is c.in_ok-leaf.ensures.record;
      fork = subst (λ o. IfSome o (IsRecord c.args.self.now.inner)) c.in-Some-2.is c.in_ok-fork.ensures.record;
      slot = omega (arith, c.requires.position.slot, count);
    }

pub returns-in_err-link_beside : goal.returns-in_err-link_beside
returns-in_err-link_beside g c = let r = c.from_residual-in_err-link_beside in record { uses = used_handed r.result r.ensures.1 (used_until (used_then c.in_ok-first.ensures.uses (used_then c.in_ok-leaf.ensures.uses c.in_ok-fork.ensures.uses)) c.in_err-link_beside.ensures.uses) (lit≤ tt) (lit≤ tt); puts = IfOk-from_err _ _ r.ensures.0 }

pub returns-clause-uses : goal.returns-clause-uses
returns-clause-uses g c = used_then c.in_ok-first.ensures.uses (used_then c.in_ok-leaf.ensures.uses (used_then c.in_ok-fork.ensures.uses c.in_ok-link_beside.ensures.uses))

pub returns-clause-puts : goal.returns-clause-puts
returns-clause-puts g c = λ array below free_leaves leaves free_inner inner leaf_pool inner_pool.
    let tree = c.args.self.now in
    let below_fork = below_before c.in_ok-link_beside.ensures.uses below in
    let below_leaf = below_before c.in_ok-fork.ensures.uses below_fork in
    let same = shown_same c.in_ok-first.ensures.uses array in
    let old = shown (g.W.Words.sight c.args.w.now) array in
    let middle = shown (g.W.Words.sight c.take.new.w) array in
    let next = shown (g.W.Words.sight c.take-2.new.w) array in
    record {
      leaf = c.in-Some.leaf;
      first = middle;
      takes_leaf =
          subst (λ o. Takes tree.leaves free_leaves leaves o old middle) c.in-Some.is
          (subst (λ x. Takes tree.leaves free_leaves leaves c.in_ok-leaf.field-0 x middle) same (c.in_ok-leaf.ensures.takes array below_leaf free_leaves leaves (subst (λ x. IsPool tree.leaves x free_leaves leaves) (sym same) leaf_pool)));
      fork = c.in-Some-2.fork;
      second = next;
      takes_inner = λ lawful. subst (λ o. Takes tree.inner free_inner inner o middle next) c.in-Some-2.is (c.in_ok-fork.ensures.takes array below_fork free_inner inner lawful);
      wrote = c.in_ok-link_beside.ensures.shown array;
    }
