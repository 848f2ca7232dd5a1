use Rattle.std.proofs.Common.{IfSome, ap, ◌∙◌, slice_set, arith, subst, lit≤}
use Rattle.std.proofs.lemmas.Result.{IfOk-from_err}
use Rattle.word_space.specs.Sights.{shown}
use Rattle.word_space.proofs.Runs.{below_before, used_handed, used_more, used_then, used_until}
use Rattle.record_heap.specs.Pool.{IsRecord, Takes}
use Rattle.tree_index.proofs.Frees.{none_free}
use Rattle.tree_index.proofs.tree.Tree.put_first.Goals as goal

pub returns-in_err-leaf : goal.returns-in_err-leaf
returns-in_err-leaf g c = let r = c.from_residual in record { uses = used_handed r.result r.ensures.1 c.in_err-leaf.ensures.uses (lit≤ tt) (lit≤ tt); puts = IfOk-from_err _ _ r.ensures.0 }

pub returns-in_default-clause-uses : goal.returns-in_default-clause-uses
returns-in_default-clause-uses g c = used_more c.in_ok-leaf.ensures.uses (lit≤ tt) (lit≤ tt)

pub returns-in_default-clause-puts : goal.returns-in_default-clause-puts
returns-in_default-clause-puts g c = λ array below free taken lawful.
    none_free c.args.self.now.leaves taken _ _ free (subst (λ o. Takes c.args.self.now.leaves free taken o (shown (g.W.Words.sight c.args.w.now) array) (shown (g.W.Words.sight c.take.new.w) array)) c.in_default.is (c.in_ok-leaf.ensures.takes array below free taken lawful))

pub write-requires : goal.write-requires
write-requires g c = record { inside = omega (arith, c.requires.fits.leaves.inside _ (subst (λ o. IfSome o (IsRecord c.args.self.now.leaves)) c.in-Some.is c.in_ok-leaf.ensures.record), c.requires.fits.leaf_size, c.in_ok-leaf.ensures.uses.count) }

pub returns-in_err-write : goal.returns-in_err-write
returns-in_err-write g c = let r = c.from_residual-in_err-write in record { uses = used_handed r.result r.ensures.1 (used_until c.in_ok-leaf.ensures.uses c.in_err-write.ensures.uses) (lit≤ tt) (lit≤ tt); puts = IfOk-from_err _ _ r.ensures.0 }

pub write-requires-2 : goal.write-requires-2
write-requires-2 g c = record { inside = omega (arith, c.requires.fits.root, c.in_ok-leaf.ensures.uses.count, c.in_ok-write.ensures.uses.count) }

pub returns-in_err-write-2 : goal.returns-in_err-write-2
returns-in_err-write-2 g c = let r = c.from_residual-in_err-write-2 in record { uses = used_handed r.result r.ensures.1 (used_until (used_then c.in_ok-leaf.ensures.uses c.in_ok-write.ensures.uses) c.in_err-write-2.ensures.uses) (lit≤ tt) (lit≤ tt); puts = IfOk-from_err _ _ r.ensures.0 }

pub returns-clause-uses : goal.returns-clause-uses
returns-clause-uses g c = used_then c.in_ok-leaf.ensures.uses (used_then c.in_ok-write.ensures.uses c.in_ok-write-2.ensures.uses)

pub returns-clause-puts : goal.returns-clause-puts
returns-clause-puts g c = λ array below free taken lawful.
    let below_leaf = below_before (used_then c.in_ok-write.ensures.uses c.in_ok-write-2.ensures.uses) below in
    record {
      leaf = c.in-Some.leaf;
      middle = shown (g.W.Words.sight c.take.new.w) array;
      takes = subst (λ o. Takes c.args.self.now.leaves free taken o (shown (g.W.Words.sight c.args.w.now) array) (shown (g.W.Words.sight c.take.new.w) array)) c.in-Some.is (c.in_ok-leaf.ensures.takes array below_leaf free taken lawful);
      wrote = c.in_ok-write-2.ensures.shown array ∙ ap (λ ws. slice_set ws c.args.self.now.root c.in-Some.leaf) (c.in_ok-write.ensures.shown array);
    }
