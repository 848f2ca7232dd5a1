use Rattle.std.proofs.Common.{IfSome, sym, ◌<◌, subst, lit≤}
use Rattle.std.proofs.lemmas.Result.{IfOk-from_err}
use Rattle.word_space.specs.Sights.{shown}
use Rattle.word_space.proofs.Runs.{below_before, used_handed, used_more, used_then, used_until}
use Rattle.record_heap.specs.Pool.{FitsPool, Gives, IsPool, IsRecord}
use Rattle.tree_index.specs.Linking.{Unlinks}
use Rattle.tree_index.proofs.tree.Tree.unlink.Goals as goal

pub write-requires : goal.write-requires
write-requires g c = record { inside = c.requires.fits.root }

pub returns-in_err-write : goal.returns-in_err-write
returns-in_err-write g c = let r = c.from_residual in record { uses = used_handed r.result r.ensures.1 c.in_err-write.ensures.uses (lit≤ tt) (lit≤ tt); unlinks = IfOk-from_err _ _ r.ensures.0 }

pub returns-in_default-clause-uses : goal.returns-in_default-clause-uses
returns-in_default-clause-uses g c = used_more c.in_ok-write.ensures.uses (lit≤ tt) (lit≤ tt)

pub returns-in_default-clause-unlinks : goal.returns-in_default-clause-unlinks
returns-in_default-clause-unlinks g c = λ array below.
    subst (λ o. Unlinks c.args.self.now o (shown (g.W.Words.sight c.args.w.now) array) (shown (g.W.Words.sight c.write.new.self) array) tt) (sym c.in_default.is) (c.in_ok-write.ensures.shown array)

pub cut-requires : goal.cut-requires
cut-requires g c =
    let passed = subst (λ o. IfSome o (λ p. IsRecord c.args.self.now.inner p.at × (p.slot < (g.W.Words.sight c.args.w.now).count) × (p.side < 2))) c.in-Some.is c.requires.position.over in
    record { fits = c.requires.fits; inner = passed.0; slot = passed.1; side = passed.2 }

pub returns-in_err-cut : goal.returns-in_err-cut
returns-in_err-cut g c = let r = c.from_residual-in_err-cut in record { uses = used_handed r.result r.ensures.1 c.in_err-cut.ensures.uses (lit≤ tt) (lit≤ tt); unlinks = IfOk-from_err _ _ r.ensures.0 }

pub give-requires : goal.give-requires
give-requires g c =
    let passed = subst (λ o. IfSome o (λ p. IsRecord c.args.self.now.inner p.at × (p.slot < (g.W.Words.sight c.args.w.now).count) × (p.side < 2))) c.in-Some.is c.requires.position.over in
    record { fits = subst (FitsPool c.args.self.now.inner) (sym c.in_ok-cut.ensures.uses.count) c.requires.fits.inner; «record» = passed.0 }

pub returns-in_err-give : goal.returns-in_err-give
returns-in_err-give g c = let r = c.from_residual-in_err-give in record { uses = used_handed r.result r.ensures.1 (used_until c.in_ok-cut.ensures.uses c.in_err-give.ensures.uses) (lit≤ tt) (lit≤ tt); unlinks = IfOk-from_err _ _ r.ensures.0 }

pub returns-clause-uses : goal.returns-clause-uses
returns-clause-uses g c = used_then c.in_ok-cut.ensures.uses c.in_ok-give.ensures.uses

pub returns-clause-unlinks : goal.returns-clause-unlinks
returns-clause-unlinks g c = λ array below.
    let tree = c.args.self.now in
    let over = c.in-Some.over in
    let old = shown (g.W.Words.sight c.args.w.now) array in
    let new = shown (g.W.Words.sight c.give.new.w) array in
    let linked = c.in_ok-cut.ensures.relinks array (below_before c.in_ok-give.ensures.uses below) in
    subst (λ o. Unlinks tree o old new tt) (sym c.in-Some.is)
    (λ free taken lawful kept. subst (λ ws. Gives tree.inner over.at free taken ws new) linked (c.in_ok-give.ensures.gives array below free taken (subst (λ ws. IsPool tree.inner ws free taken) (sym linked) lawful) kept))
