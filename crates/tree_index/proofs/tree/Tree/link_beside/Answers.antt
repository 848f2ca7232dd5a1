use Rattle.std.proofs.Common.{◌+◌, ◌-◌, slice_set, ap, ◌∙◌, arith, lit≤}
use Rattle.std.proofs.lemmas.Result.{IfOk-from_err}
use Rattle.word_space.proofs.Runs.{used_handed, used_then, used_until}
use Rattle.word_space.specs.Sights.{shown}
use Rattle.tree_index.proofs.Shapes.{bit_small}
use Rattle.tree_index.proofs.tree.Tree.link_beside.Goals as goal

pub write-requires : goal.write-requires
write-requires g c = record { inside = omega (arith, c.requires.fits.leaves.inside _ c.requires.leaf, c.requires.fits.leaf_size) }

pub returns-in_err-write : goal.returns-in_err-write
returns-in_err-write g c = let r = c.from_residual in record { uses = used_handed r.result r.ensures.1 c.in_err-write.ensures.uses (lit≤ tt) (lit≤ tt); shown = IfOk-from_err _ _ r.ensures.0 }

pub write-requires-2 : goal.write-requires-2
write-requires-2 g c = record { inside = omega (arith, c.requires.fits.inner.inside _ c.requires.fork, c.requires.fits.inner_size, c.in_ok-write.ensures.uses.count) }

pub returns-in_err-write-2 : goal.returns-in_err-write-2
returns-in_err-write-2 g c = let r = c.from_residual-in_err-write-2 in record { uses = used_handed r.result r.ensures.1 (used_until c.in_ok-write.ensures.uses c.in_err-write-2.ensures.uses) (lit≤ tt) (lit≤ tt); shown = IfOk-from_err _ _ r.ensures.0 }

pub overflow_add-fork : goal.overflow_add-fork
overflow_add-fork g c = omega (arith, c.requires.fits.inner.inside _ c.requires.fork, c.requires.fits.inner_size, (g.met.W.Words.well_formed c.args.w.now).count)

pub overflow_add-fork-2 : goal.overflow_add-fork-2
overflow_add-fork-2 g c = omega (arith, c.requires.fits.inner.inside _ c.requires.fork, c.requires.fits.inner_size, (g.met.W.Words.well_formed c.args.w.now).count, bit_small c.args.key c.args.bit, c.side-side.ensures)

pub write-requires-3 : goal.write-requires-3
write-requires-3 g c = record { inside = omega (arith, c.requires.fits.inner.inside _ c.requires.fork, c.requires.fits.inner_size, bit_small c.args.key c.args.bit, c.side-side.ensures, c.in_ok-write.ensures.uses.count, c.in_ok-write-2.ensures.uses.count) }

pub returns-in_err-write-3 : goal.returns-in_err-write-3
returns-in_err-write-3 g c = let r = c.from_residual-in_err-write-3 in record { uses = used_handed r.result r.ensures.1 (used_until (used_then c.in_ok-write.ensures.uses c.in_ok-write-2.ensures.uses) c.in_err-write-3.ensures.uses) (lit≤ tt) (lit≤ tt); shown = IfOk-from_err _ _ r.ensures.0 }

pub overflow_add-fork-3 : goal.overflow_add-fork-3
overflow_add-fork-3 g c = omega (arith, c.requires.fits.inner.inside _ c.requires.fork, c.requires.fits.inner_size, (g.met.W.Words.well_formed c.args.w.now).count)

pub write-requires-4 : goal.write-requires-4
write-requires-4 g c = record { inside = omega (arith, c.requires.fits.inner.inside _ c.requires.fork, c.requires.fits.inner_size, bit_small c.args.key c.args.bit, c.side-side.ensures, c.in_ok-write.ensures.uses.count, c.in_ok-write-2.ensures.uses.count, c.in_ok-write-3.ensures.uses.count) }

pub returns-in_err-write-4 : goal.returns-in_err-write-4
returns-in_err-write-4 g c = let r = c.from_residual-in_err-write-4 in record { uses = used_handed r.result r.ensures.1 (used_until (used_then c.in_ok-write.ensures.uses (used_then c.in_ok-write-2.ensures.uses c.in_ok-write-3.ensures.uses)) c.in_err-write-4.ensures.uses) (lit≤ tt) (lit≤ tt); shown = IfOk-from_err _ _ r.ensures.0 }

pub write-requires-5 : goal.write-requires-5
write-requires-5 g c = record { inside = omega (arith, c.requires.slot, c.in_ok-write.ensures.uses.count, c.in_ok-write-2.ensures.uses.count, c.in_ok-write-3.ensures.uses.count, c.in_ok-write-4.ensures.uses.count) }

pub returns-in_err-write-5 : goal.returns-in_err-write-5
returns-in_err-write-5 g c = let r = c.from_residual-in_err-write-5 in record { uses = used_handed r.result r.ensures.1 (used_until (used_then c.in_ok-write.ensures.uses (used_then c.in_ok-write-2.ensures.uses (used_then c.in_ok-write-3.ensures.uses c.in_ok-write-4.ensures.uses))) c.in_err-write-5.ensures.uses) (lit≤ tt) (lit≤ tt); shown = IfOk-from_err _ _ r.ensures.0 }

pub returns-clause-uses : goal.returns-clause-uses
returns-clause-uses g c = used_then c.in_ok-write.ensures.uses (used_then c.in_ok-write-2.ensures.uses (used_then c.in_ok-write-3.ensures.uses (used_then c.in_ok-write-4.ensures.uses c.in_ok-write-5.ensures.uses)))

pub returns-clause-shown : goal.returns-clause-shown
returns-clause-shown g c = λ array.
    let old = shown (g.W.Words.sight c.args.w.now) array in
    let leaf = c.args.leaf in
    let fork = c.args.fork in
    let side = c.side-side.result in
    let position = c.args.position in
    c.in_ok-write-5.ensures.shown array
    ∙ ap (λ ws. slice_set ws position.slot fork) (c.in_ok-write-4.ensures.shown array
    ∙ ap (λ ws. slice_set ws (fork + 3 - side) position.link) (c.in_ok-write-3.ensures.shown array
    ∙ ap (λ ws. slice_set ws (fork + 2 + side) leaf) (c.in_ok-write-2.ensures.shown array
    ∙ ap (λ ws. slice_set ws fork c.args.bit) (c.in_ok-write.ensures.shown array))))
    ∙ ap (λ s. slice_set (slice_set (slice_set (slice_set (slice_set old leaf c.args.key) fork c.args.bit) (fork + 2 + s) leaf) (fork + 3 - s) position.link) position.slot fork) c.side-side.ensures
