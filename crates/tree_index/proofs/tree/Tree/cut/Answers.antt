use Rattle.std.proofs.Common.{arith}
use Rattle.tree_index.proofs.tree.Tree.cut.Goals as goal

pub overflow_add-over : goal.overflow_add-over
overflow_add-over g c = omega (arith, c.requires.fits.inner.inside _ c.requires.inner, c.requires.fits.inner_size, (g.met.W.Words.well_formed c.args.w.now).count)

pub read-requires : goal.read-requires
read-requires g c = record { inside = omega (arith, c.requires.fits.inner.inside _ c.requires.inner, c.requires.fits.inner_size) }
