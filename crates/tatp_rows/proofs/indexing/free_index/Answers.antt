use Rattle.std.proofs.Common.{sym, ◌∙◌, subst}
use Rattle.record_heap.specs.Pool.{FitsPool}
use Rattle.tatp_layout.specs.Layout.{index_tree}
use Rattle.tatp_layout.proofs.Indexes.{no_tree, with_tree}
use Rattle.tatp_rows.proofs.IndexSteps.{fits_in, freed}
use Rattle.tatp_rows.proofs.indexing.free_index.Goals as goal

pub returns-in_default-clause-index : goal.returns-in_default-clause-index
returns-in_default-clause-index c = λ some. absurd (some (no_tree c.args.lay.now.index (index_tree c.args.lay.now) (sym c.index.ensures.tree ∙ c.in_default.is)))

pub finish-requires-clause-fits : goal.finish-requires-clause-fits
finish-requires-clause-fits c = subst (FitsPool c.in-Some.tree.leaves) (sym c.requires.size) (fits_in c.index.result c.in-Some.tree c.in-Some.is c.index.ensures.fits).leaves

pub finish-requires-2-clause-fits : goal.finish-requires-2-clause-fits
finish-requires-2-clause-fits c = subst (FitsPool c.in-Some.tree.inner) (sym (c.finish.auto.words ∙ c.requires.size)) (fits_in c.index.result c.in-Some.tree c.in-Some.is c.index.ensures.fits).inner

pub returns-clause-index : goal.returns-clause-index
returns-clause-index c = λ some.
    let s = c.args.lay.now in
    let there = with_tree s.index 0 0 (sym c.index.ensures.tree ∙ c.in-Some.is) in
    (freed s there.2 (fits_in c.index.result c.in-Some.tree c.in-Some.is c.index.ensures.fits) c.finish.ensures c.finish-2.ensures c.requires.zeros).0

pub returns-clause-others : goal.returns-clause-others
returns-clause-others c = λ i front.
    let s = c.args.lay.now in
    let there = with_tree s.index 0 0 (sym c.index.ensures.tree ∙ c.in-Some.is) in
    (freed s there.2 (fits_in c.index.result c.in-Some.tree c.in-Some.is c.index.ensures.fits) c.finish.ensures c.finish-2.ensures c.requires.zeros).1 i (front there.0)
