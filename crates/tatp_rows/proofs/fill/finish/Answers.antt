use Rattle.std.proofs.Common.{ℕ, ◌+◌, ◌-◌, ◌<◌, ◌≤◌, length-set, refl, ◌∙◌, arith, get_or-set_other}
use Rattle.record_heap.specs.declared.pool.Pool.{Pool}
use Rattle.record_heap.specs.Pool.{AreApart, FitsPool, IsRecord}
use Rattle.tatp_rows.specs.Filled.{record_at}
use Rattle.tatp_rows.proofs.Finished.{links_free, links_more}
use Rattle.tatp_rows.proofs.fill.finish.Goals as goal

-- a record stands below the words' number, apart from the header
module _ {pool : Pool} {n k : ℕ} (fits : FitsPool pool n) (below : k < pool.count) where
  there : IsRecord pool (record_at pool k)
  there = record { index = k; below = below; is = refl }

  inside : record_at pool k + pool.size ≤ n
  inside = fits.inside (record_at pool k) there

  apart : AreApart pool.base 2 (record_at pool k) pool.size
  apart = fits.apart (record_at pool k) there

pub free_record-requires : goal.free_record-requires
free_record-requires c = λ below. omega (arith, inside c.requires.fits below)

pub overflow_mul-at : goal.overflow_mul-at
overflow_mul-at c = omega (arith, inside c.requires.fits c.loop-k-test.true)

pub overflow_add-at : goal.overflow_add-at
overflow_add-at c = omega (arith, inside c.requires.fits c.loop-k-test.true)

pub free_record-requires-in-loop-k : goal.free_record-requires-in-loop-k
free_record-requires-in-loop-k c = λ below. omega (arith, inside c.requires.fits below)

pub overflow_add-words-in-loop-k : goal.overflow_add-words-in-loop-k
overflow_add-words-in-loop-k c = omega (arith, c.requires.fits.size, inside c.requires.fits c.loop-k-test.true)

pub offset_bounds-words-at : goal.offset_bounds-words-at
offset_bounds-words-at c = omega (arith, c.requires.fits.size, inside c.requires.fits c.loop-k-test.true)

pub bounds-words-at : goal.bounds-words-at
bounds-words-at c = omega (arith, c.requires.fits.size, inside c.requires.fits c.loop-k-test.true)

pub loop-k-preserved : goal.loop-k-preserved
loop-k-preserved c =
    let before = c.loop-k.invariant in
    let pool = c.args.pool.now in
    let k = c.loop-k.k in
    let value = c.free_record-in-loop-k.result in
    let end = inside c.requires.fits c.loop-k-test.true in
    let header = apart c.requires.fits c.loop-k-test.true in
    let wide = c.requires.fits.size in
    record {
      size = length-set c.loop-k.words (record_at pool k + 1) value ∙ before.size;
      first = get_or-set_other c.loop-k.words (record_at pool k + 1) pool.base value 0 (omega (arith, header, wide)) ∙ before.first;
      live = get_or-set_other c.loop-k.words (record_at pool k + 1) (pool.base + 1) value 0 (omega (arith, header, wide)) ∙ before.live;
      links = links_more pool c.loop-k.words c.args.rows k value (omega (arith, wide)) (omega (arith, end, before.size, wide)) c.free_record-in-loop-k.ensures before.links;
      others = λ i not_base not_live none.
          get_or-set_other c.loop-k.words (record_at pool k + 1) i value 0 (none k c.loop-k.auto.k (omega arith))
          ∙ before.others i not_base not_live (λ j from below. none j from (omega arith));
    }

pub returns : goal.returns
returns c =
    let done = c.loop-k.invariant in
    let pool = c.args.pool.now in
    record {
      free = links_free pool c.loop-k.words (pool.count - c.args.rows) c.args.rows pool.base (omega (arith, c.requires.few)) done.first (λ j from below. done.links j from (omega arith));
      live = done.live;
      others = λ i not_base not_live none. done.others i not_base not_live (λ j from below. none j from (omega (arith, c.loop-k.auto.k-end c.requires.few)));
    }
