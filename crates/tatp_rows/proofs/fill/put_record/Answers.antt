use Rattle.std.proofs.Common.{◌≡◌, ◌+◌, ◌%◌, ◌<◌, inl, inr, length, length-set, slice_index, slice_set, ◌∙◌, arith, get_or-set_other, get_or-set_same}
use Rattle.tatp_rows.specs.Filled.{record_at}
use Rattle.tatp_rows.specs.Filling.{key_of}
use Rattle.tatp_rows.proofs.ChainLists.{is_record}
use Rattle.tatp_rows.proofs.Inserted.{IsPlaced, filling_more}
use Rattle.tatp_rows.proofs.fill.put_record.Goals as goal

pub overflow_mul-at : goal.overflow_mul-at
overflow_mul-at c = omega (arith, c.requires.fits.pool.inside _ (is_record c.requires.index))

pub overflow_add-at : goal.overflow_add-at
overflow_add-at c = omega (arith, c.requires.fits.pool.inside _ (is_record c.requires.index))

pub overflow_add-words : goal.overflow_add-words
overflow_add-words c = omega (arith, c.requires.fits.pool.inside _ (is_record c.requires.index))

pub offset_bounds-words-at : goal.offset_bounds-words-at
offset_bounds-words-at c = omega (arith, c.requires.fits.pool.inside _ (is_record c.requires.index), c.requires.fits.pool.size)

pub bounds-words-at : goal.bounds-words-at
bounds-words-at c = omega (arith, c.requires.fits.pool.inside _ (is_record c.requires.index), c.requires.fits.pool.size)

pub put_entry-requires-clause-inside : goal.put_entry-requires-clause-inside
put_entry-requires-clause-inside c =
    let a = c.args.words.now in
    let at = record_at c.args.table.now.pool c.args.index in
    let link = c.args.table.now.at + key_of c.args.entry.now % c.args.table.now.buckets in
    let first = slice_set a (at + 1) (slice_index a link) in
    omega (arith, c.requires.fits.pool.inside _ (is_record c.requires.index), c.requires.room, length-set a (at + 1) (slice_index a link), length-set first link at)

pub returns : goal.returns
returns c =
    let a = c.args.words.now in
    let table = c.args.table.now in
    let entry = c.args.entry.now in
    let at = record_at table.pool c.args.index in
    let link = table.at + key_of entry % table.buckets in
    let b1 = slice_set a (at + 1) (slice_index a link) in
    let b2 = slice_set b1 link at in
    let put = c.put_entry.ensures in
    let there = is_record {pool = table.pool} c.requires.index in
    let inside = c.requires.fits.pool.inside at there in
    let links = c.requires.fits.records at there in
    let home : link < table.at + table.buckets = omega (arith, c.requires.fits.buckets) in
    let size1 : length b1 ≡ length a = length-set a (at + 1) (slice_index a link) in
    let placed : IsPlaced table c.args.index entry a c.put_entry.new.words = record {
      size = c.put_entry.auto.words ∙ length-set b1 link at ∙ size1;
      held = put.held;
      link = put.link ∙ get_or-set_other b1 link (at + 1) at 0 (omega (arith, links, home, c.requires.fits.pool.size)) ∙ get_or-set_same a (at + 1) (slice_index a link) 0 (omega (arith, inside, c.requires.fits.pool.size));
      first = put.others link (elim links [ inl before ↦ inr (omega (arith, before, home)) | inr behind ↦ inl (omega (arith, behind, c.requires.room)) ]) ∙ get_or-set_same b1 link at 0 (omega (arith, size1, c.requires.fits.links, home));
      others = λ i not_link apart.
          put.others i apart ∙ get_or-set_other b1 link i at 0 not_link ∙ get_or-set_other a (at + 1) i (slice_index a link) 0 (omega (arith, apart, c.requires.some));
    } in
    record { filling = λ entries initial is old. filling_more entries c.requires.fits c.requires.index c.requires.room is placed old }
