use Rattle.std.proofs.Common.{◌≡◌, ◌∙◌, ◌*◌, ℕ, length, length-take, length-drop, ap, arith}
use Rattle.dude_io.specs.declared.line.Line.{Line}
use Rattle.dude_io.specs.FileWords.{words_of}
use Rattle.dude_io.specs.Line.{line_bytes, lines_spanned}
use Rattle.dude_io.proofs.Spans.{number_at, from_first, to_last, noted_more, between_more, filled}
use Rattle.dude_io.proofs.image_file.fill_span.Goals as goal

pub overflow_sub-start : goal.overflow_sub-start
overflow_sub-start c =
    let lines = c.args.lines.now in
    let some = c.requires.span.some in
    let first = number_at lines 0 c.index-lines-0.result (omega (arith, some)) in
    let here = ap (λ (line : Line). line.number) c.line-item.is in
    omega (arith, here, first, (from_first lines c.requires.span c.loop-line.line-index c.line-item.result c.loop-line-test.true).0)

pub slice_bounds-store-end : goal.slice_bounds-store-end
slice_bounds-store-end c =
    let lines = c.args.lines.now in
    let some = c.requires.span.some in
    let first = number_at lines 0 c.index-lines-0.result (omega (arith, some)) in
    let here = ap (λ (line : Line). line.number) c.line-item.is in
    omega (arith, here, first, c.requires.size, c.copy_lines.auto.into, c.loop-line.auto.into, to_last lines c.requires.span c.loop-line.line-index c.line-item.result c.loop-line-test.true, (from_first lines c.requires.span c.loop-line.line-index c.line-item.result c.loop-line-test.true).0)

pub loop-line-preserved : goal.loop-line-preserved
loop-line-preserved c =
    let lines = c.args.lines.now in
    let k = c.loop-line.line-index in
    let some = c.requires.span.some in
    let first = number_at lines 0 c.index-lines-0.result (omega (arith, some)) in
    let its = ap (λ (line : Line). line.number) c.line-item.is in
    let whole : length c.loop-line.into ≡ 64 * lines_spanned lines = c.loop-line.auto.into ∙ c.copy_lines.auto.into ∙ c.requires.size in
    let low = (from_first lines c.requires.span k c.line-item.result c.loop-line-test.true).0 in
    let last = to_last lines c.requires.span k c.line-item.result c.loop-line-test.true in
    let part = c.store.auto.into in
    let long : length c.store.new.into ≡ 64 = omega (arith, part, length-take {A = ℕ}, length-drop {A = ℕ}, its, first, whole, last, low) in
    record {
      noted = noted_more lines k c.line-item.result.number _ _ c.line-item.result c.loop-line.into c.store.new.into c.loop-line-test.true its c.requires.span first whole (omega arith) long (c.store.ensures ∙ ap line_bytes c.line-item.is) c.loop-line.invariant.noted;
      between = between_more lines k c.line-item.result.number _ _ c.line-item.result c.loop-line.into c.store.new.into c.loop-line-test.true its c.requires.span first whole (omega arith) long _ c.loop-line.invariant.between;
    }

pub returns : goal.returns
returns c =
    let lines = c.args.lines.now in
    let some = c.requires.span.some in
    filled lines c.loop-line.line-index _ (words_of c.args.words.now) c.loop-line.into c.loop-line-test.false (number_at lines 0 c.index-lines-0.result (omega (arith, some))) c.loop-line.invariant.noted c.loop-line.invariant.between
