use Rattle.std.proofs.Common.{◌<◌, get_or, ap, arith}
use Rattle.std.proofs.lemmas.List.{get_or_default}
use Rattle.dude_io.specs.declared.line.Line.{Line}
use Rattle.dude_io.proofs.Spans.{span_more, bounds_more}
use Rattle.dude_io.proofs.image_file.span_length.Goals as goal

pub loop-count-preserved : goal.loop-count-preserved
loop-count-preserved c =
    let lines = c.args.lines.now in
    let count = c.loop-count.count in
    let kept = c.loop-count.invariant in
    let near = c.is_near.ensures c.if-is_near.true in
    let new = c.index-lines-count-in-loop-count.result in
    let same = ap (λ (line : Line). line.number) (get_or_default lines count c.index-lines-count.result new c.loop-count-test.true) in
    let behind : c.loop-count.last < (get_or lines count new).number = omega (arith, near.0, same) in
    record {
      within = omega (arith, c.loop-count-test.true);
      ordered = omega (arith, kept.ordered, behind);
      bounds = bounds_more lines count _ _ new c.loop-count-test.true kept.bounds kept.ordered behind;
      span = span_more lines count _ _ new c.loop-count-test.true kept.span kept.bounds behind (omega (arith, near.1, same));
    }
