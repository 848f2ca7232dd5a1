use Rattle.std.proofs.Common.{◌-◌, length, arith}
use Rattle.dude_io.proofs.Spans.{number_at, from_first}
use Rattle.dude_io.proofs.image_file.lines_over.Goals as goal

pub overflow_sub-result-2 : goal.overflow_sub-result-2
overflow_sub-result-2 c =
    let lines = c.args.lines.now in
    let some = c.requires.some in
    let first = number_at lines 0 c.index-lines-0.result (omega (arith, some)) in
    omega (arith, first, (from_first lines c.requires (length lines - 1) c.index-lines-lines.result (omega (arith, some))).0)

pub returns-clause-over : goal.returns-clause-over
returns-clause-over c =
    let lines = c.args.lines.now in
    let some = c.requires.some in
    let first = number_at lines 0 c.index-lines-0.result (omega (arith, some)) in
    let last = number_at lines (length lines - 1) c.index-lines-lines.result (omega (arith, some)) in
    omega (arith, first, last, (from_first lines c.requires (length lines - 1) c.index-lines-lines.result (omega (arith, some))).0)

pub returns-clause-most : goal.returns-clause-most
returns-clause-most c =
    let lines = c.args.lines.now in
    let some = c.requires.some in
    let first = number_at lines 0 c.index-lines-0.result (omega (arith, some)) in
    omega (arith, first, (from_first lines c.requires (length lines - 1) c.index-lines-lines.result (omega (arith, some))).1)
