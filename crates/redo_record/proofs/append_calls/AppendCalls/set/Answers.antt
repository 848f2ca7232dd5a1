use Rattle.std.proofs.Common.{ℕ, ◌*◌, ◌-◌, take, drop, ap, ◌∙◌, arith}
use Rattle.dude_base.specs.Image.{cell_at}
use Rattle.redo_record.specs.Calls.{lines_from}
use Rattle.redo_record.proofs.RecordPairs.{hands_calls, lines_tag, pairs_body, pairs_tag}
use Rattle.redo_record.proofs.append_calls.AppendCalls.set.Goals as goal

pub returns-clause-body : goal.returns-clause-body
returns-clause-body c =
    ap (λ (n : ℕ). take (8 * n - 1) (drop 1 c.set_pairs.new.pairs)) c.cells_of-cells.ensures.cells
    ∙ pairs_body c.args.place.now (cell_at c.args.ring c.args.head) c.args.b.now (record { ring_is = c.requires.ring; slot_is = c.requires.head }) c.set_pairs.new.pairs c.set_pairs.ensures.pairs

pub returns-clause-lines : goal.returns-clause-lines
returns-clause-lines c = c.set_lines.ensures.lines ∙ ap (lines_from c.args.place.now (cell_at c.args.ring c.args.head)) c.cells_of-cells.ensures.cells

pub returns-clause-tag : goal.returns-clause-tag
returns-clause-tag c = pairs_tag c.args.place.now (cell_at c.args.ring c.args.head) c.args.b.now (record { ring_is = c.requires.ring; slot_is = c.requires.head }) c.set_pairs.new.pairs c.set_pairs.ensures.pairs

pub returns-clause-tag_line : goal.returns-clause-tag_line
returns-clause-tag_line c = lines_tag c.args.place.now (cell_at c.args.ring c.args.head) c.cells_of-cells.result c.set_lines.new.lines (record { ring_is = c.requires.ring; slot_is = c.requires.head }) c.cells_of-cells.ensures.some c.set_lines.ensures.lines

pub returns-clause-list : goal.returns-clause-list
returns-clause-list c =
    hands_calls (record { cell = record { ring_is = c.requires.ring; slot_is = c.requires.head }; body_is = returns-clause-body c; lines_are = returns-clause-lines c; tag_is = returns-clause-tag c; tag_line_is = returns-clause-tag_line c })

pub invariant_of-self : goal.invariant_of-self
invariant_of-self c = record { some = c.cells_of-cells.ensures.some; few = omega (arith, c.cells_of-cells.ensures.few); all_pairs = c.set_pairs.ensures.size; all_lines = c.set_lines.ensures.size }
