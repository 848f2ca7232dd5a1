use Rattle.std.proofs.Common.{◌∙◌, arith}
use Rattle.std.proofs.lemmas.List.{length-set}
use Rattle.dude_base.specs.Image.{cell_at}
use Rattle.redo_record.proofs.RecordPairs.{lines_more}
use Rattle.redo_record.proofs.append_calls.set_lines.Goals as goal

pub loop-cell-preserved : goal.loop-cell-preserved
loop-cell-preserved c = record {
  size = length-set c.loop-cell.lines _ _ ∙ c.loop-cell.invariant.size;
  before = lines_more c.args.place.now (cell_at c.args.ring c.args.head) c.loop-cell.lines c.loop-cell.cell _ (omega arith) (omega arith) c.loop-cell.invariant.before;
}
