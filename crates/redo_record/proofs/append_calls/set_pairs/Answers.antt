use Rattle.std.proofs.Common.{◌≡◌, ◌+◌, ◌*◌, ◌++◌, List, ℕ, take, subst}
use Rattle.std.specs.List.{enumerate_from}
use Rattle.dude_base.specs.Image.{cell_at}
use Rattle.redo_record.proofs.RecordPairs.{cells_more}
use Rattle.redo_record.proofs.append_calls.set_pairs.Goals as goal

pub loop-cell-preserved : goal.loop-cell-preserved
loop-cell-preserved c = record {
  size = c.set_cell.ensures.size;
  before =
      cells_more c.args.place.now (cell_at c.args.ring c.args.head) c.args.b.now c.loop-cell.pairs c.set_cell.new.pairs c.loop-cell.cell c.start_after.result c.start_after.ensures.start c.loop-cell.invariant.before
      (subst (λ (words : List ℕ). take (8 * (c.loop-cell.cell + 1)) c.set_cell.new.pairs ≡ take (8 * c.loop-cell.cell) c.loop-cell.pairs ++ enumerate_from c.start_after.result words) c.encode.ensures c.set_cell.ensures.pairs);
}
