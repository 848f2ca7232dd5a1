use Rattle.std.proofs.Common.{◌≡◌, ◌∙◌, ◌^◌, ◌<◌, ℕ, All, flat_map, length, subst, arith}
use Rattle.std.specs.List.{range_with_len}
use Rattle.std.specs.Int.{w64, to_le_bytes}
use Rattle.redo_record.specs.Record.{cells_for}
use Rattle.redo_record.specs.Encoding.{encoded}
use Rattle.dude_follow.proofs.AppendedBytes.{cell_more, words_more}
use Rattle.dude_follow.proofs.packet.write_packet.Goals as goal

pub loop-cell-preserved : goal.loop-cell-preserved
loop-cell-preserved c = record {
  bytes = cell_more (to_le_bytes w64) (encoded c.args.b.now) c.loop-cell.cell c.encode.new.into c.args.out.now.items c.loop-cell.out.items c.put_cell.new.out.items c.loop-cell.invariant.bytes c.put_cell.ensures.bytes c.encode.ensures;
  len = omega (arith, c.put_cell.ensures.len, c.loop-cell.invariant.len);
  capacity = c.put_cell.ensures.capacity ∙ c.loop-cell.invariant.capacity;
  small = words_more (λ word. word < 2 ^ 64) (encoded c.args.b.now) c.loop-cell.cell c.encode.new.into c.loop-cell.invariant.small c.put_cell.ensures.small c.encode.ensures;
}

pub returns-clause-words : goal.returns-clause-words
returns-clause-words c =
    let last : c.loop-cell.cell ≡ cells_for (length c.args.b.now.writes) = omega (arith, c.cells_for-cells.ensures.cells, c.len.ensures.len) in
    record {
      bundle = c.len.ensures.bundle;
      words = subst (λ (n : ℕ). All (λ word. word < 2 ^ 64) (flat_map (encoded c.args.b.now) (range_with_len 0 n))) last c.loop-cell.invariant.small;
    }
