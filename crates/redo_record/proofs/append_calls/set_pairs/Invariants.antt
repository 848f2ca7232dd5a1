-- the pairs of the cells gone over so far
use Rattle.std.proofs.Common.{◌≡◌, ◌*◌, length, take, flat_map}
use Rattle.std.specs.List.{range_with_len}
use Rattle.dude_base.specs.Image.{cell_at}
use Rattle.redo_record.specs.Calls.{cell_writes}
use Rattle.redo_record.proofs.append_calls.set_pairs.Given as goal

abbrev pub invariant-loop-cell : goal.invariant-loop-cell
invariant-loop-cell l = record {
  size : length l.pairs ≡ 256;
  before : take (8 * l.cell) l.pairs ≡ flat_map (cell_writes l.place (cell_at l.ring l.head) l.b) (range_with_len 0 l.cell);
}
