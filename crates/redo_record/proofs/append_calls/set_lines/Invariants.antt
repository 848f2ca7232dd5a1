-- the lines of the cells gone over so far
use Rattle.std.proofs.Common.{◌≡◌, length, take}
use Rattle.dude_base.specs.Image.{cell_at}
use Rattle.redo_record.specs.Calls.{lines_from}
use Rattle.redo_record.proofs.append_calls.set_lines.Given as goal

abbrev pub invariant-loop-cell : goal.invariant-loop-cell
invariant-loop-cell l = record {
  size : length l.lines ≡ 32;
  before : take l.cell l.lines ≡ lines_from l.place (cell_at l.ring l.head) l.cell;
}
