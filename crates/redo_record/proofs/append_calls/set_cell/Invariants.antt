-- the words gone over so far stand behind the pairs before this cell
use Rattle.std.proofs.Common.{◌≡◌, ◌+◌, ◌*◌, ◌++◌, length, take}
use Rattle.std.specs.List.{enumerate_from}
use Rattle.redo_record.proofs.append_calls.set_cell.Given as goal

abbrev pub invariant-loop-j : goal.invariant-loop-j
invariant-loop-j l = record {
  size : length l.pairs ≡ 256;
  before : take (8 * l.cell + l.j) l.pairs ≡ take (8 * l.cell) l.fn.pairs ++ take l.j (enumerate_from l.start l.words);
}
