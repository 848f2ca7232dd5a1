use Rattle.std.proofs.Common.{◌≡◌, ◌≤◌, take, vec_len}
use Rattle.std.specs.Vec.{vec_capacity}
use Rattle.redo_record.specs.BackCalls.{home_writes, lines_touched}
use Rattle.back_store.proofs.home_puts.line_list.Given as goal

-- the lines of the writes gone over
abbrev pub invariant-loop-k : goal.invariant-loop-k
invariant-loop-k l = record {
  lines : l.lines.items ≡ lines_touched (take l.k (home_writes l.place l.group.writes));
  few : vec_len l.lines ≤ l.k;
  capacity : vec_capacity l.lines ≡ vec_capacity l.initial.lines;
}
