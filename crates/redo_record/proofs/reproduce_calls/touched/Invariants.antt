-- the lines of the writes gone over
use Rattle.std.proofs.Common.{◌≤◌}
use Rattle.redo_record.specs.BackCalls.{home_writes}
use Rattle.redo_record.proofs.TouchedLines.{Touched}
use Rattle.redo_record.proofs.reproduce_calls.touched.Given as goal

abbrev pub invariant-loop-k : goal.invariant-loop-k
invariant-loop-k l = record {
  so_far : Touched (home_writes l.place l.writes) l.k l.wanted l.count l.found l.before;
  few : l.count ≤ l.k;
}
