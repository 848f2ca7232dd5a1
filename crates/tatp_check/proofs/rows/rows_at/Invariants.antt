use Rattle.std.proofs.Common.{◌≡◌, map, take}
use Rattle.tatp_check.proofs.rows.rows_at.Given as goal

-- the rows of the records so far
abbrev pub invariant-loop-at : goal.invariant-loop-at
invariant-loop-at g l = l.rows.items ≡ map (g.R.RecordRow.row_in l.a) (take l.at-index l.records)
