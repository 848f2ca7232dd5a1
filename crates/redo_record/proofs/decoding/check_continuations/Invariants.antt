use Rattle.redo_record.specs.Decoding.{Continues}
use Rattle.redo_record.proofs.decoding.check_continuations.Given as goal

-- the cells before k are continuations
abbrev pub invariant-loop-k : goal.invariant-loop-k
invariant-loop-k l = Continues l.cells l.k
