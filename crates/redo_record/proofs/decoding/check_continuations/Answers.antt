use Rattle.std.proofs.Common.{arith}
use Rattle.redo_record.proofs.ReadCells.{slice_continues}
use Rattle.redo_record.proofs.decoding.check_continuations.Goals as goal
use Rattle.redo_record.proofs.decoding.check_continuations.Goals.{then-cells-k-via-then-cells-k, then-cells-k-via-else-cells-k+then-cells-k-2}

pub returns-then-cells-k-clause-bad : goal.returns-then-cells-k-clause-bad
returns-then-cells-k-clause-bad c slice =
    let next = slice_continues c.args.cells.now c.args.count c.loop-k.k c.requires slice (omega arith) (omega arith) in
    elim c.then-cells-k.branch [ then-cells-k-via-then-cells-k w ↦ omega (arith, next.0) | then-cells-k-via-else-cells-k+then-cells-k-2 w ↦ omega (arith, next.1) ]
