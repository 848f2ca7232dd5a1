use Rattle.std.proofs.Common.{◌+◌, ◌≤◌, arith, length}
use Rattle.dude_base.specs.Joins.{places_of}
use Rattle.dude_base.proofs.Joining.{length-put_all}
use Rattle.stm_turns.proofs.gathering.Gathering.has_cells.Goals as goal

pub returns-then-cells_for-cells : goal.returns-then-cells_for-cells
returns-then-cells_for-cells c =
    let few : places_of c.args.self.now.bundle c.args.redo.now ≤ length c.args.self.now.bundle.writes + length c.args.redo.now.writes = length-put_all c.args.self.now.bundle.writes c.args.redo.now.writes in
    omega (arith, few, c.len.ensures, c.len-2.ensures, c.cells_for.ensures, c.if-cells_for-cells.true)
