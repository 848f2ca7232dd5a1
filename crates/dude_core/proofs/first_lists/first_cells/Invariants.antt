use Rattle.std.proofs.Common.{◌≡◌, take}
use Rattle.dude_core.proofs.first_lists.first_cells.Given as goal

abbrev pub invariant-loop-at : goal.invariant-loop-at
invariant-loop-at l = l.cells.items ≡ take l.at l.z.opening
