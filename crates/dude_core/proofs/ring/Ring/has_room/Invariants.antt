use Rattle.std.proofs.Common.{◌≡◌, ◌+◌, take}
use Rattle.redo_record.specs.Fits.{cells_used}
use Rattle.dude_core.proofs.ring.Ring.has_room.Given as goal

abbrev pub invariant-loop-bundle : goal.invariant-loop-bundle
invariant-loop-bundle l = cells_used (take l.bundle-index l.bundle-items) + l.left ≡ l.cells
