use Rattle.std.proofs.Common.{◌≡◌, ◌*◌, ◌≤◌, ◌-◌, length}
use Rattle.dude_base.specs.declared.limits.TheConstants.{MAX_RINGS}
use Rattle.back_store.specs.Fronts.{AreFronts}
use Rattle.back_store.specs.HomeGroup.{AreLedWrites}
use Rattle.back_store.proofs.TakenCells.{taken_cells}
use Rattle.back_store.proofs.merge.gather.Given as goal

-- the writes gathered are those of records that lead to the number, and are among those taken
abbrev pub invariant-merge : goal.invariant-merge
invariant-merge l = record {
  len : length l.fronts ≡ MAX_RINGS;
  fronts : AreFronts l.lanes l.fronts l.end;
  led : AreLedWrites l.lanes l.from l.end l.group.taken;
  few : length l.group.taken ≤ 3 * taken_cells 0 l.lanes l.fronts;
  room : l.group.room ≡ l.fn.group.room;
  upto : l.end ≤ l.to;
}

abbrev pub decreases-merge : goal.decreases-merge
decreases-merge l = l.to - l.end
