use Rattle.std.proofs.Common.{◌≡◌, ◌-◌, ◌≤◌, length}
use Rattle.dude_base.specs.declared.limits.TheConstants.{MAX_RINGS}
use Rattle.back_store.specs.Fronts.{AreFronts}
use Rattle.back_store.specs.Lanes.{AreLed}
use Rattle.back_store.proofs.merge.last_end.Given as goal

-- waiting records lead to the end, and those up to it are taken
abbrev pub invariant-merge : goal.invariant-merge
invariant-merge l = record {
  len : length l.fronts ≡ MAX_RINGS;
  fronts : AreFronts l.lanes l.fronts l.end;
  led : AreLed l.lanes l.from l.end;
  small : l.end ≤ l.near;
}

abbrev pub decreases-merge : goal.decreases-merge
decreases-merge l = l.near - l.end
