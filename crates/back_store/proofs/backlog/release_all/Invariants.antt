use Rattle.std.proofs.Common.{◌≡◌, ◌++◌, map, take, drop}
use Rattle.back_store.specs.Lane.{released_lane}
use Rattle.back_store.proofs.backlog.release_all.Given as goal

-- the lanes gone over have released their records
abbrev pub invariant-loop-lane : goal.invariant-loop-lane
invariant-loop-lane l = l.lane-items ≡ map (released_lane l.number) (take l.lane-index l.fn.lanes.items) ++ drop l.lane-index l.fn.lanes.items
