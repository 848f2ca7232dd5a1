use Rattle.std.proofs.Common.{◌≡◌, map, vec_len}
use Rattle.std.specs.Vec.{vec_capacity}
use Rattle.std.specs.List.{range_with_len}
use Rattle.back_store.specs.Lane.{empty_lane}
use Rattle.back_store.proofs.backlog.empty_lanes.Given as goal

-- the lanes made so far
abbrev pub invariant-loop-ring : goal.invariant-loop-ring
invariant-loop-ring l = record {
  lanes : l.lanes.items ≡ map (empty_lane l.place) (range_with_len 0 l.ring);
  len : vec_len l.lanes ≡ l.ring;
  capacity : vec_capacity l.lanes ≡ l.rings;
}
