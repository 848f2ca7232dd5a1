use Rattle.std.proofs.Common.{◌≢◌, ℕ, ◌+◌, ◌<◌, All, get_or}
use Rattle.dude_base.specs.Records.{first_of}
use Rattle.back_store.specs.Lane.{LaneState}
use Rattle.back_store.proofs.fronts.next_lane.Given as goal

-- no lane gone over has the number
abbrev pub invariant-loop-k : goal.invariant-loop-k
invariant-loop-k l = (j : ℕ) (d : LaneState) → j < l.k → All (λ r. first_of r ≢ l.number + 1) (get_or l.lanes j d).waiting
