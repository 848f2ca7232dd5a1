use Rattle.std.proofs.Common.{◌≡◌, ℕ, ◌<◌, length, get_or}
use Rattle.std.specs.Prelude.{slice_index}
use Rattle.dude_base.specs.declared.limits.TheConstants.{MAX_RINGS}
use Rattle.back_store.specs.Lane.{LaneState, IsFront}
use Rattle.back_store.proofs.fronts.fronts_at.Given as goal

-- the lanes gone over are done
abbrev pub invariant-loop-k : goal.invariant-loop-k
invariant-loop-k l = record {
  done : (j : ℕ) (d : LaneState) → j < l.k → IsFront (get_or l.lanes j d).waiting (slice_index l.fronts j) l.number;
  len : length l.fronts ≡ MAX_RINGS;
}
