-- How far each lane is taken, on the way through the waiting records in the order of their numbers.
use Rattle.std.specs.Prelude.{◌≢◌, ℕ, ◌<◌, List, All, length, slice_index, slice_index_or}
use Rattle.dude_base.specs.Records.{first_of}
use Rattle.back_store.specs.Lane.{LaneState, HasAt, IsFront}

-- of each lane just the records up to this number are taken
abbrev pub AreFronts : List LaneState → List ℕ → ℕ → Type 0
AreFronts lanes fronts number = (k : ℕ) (d : LaneState) → k < length lanes → IsFront (slice_index_or lanes k d).waiting (slice_index fronts k) number

-- the next bundle of this lane begins with this number
abbrev pub HasNext : List LaneState → List ℕ → ℕ → ℕ → Type 0
HasNext lanes fronts number k = (k < length lanes) × ((d : LaneState) → HasAt (slice_index_or lanes k d).waiting (slice_index fronts k) number)

-- no waiting bundle begins with this number
abbrev pub NoneHas : List LaneState → ℕ → Type 0
NoneHas lanes number = All (λ v. All (λ r. first_of r ≢ number) v.waiting) lanes
