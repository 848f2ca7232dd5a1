-- The lanes of a log, one for each ring, and the records that wait in them.
use Rattle.std.specs.Prelude.{◌≡◌, ℕ, ◌+◌, ◌*◌, ◌<◌, ◌≤◌, List, [], ◌∷◌, ◌++◌, All, length, map, slice_index_or}
use Rattle.std.specs.List.{range_with_len}
use Rattle.dude_base.specs.declared.limits.TheConstants.{PAGE}
use Rattle.dude_base.specs.declared.sizes.Sizes.{Sizes}
use Rattle.dude_base.specs.Records.{RedoBundle, HasNumbers}
use Rattle.redo_record.specs.Waiting.{Waiting, Lead, AreDisjoint}
use Rattle.redo_record.specs.LogState.{RingRecords}
use Rattle.back_store.specs.Lane.{LaneState, empty_lane, used_by}

-- a record that waits in this ring
abbrev pub waiting_in : ℕ → RedoBundle → Waiting
waiting_in ring r = record { ring = ring; redo = r }

-- the records that wait in these lanes, the first of which has this number
abbrev pub waiting_from : ℕ → List LaneState → List Waiting
waiting_from ring [] = []
waiting_from ring (v ∷ vs) = map (waiting_in ring) v.waiting ++ waiting_from (ring + 1) vs

-- the records that wait in all lanes, each with the ring of its lane
abbrev pub waiting_of : List LaneState → List Waiting
waiting_of lanes = waiting_from 0 lanes

-- the lanes of all rings, with no records
abbrev pub lanes_at_start : Sizes → List LaneState
lanes_at_start s = map (empty_lane s) (range_with_len 0 s.rings)

-- a lane that no log has
abbrev pub no_lane : LaneState
no_lane = empty_lane (record { subscribers = 0; calls = 0; rings = 0; cells = 0; pages = 0; index = 0 }) 0

-- the lane of a ring
abbrev pub lane_at : List LaneState → ℕ → LaneState
lane_at lanes ring = slice_index_or lanes ring no_lane

-- what each ring has
abbrev pub rings_of : List LaneState → ℕ → RingRecords
rings_of lanes ring = record { logged = (lane_at lanes ring).ring.logged; released = (lane_at lanes ring).ring.released }

-- The lane is that of a ring of this number. Its records write home words, and take no more cells than there are.
pub record IsLaneOf (s : Sizes) (ring : ℕ) (v : LaneState) : Type 0 where
  pub sizes : v.ring.sizes ≡ s
  pub ring_is : v.ring.ring ≡ ring
  pub used : used_by v.waiting ≤ s.cells
  pub numbers : All HasNumbers v.waiting
  pub home : All (λ r. All (λ w. w.at < s.pages * PAGE) r.writes) v.waiting

-- There is a lane for each ring, and no two waiting bundles cover one number.
pub record AreLanes (s : Sizes) (lanes : List LaneState) : Type 0 where
  pub count : length lanes ≡ s.rings
  pub each : (k : ℕ) (d : LaneState) → k < length lanes → IsLaneOf s k (slice_index_or lanes k d)
  pub distinct : AreDisjoint (waiting_of lanes)

-- Waiting records lead from one number to another.
pub record AreLed (lanes : List LaneState) (from to : ℕ) : Type 0 where
  pub records : List RedoBundle
  pub lead : Lead (waiting_of lanes) from records to
