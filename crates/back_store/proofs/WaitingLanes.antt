-- The records that wait in lanes, by their lane.
use Rattle.std.proofs.Common.{◌≡◌, ℕ, zero, suc, ◌+◌, ◌<◌, List, [], ◌∷◌, length, map, get_or, sym, ap, inl, inr, ◌∙◌, subst, ⊎_elim, arith}
use Rattle.std.specs.List.{Contains}
use Rattle.std.proofs.lemmas.Bool.{cases_lt}
use Rattle.std.proofs.lemmas.List.{get_or-map, get_or_past, length-map}
use Rattle.std.proofs.lemmas.List.Elements.{Contains-append_left, Contains-append_right, Contains-append_cases, All-contains}
use Rattle.dude_base.specs.Records.{RedoBundle, first_of}
use Rattle.redo_record.specs.Waiting.{Waiting, Waits}
use Rattle.back_store.specs.Lane.{LaneState}
use Rattle.back_store.specs.Lanes.{lane_at, no_lane, waiting_in, waiting_from, waiting_of}
use Rattle.back_store.specs.Fronts.{NoneHas}

contains_map : (ring : ℕ) (rs : List RedoBundle) (r : RedoBundle) → Contains rs r → Contains (map (waiting_in ring) rs) (waiting_in ring r)
contains_map ring rs r (k, lt, is) = (k, omega (arith, length-map rs (waiting_in ring)), get_or-map (waiting_in ring) rs k r (waiting_in ring r) lt ∙ ap (waiting_in ring) is)

-- a record of a lane waits
pub in_lane : (ring : ℕ) (lanes : List LaneState) (k : ℕ) (d : LaneState) (r : RedoBundle) → k < length lanes → Contains (get_or lanes k d).waiting r → Contains (waiting_from ring lanes) (waiting_in (ring + k) r)
in_lane ring [] k d r lt among = absurd (omega arith)
in_lane ring (v ∷ vs) zero d r lt among =
    subst (λ n. Contains (waiting_from ring (v ∷ vs)) (waiting_in n r)) (omega arith)
    (Contains-append_left (map (waiting_in ring) v.waiting) (waiting_from (ring + 1) vs) (waiting_in ring r) (contains_map ring v.waiting r among))
in_lane ring (v ∷ vs) (suc k) d r lt among =
    subst (λ n. Contains (waiting_from ring (v ∷ vs)) (waiting_in n r)) (omega arith)
    (Contains-append_right (map (waiting_in ring) v.waiting) (waiting_from (ring + 1) vs) (waiting_in ((ring + 1) + k) r) (in_lane (ring + 1) vs k d r (omega arith) among))

-- The record waits in one of the lanes.
pub record WaitsIn (ring : ℕ) (lanes : List LaneState) (w : Waiting) : Type 0 where
  pub lane : ℕ
  pub within : lane < length lanes
  pub ring_is : w.ring ≡ ring + lane
  pub among : (d : LaneState) → Contains (get_or lanes lane d).waiting w.redo

from_map : (ring : ℕ) (rs : List RedoBundle) (w : Waiting) → Contains (map (waiting_in ring) rs) w → (w.ring ≡ ring) × Contains rs w.redo
from_map ring rs w (k, lt, is) =
    let within : k < length rs = omega (arith, length-map rs (waiting_in ring)) in
    let at : w ≡ waiting_in ring (get_or rs k w.redo) = sym is ∙ get_or-map (waiting_in ring) rs k w.redo w within in
    (ap (λ (u : Waiting). u.ring) at, (k, within, sym (ap (λ (u : Waiting). u.redo) at)))

pub waits_in : (ring : ℕ) (lanes : List LaneState) (w : Waiting) → Contains (waiting_from ring lanes) w → WaitsIn ring lanes w
waits_in ring [] w (k, lt, is) = absurd (omega arith)
waits_in ring (v ∷ vs) w among = ⊎_elim
    (λ here. let both = from_map ring v.waiting w here in record { lane = 0; within = omega arith; ring_is = both.0 ∙ omega arith; among = λ d. both.1 })
    (λ there.
    let rest = waits_in (ring + 1) vs w there in
    record { lane = suc rest.lane; within = (let lt = rest.within in omega arith); ring_is = rest.ring_is ∙ omega arith; among = rest.among })
    (Contains-append_cases (map (waiting_in ring) v.waiting) (waiting_from (ring + 1) vs) w among)

-- a record of a lane is one of those that wait
pub waits_at : (lanes : List LaneState) (k : ℕ) (d : LaneState) (r : RedoBundle) → k < length lanes → Contains (get_or lanes k d).waiting r → Waits (waiting_of lanes) r
waits_at lanes k d r lt among = record { ring = 0 + k; is_one = in_lane 0 lanes k d r lt among }

-- where no lane has a record of this number none waits
pub none_waits : (lanes : List LaneState) (number : ℕ) → NoneHas lanes number → (w : Waiting) → Contains (waiting_of lanes) w → first_of w.redo ≡ number → ⊥
none_waits lanes number none w among =
    let at = waits_in 0 lanes w among in
    All-contains (λ (r : RedoBundle). first_of r ≡ number → ⊥) (get_or lanes at.lane no_lane).waiting w.redo (none at.lane no_lane at.within) (at.among no_lane)

-- a record of the lane of its ring waits
pub waits_on : (lanes : List LaneState) (w : Waiting) (k : ℕ) (d : LaneState) → k < length lanes → w.ring ≡ 0 + k → Contains (get_or lanes k d).waiting w.redo → Contains (waiting_of lanes) w
waits_on lanes w k d lt ring_is among = subst (λ n. Contains (waiting_of lanes) (waiting_in n w.redo)) (sym ring_is) (in_lane 0 lanes k d w.redo lt among)

-- a record of a ring waits
pub waits_of_ring : (lanes : List LaneState) (ring : ℕ) (r : RedoBundle) → Contains (lane_at lanes ring).waiting r → Contains (waiting_of lanes) (waiting_in ring r)
waits_of_ring lanes ring r among = elim (cases_lt ring (length lanes)) [
  | inl lt ↦ waits_on lanes (waiting_in ring r) ring no_lane lt (omega arith) among
  | inr past ↦ absurd (no_element r (subst (λ (v : LaneState). Contains v.waiting r) (get_or_past lanes ring no_lane past) among))
]
  where
    no_element : (r : RedoBundle) → Contains [] r → ⊥
    no_element r (k, lt, is) = absurd (omega arith)
