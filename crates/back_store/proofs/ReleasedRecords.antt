-- The records up to a number wait no more.
use Rattle.std.proofs.Common.{◌≡◌, ℕ, zero, suc, ◌*◌, ◌<◌, ◌≤◌, nat_lt, Bool, true, List, [], ◌∷◌, All, length, map, get_or, ap, ◌∙◌, subst, inl, inr, ⊎_elim, ◌+◌, arith}
use Rattle.std.specs.List.{Contains, filter}
use Rattle.std.proofs.lemmas.Bool.{cases_Bool}
use Rattle.std.proofs.lemmas.Bool.Decides.{nat_tests}
use Rattle.std.proofs.lemmas.List.{get_or-map, length-map}
use Rattle.std.proofs.lemmas.List.Elements.{All-filter, All-contains, filter_passes, Contains-append_right, Contains-get_or, All-contains_itself}
use Rattle.std.proofs.lemmas.List.Sums.{sum_by-append}
use Rattle.dude_base.specs.declared.sizes.Sizes.{Sizes}
use Rattle.dude_base.specs.Records.{RedoBundle, HasNumbers, first_of}
use Rattle.redo_record.specs.Record.{cells_for}
use Rattle.redo_record.specs.Waiting.{Waits, AreDisjoint, KeepsOver}
use Rattle.redo_record.proofs.RingRoom.{all_rest}
use Rattle.redo_record.proofs.WaitingRecords.{beside_end, consecutive_over, split}
use Rattle.back_store.specs.Lane.{LaneState, used_by, released_lane}
use Rattle.back_store.specs.Lanes.{AreLanes, AreLed, no_lane, waiting_in, waiting_of}
use Rattle.back_store.specs.Backlog.{BacklogState, IsLawful, without_records_to}
use Rattle.back_store.proofs.WaitingLanes.{in_lane, waits_in, waits_on}

abbrev over : ℕ → RedoBundle → Bool
over n r = nat_lt n r.last

contains_filter : (n : ℕ) (rs : List RedoBundle) (r : RedoBundle) → Contains rs r → n < r.last → Contains (filter (over n) rs) r
contains_filter n [] r (k, lt, is) up = absurd (omega arith)
contains_filter n (q ∷ rs) r (zero, lt, is) up =
    let test : nat_lt n q.last ≡ true = ap (λ (t : RedoBundle). nat_lt n t.last) is ∙ grind (arith, nat_tests) in
    rw test (0, omega arith, is)
contains_filter n (q ∷ rs) r (suc k, lt, is) up =
    let rest = contains_filter n rs r (k, omega arith, is) up in
    elim (cases_Bool (nat_lt n q.last)) [
      | inl yes_over ↦ rw yes_over (Contains-append_right (q ∷ []) (filter (over n) rs) r rest)
      | inr not_over ↦ rw not_over rest
    ]

from_filter : (n : ℕ) (rs : List RedoBundle) (r : RedoBundle) → Contains (filter (over n) rs) r → Contains rs r × (n < r.last)
from_filter n rs r among = (
  All-contains (Contains rs) (filter (over n) rs) r (All-filter (over n) (Contains rs) rs (All-contains_itself rs)) among,
  (let yes : nat_lt n r.last ≡ true = All-contains (λ (q : RedoBundle). over n q ≡ true) (filter (over n) rs) r (filter_passes (over n) rs) among in grind (arith, nat_tests)),
)

used_filter : (n : ℕ) (rs : List RedoBundle) → used_by (filter (over n) rs) ≤ used_by rs
used_filter n [] = omega arith
used_filter n (r ∷ rs) =
    let rest = used_filter n rs in
    let split = sum_by-append (λ (r : RedoBundle). cells_for (length r.writes)) (r ∷ []) rs in
    let kept = sum_by-append (λ (r : RedoBundle). cells_for (length r.writes)) (r ∷ []) (filter (over n) rs) in
    elim (cases_Bool (nat_lt n r.last)) [
      | inl yes_over ↦ rw yes_over (omega arith)
      | inr not_over ↦ rw not_over (omega arith)
    ]

module _ (n : ℕ) (lanes : List LaneState) where
  abbrev released : List LaneState
  released = map (released_lane n) lanes

  long : length released ≡ length lanes
  long = length-map lanes (released_lane n)

  pub lane_released : (k : ℕ) (d e : LaneState) → k < length lanes → get_or released k d ≡ released_lane n (get_or lanes k e)
  lane_released k d e lt = get_or-map (released_lane n) lanes k e d lt

  -- the new list has just the old records over the number
  pub released_waiting : KeepsOver n (waiting_of lanes) (waiting_of released)
  released_waiting = record {
    kept = λ w among up.
        let at = waits_in 0 lanes w among in
        waits_on released w at.lane no_lane (let lt = at.within in omega (arith, long)) at.ring_is
        (rw (lane_released at.lane no_lane no_lane at.within) (contains_filter n (get_or lanes at.lane no_lane).waiting w.redo (at.among no_lane) up));
    only = λ w among.
        let at = waits_in 0 released w among in
        let lt : at.lane < length lanes = let within = at.within in omega (arith, long) in
        let here : Contains (filter (over n) (get_or lanes at.lane no_lane).waiting) w.redo = rw (lane_released at.lane no_lane no_lane lt) at (at.among no_lane) in
        let both = from_filter n (get_or lanes at.lane no_lane).waiting w.redo here in
        (waits_on lanes w at.lane no_lane lt at.ring_is both.0, both.1);
  }

  released_distinct : AreDisjoint (waiting_of lanes) → AreDisjoint (waiting_of released)
  released_distinct distinct v w number one other covers too = distinct v w number (released_waiting.only v one).0 (released_waiting.only w other).0 covers too

  pub released_lanes : (s : Sizes) → AreLanes s lanes → AreLanes s released
  released_lanes s are = record {
    count = long ∙ are.count;
    each = λ k d lt.
        let below : k < length lanes = omega (arith, long) in
        let old = are.each k d below in
        let ws : List RedoBundle = (get_or lanes k d).waiting in
        rw (lane_released k d d below) (record {
          sizes = old.sizes;
          ring_is = old.ring_is;
          used = (let few = used_filter n ws in let used = old.used in omega arith);
          numbers = All-filter (over n) HasNumbers ws old.numbers;
          home = All-filter (over n) (λ (r : RedoBundle). All (λ w. w.at < s.pages * 64) r.writes) ws old.home;
        });
    distinct = released_distinct are.distinct;
  }

  -- where bundles lead to the number, those over it begin over it
  pub released_over : (from : ℕ) → AreDisjoint (waiting_of lanes) → AreLed lanes from n → All (λ u. All (λ r. from < first_of r) u.waiting) lanes → All (λ u. All (λ r. n < first_of r) u.waiting) released
  released_over from distinct led begin k d lt =
      let below : k < length lanes = omega (arith, long) in
      let ws : List RedoBundle = (get_or lanes k d).waiting in
      rw (lane_released k d d below) (λ i e il.
      let r : RedoBundle = get_or (filter (over n) ws) i e in
      let both = from_filter n ws r (Contains-get_or (filter (over n) ws) i e il) in
      let first : from < first_of r = All-contains (λ (q : RedoBundle). from < first_of q) ws r (begin k d below) both.0 in
      ⊎_elim (λ (begins : n < first_of r). begins) (λ (ends : r.last ≤ n). absurd (let past = both.1 in omega arith))
      (beside_end distinct led.lead (waiting_in (0 + k) r) (in_lane 0 lanes k d r below both.0) first))

  -- those that lead further still do
  pub released_led : (from to : ℕ) → AreDisjoint (waiting_of lanes) → AreLed lanes from n → AreLed lanes from to → n ≤ to → AreLed released n to
  released_led from to distinct one other le =
      let rest = split distinct from n to one.records other.records one.lead.wait other.lead.wait one.lead.consecutive other.lead.consecutive le in
      let wait : All (Waits (waiting_of lanes)) rest.rest = all_rest (Waits (waiting_of lanes)) one.records rest.rest (subst (All (Waits (waiting_of lanes))) rest.whole other.lead.wait) in
      let up : All (λ r. n < r.last) rest.rest = consecutive_over n to rest.rest rest.consecutive in
      record {
        records = rest.rest;
        lead = record {
          wait = λ k d lt. let w = wait k d lt in record { ring = w.ring; is_one = released_waiting.kept (waiting_in w.ring (get_or rest.rest k d)) w.is_one (up k d lt) };
          consecutive = rest.consecutive;
        };
      }

-- the records that wait are lawful without those up to an end
pub released_lawful : (v : BacklogState) (n : ℕ) → IsLawful v → AreLed v.lanes v.reproduced n → n ≤ v.durable → IsLawful (without_records_to n v)
released_lawful v n lawful led high = record {
  accepted = lawful.accepted;
  lanes = released_lanes n v.lanes v.sizes lawful.lanes;
  over = released_over n v.lanes v.reproduced lawful.lanes.distinct led lawful.over;
  led = released_led n v.lanes v.reproduced v.durable lawful.lanes.distinct led lawful.led high;
  small = lawful.small;
}
