-- A record more waits in the lane of a ring.
use Rattle.std.proofs.Common.{◌≡◌, ℕ, ◌+◌, ◌*◌, ◌<◌, List, [], ◌∷◌, ◌++◌, All, length, get_or, set, refl, sym, ap, ◌∙◌, subst, inl, inr, ⊎_elim, arith, get_or-set_same, get_or-set_other, length-set, Bool, true, false, if◌then◌else◌, Result, Ok, Err, is_ok}
use Rattle.std.specs.Prelude.{◌↔◌, IsErrOf}
use Rattle.std.specs.List.{Contains}
use Rattle.std.proofs.lemmas.Bool.{cases_eq, cases_lt}
use Rattle.std.proofs.lemmas.List.{set-get_or}
use Rattle.std.proofs.lemmas.List.Elements.{All-push, Contains-push, Contains-push_cases, Contains-append_left}
use Rattle.dude_base.specs.declared.sizes.Sizes.{Sizes}
use Rattle.dude_base.specs.Records.{RedoBundle, Covers, HasNumbers, first_of}
use Rattle.redo_record.specs.AppendLaw.{CanAppend}
use Rattle.redo_record.specs.BackLaws.{CanPersist}
use Rattle.redo_record.specs.Record.{cells_for}
use Rattle.redo_record.specs.Waiting.{Waiting, AddsWaiting, AreDisjoint}
use Rattle.redo_record.proofs.WaitingRecords.{consecutive_up, lead_more}
use Rattle.log_ring.specs.Ring.{next_head}
use Rattle.log_ring.specs.declared.ring_fault.RingFault.{RingFault}
use Rattle.back_store.specs.Lane.{LaneState, IsLaneFull, used_by, with_redo}
use Rattle.back_store.specs.Lanes.{AreLanes, IsLaneOf, lane_at, no_lane, rings_of, waiting_in, waiting_of}
use Rattle.back_store.specs.Backlog.{BacklogState, IsLawful, log_of, with_record_in}
use Rattle.back_store.proofs.TakenCells.{used_push}
use Rattle.back_store.proofs.WaitingLanes.{waits_in, waits_on}

module _ (lanes : List LaneState) (ring : ℕ) (r : RedoBundle) (inside : ring < length lanes) where
  abbrev new_lanes : List LaneState
  new_lanes = set lanes ring (with_redo r (lane_at lanes ring))

  lane_new : (d : LaneState) → get_or new_lanes ring d ≡ with_redo r (lane_at lanes ring)
  lane_new d = get_or-set_same lanes ring (with_redo r (lane_at lanes ring)) d inside

  lane_old : (k : ℕ) (d : LaneState) → (k ≡ ring → ⊥) → get_or new_lanes k d ≡ get_or lanes k d
  lane_old k d apart = get_or-set_other lanes ring k (with_redo r (lane_at lanes ring)) d apart

  long : length new_lanes ≡ length lanes
  long = length-set lanes ring (with_redo r (lane_at lanes ring))

  -- the new list has just the old records and this one
  pub added_waiting : AddsWaiting (waiting_in ring r) (waiting_of lanes) (waiting_of new_lanes)
  added_waiting = record {
    one = waits_on new_lanes (waiting_in ring r) ring no_lane (omega (arith, long)) (omega arith) (rw (lane_new no_lane) (Contains-push (lane_at lanes ring).waiting r));
    others = λ v among.
        let at = waits_in 0 lanes v among in
        waits_on new_lanes v at.lane no_lane (let lt = at.within in omega (arith, long)) at.ring_is (elim (cases_eq at.lane ring) [
          | inl same ↦ rw (same, lane_new no_lane) (Contains-append_left (lane_at lanes ring).waiting (r ∷ []) v.redo (subst (λ k. Contains (get_or lanes k no_lane).waiting v.redo) same (at.among no_lane)))
          | inr apart ↦ rw (lane_old at.lane no_lane apart) (at.among no_lane)
        ]);
    only = λ v among.
        let at = waits_in 0 new_lanes v among in
        elim (cases_eq at.lane ring) [
          | inl same ↦
              let here : Contains ((lane_at lanes ring).waiting ++ r ∷ []) v.redo = subst (λ (u : LaneState). Contains u.waiting v.redo) (ap (λ k. get_or new_lanes k no_lane) same ∙ lane_new no_lane) (at.among no_lane) in
              let ring_is : v.ring ≡ ring = at.ring_is ∙ omega arith in
              ⊎_elim
              (λ old. inl (waits_on lanes v ring no_lane inside (ring_is ∙ omega arith) old))
              (λ new. inr (ap (λ n. waiting_in n v.redo) ring_is ∙ ap (waiting_in ring) (sym new)))
              (Contains-push_cases (lane_at lanes ring).waiting r v.redo here)
          | inr apart ↦ inl (waits_on lanes v at.lane no_lane (let lt = at.within in omega (arith, long)) at.ring_is (rw (lane_old at.lane no_lane apart) at (at.among no_lane)))
        ];
  }

  -- numbers stay distinct
  pub added_distinct : AreDisjoint (waiting_of lanes) → ((w : Waiting) (number : ℕ) → Contains (waiting_of lanes) w → Covers w.redo number → Covers r number → ⊥) → AreDisjoint (waiting_of new_lanes)
  added_distinct distinct new v w number one other covers too =
      ⊎_elim
      (λ old_v. ⊎_elim (λ old_w. distinct v w number old_v old_w covers too) (λ is_w. absurd (new v number old_v covers (subst (λ (u : Waiting). Covers u.redo number) is_w too))) (added_waiting.only w other))
      (λ is_v. ⊎_elim (λ old_w. absurd (new w number old_w too (subst (λ (u : Waiting). Covers u.redo number) is_v covers))) (λ is_w. is_v ∙ sym is_w) (added_waiting.only w other))
      (added_waiting.only v one)

  module _ (s : Sizes) (are : AreLanes s lanes) (left : IsLaneFull (lane_at lanes ring) r → ⊥) (number : HasNumbers r) (home : All (λ w. w.at < s.pages * 64) r.writes)
      (new : (w : Waiting) (number : ℕ) → Contains (waiting_of lanes) w → Covers w.redo number → Covers r number → ⊥) where
    added_lane : IsLaneOf s ring (with_redo r (lane_at lanes ring))
    added_lane =
        let old : IsLaneOf s ring (lane_at lanes ring) = are.each ring no_lane inside in
        record {
          sizes = old.sizes;
          ring_is = old.ring_is;
          used = (let u = used_push (lane_at lanes ring).waiting r in let cells : (lane_at lanes ring).ring.sizes.cells ≡ s.cells = ap (λ (t : Sizes). t.cells) old.sizes in elim (cases_lt (lane_at lanes ring).ring.sizes.cells (used_by (lane_at lanes ring).waiting + cells_for (length r.writes))) [ inl full ↦ absurd (left full) | inr le ↦ omega arith ]);
          numbers = All-push HasNumbers (lane_at lanes ring).waiting r old.numbers number;
          home = All-push (λ (q : RedoBundle). All (λ w. w.at < s.pages * 64) q.writes) (lane_at lanes ring).waiting r old.home home;
        }

    pub added_lanes : AreLanes s new_lanes
    added_lanes = record {
      count = long ∙ are.count;
      each = λ k d lt. elim (cases_eq k ring) [
        | inl same ↦ rw (same, lane_new d) added_lane
        | inr apart ↦ rw (lane_old k d apart) (are.each k d (omega (arith, long)))
      ];
      distinct = added_distinct are.distinct new;
    }

  pub added_over : (least : ℕ) → All (λ u. All (λ q. least < first_of q) u.waiting) lanes → least < first_of r → All (λ u. All (λ q. least < first_of q) u.waiting) new_lanes
  added_over least over up k d lt = elim (cases_eq k ring) [
    | inl same ↦ rw (same, lane_new d) (All-push (λ (q : RedoBundle). least < first_of q) (lane_at lanes ring).waiting r (over ring no_lane inside) up)
    | inr apart ↦ rw (lane_old k d apart) (over k d (omega (arith, long)))
  ]

-- the records that wait are lawful with one more
pub added_lawful : (v : BacklogState) (ring : ℕ) (r : RedoBundle) → IsLawful v → ring < v.sizes.rings → (IsLaneFull (lane_at v.lanes ring) r → ⊥) → HasNumbers r → All (λ w. w.at < v.sizes.pages * 64) r.writes
    → ((w : Waiting) (number : ℕ) → Contains (waiting_of v.lanes) w → Covers w.redo number → Covers r number → ⊥) → v.durable < first_of r → IsLawful (with_record_in ring r v)
added_lawful v ring r lawful below left number home new over =
    let inside : ring < length v.lanes = let count = lawful.lanes.count in omega arith in
    let adds = added_waiting v.lanes ring r inside in
    let up = consecutive_up v.reproduced v.durable lawful.led.records lawful.led.lead.consecutive in
    record {
      accepted = lawful.accepted;
      lanes = added_lanes v.lanes ring r inside v.sizes lawful.lanes left number home new;
      over = added_over v.lanes ring r inside v.reproduced lawful.over (omega arith);
      led = record { records = lawful.led.records; lead = lead_more adds lawful.led.lead };
      small = lawful.small;
    }

-- where a call succeeds, what its fault says isn't so
pub ok_not_full : (result : Result (Unit {0}) RingFault) (fault : RingFault) (P : Type 0) → is_ok result ≡ true → (IsErrOf result fault ↔ P) → P → ⊥
ok_not_full (Ok done) fault P ok full is = let bad = full.1 is in cc
ok_not_full (Err other) fault P ok full is = cc

-- the records that wait are lawful with the lane that an append leaves
pub lawful_after : (v : BacklogState) (ring : ℕ) (r : RedoBundle) (ok : Bool) (lane : LaneState) → IsLawful v → ring < v.sizes.rings → (ok ≡ true → IsLaneFull (lane_at v.lanes ring) r → ⊥) → HasNumbers r
    → All (λ w. w.at < v.sizes.pages * 64) r.writes → ((w : Waiting) (number : ℕ) → Contains (waiting_of v.lanes) w → Covers w.redo number → Covers r number → ⊥) → v.durable < first_of r
    → lane ≡ (if ok then with_redo r (lane_at v.lanes ring) else lane_at v.lanes ring) → IsLawful (record v { lanes = set v.lanes ring lane })
lawful_after v ring r true lane lawful below left number home new over is = rw is (added_lawful v ring r lawful below (left refl) number home new over)
lawful_after v ring r false lane lawful below left number home new over is = rw (is, set-get_or v.lanes ring no_lane) lawful

-- the record may be persisted where its lane isn't full
pub can_persist : (v : BacklogState) (ring : ℕ) (r : RedoBundle) (home : List ℕ) → IsLawful v → ring < v.sizes.rings
    → CanAppend (lane_at v.lanes ring).ring.sizes v.reproduced (lane_at v.lanes ring).ring.logged (next_head (lane_at v.lanes ring).ring) r
    → All (λ l. l.last < first_of r) (lane_at v.lanes ring).ring.logged → v.durable < first_of r → ((w : Waiting) (number : ℕ) → Contains (waiting_of v.lanes) w → Covers w.redo number → Covers r number → ⊥)
    → CanPersist (log_of v home) (next_head (lane_at v.lanes ring).ring) r
can_persist v ring r home lawful below can newest over new =
    let lane : LaneState = lane_at v.lanes ring in
    let old = lawful.lanes.each ring no_lane (let count = lawful.lanes.count in omega arith) in
    let logged : (rings_of v.lanes lane.ring.ring).logged ≡ lane.ring.logged = ap (λ k. (lane_at v.lanes k).ring.logged) old.ring_is in
    let up = consecutive_up v.reproduced v.durable lawful.led.records lawful.led.lead.consecutive in
    record {
      append = rw logged (subst (λ (t : Sizes). CanAppend t v.reproduced lane.ring.logged (next_head lane.ring) r) old.sizes can);
      newest = rw logged newest;
      over = omega arith;
      new = new;
    }
