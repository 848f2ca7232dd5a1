-- A record is persisted: what every image is on the way, and what the medium keeps behind it.
use Rattle.std.proofs.Common.{◌≡◌, ℕ, ◌<◌, ◌≤◌, Bool, true, false, IsTrue, List, length, refl, sym, ap, ◌∙◌, subst, inl, inr, arith, if◌then◌else◌, eq-eqb, ne_eqb, Result, Ok, Err, get_or, get_or-set_same, get_or-set_other}
use Rattle.std.specs.Prelude.{◌↔◌, IsErrOf, OnOk}
use Rattle.std.proofs.lemmas.Bool.{cases_eq}
use Rattle.dude_base.specs.Image.{image_words}
use Rattle.dude_base.specs.Records.{RedoBundle}
use Rattle.pmem_trait.specs.Words.{AtLeast, after_all}
use Rattle.pmem_trait.specs.Sights.{Sight, state_now, CallsMade, AtEveryMoment}
use Rattle.pmem_trait.proofs.Laws.{made_keep, every_moment_here}
use Rattle.redo_record.specs.BackLaws.{AddsLogged, CanPersist, with_last}
use Rattle.redo_record.specs.AppendLaw.{logged_as}
use Rattle.redo_record.specs.LogState.{HoldsLog, RecoversAmong, RingRecords}
use Rattle.std.specs.List.{Contains}
use Rattle.dude_base.specs.Records.{Covers}
use Rattle.redo_record.specs.Waiting.{AddsWaiting, AreDisjoint, Waiting}
use Rattle.redo_record.proofs.Persisting.{persist_law}
use Rattle.redo_record.proofs.WaitingRecords.{waiting_law}
use Rattle.log_ring.specs.Ring.{next_head}
use Rattle.back_store.specs.Lane.{LaneState, with_redo}
use Rattle.back_store.specs.Lanes.{lane_at, no_lane, rings_of, waiting_in, waiting_of}
use Rattle.back_store.specs.Backlog.{IsLawful, log_of}
use Rattle.back_store.proofs.AddedRecords.{added_distinct, added_waiting}
use Rattle.back_store.specs.Back.{BackState, IsEnd, IsRingFull, home_now, ring_full}
use Rattle.back_store.specs.Answers.{CallsAnswered, answered, persist_calls, with_record}
use Rattle.back_store.specs.Images.{HomeStays, HoldsStore, StillHoldsStore, RecoversOnTheWay}
use Rattle.back_store.specs.declared.back_fault.BackFault.{BackFault}
use Rattle.back_store.specs.declared.back_fault.BackFault.TheVariants.{RingFull, Device, Dead}
use Rattle.back_store.proofs.KeptLogs.{told_upto, keeps_behind, home_behind, keeps_same, keeps_dead, images_here, alive_from}

abbrev ring_records : LaneState → RingRecords
ring_records u = record { logged = u.ring.logged; released = u.ring.released }

module _ (v : BackState) (ring : ℕ) (r : RedoBundle) (lawful : IsLawful v.log) (below : ring < v.log.sizes.rings) where
  inside : ring < length v.log.lanes
  inside = let count = lawful.lanes.count in omega arith

  head_ring : (lane_at v.log.lanes ring).ring.ring ≡ ring
  head_ring = (lawful.lanes.each ring no_lane inside).ring_is

  abbrev lane : LaneState
  lane = lane_at v.log.lanes ring

  abbrev new_lanes : List LaneState
  new_lanes = (with_record ring r v).log.lanes

  adds : AddsWaiting (record { ring = (lane_at v.log.lanes ring).ring.ring; redo = r }) (waiting_of v.log.lanes) (waiting_of (with_record ring r v).log.lanes)
  adds = subst (λ k. AddsWaiting (waiting_in k r) (waiting_of v.log.lanes) (waiting_of (with_record ring r v).log.lanes)) (sym head_ring) (added_waiting v.log.lanes ring r inside)

  -- the ring has the record, and the others are as they were
  logged : AddsLogged v.log.sizes (next_head (lane_at v.log.lanes ring).ring) r (rings_of v.log.lanes) (rings_of (with_record ring r v).log.lanes)
  logged k lt = elim (cases_eq k ring) [
    | inl same ↦
        ap ring_records (ap (λ i. get_or new_lanes i no_lane) same ∙ get_or-set_same v.log.lanes ring (with_redo r lane) no_lane inside)
        ∙ sym (ap (λ (b : Bool). if b then with_last (logged_as (next_head lane.ring) r) (rings_of v.log.lanes k) else rings_of v.log.lanes k) (eq-eqb k lane.ring.ring (same ∙ sym head_ring)) ∙ ap (λ i. with_last (logged_as (next_head lane.ring) r) (rings_of v.log.lanes i)) same)
    | inr apart ↦
        ap ring_records (get_or-set_other v.log.lanes ring k (with_redo r lane) no_lane apart)
        ∙ sym (ap (λ (b : Bool). if b then with_last (logged_as (next_head lane.ring) r) (rings_of v.log.lanes k) else rings_of v.log.lanes k) (ne_eqb k lane.ring.ring (λ same. apart (same ∙ head_ring))))
  ]

  -- an image that recovers without the record does so beside it
  recovers_beside : (before low high : ℕ) (home : List ℕ) (told image : List ℕ) → IsEnd v low → IsEnd (with_record ring r v) high → RecoversAmong (log_of v.log home) before low low told image
      → AreDisjoint (waiting_of (with_record ring r v).log.lanes) → RecoversAmong (log_of (with_record ring r v).log home) before low high told image
  recovers_beside before low high home told image one other is distinct =
      let up = waiting_law.added_end (record { ring = (lane_at v.log.lanes ring).ring.ring; redo = r }) (waiting_of v.log.lanes) (waiting_of (with_record ring r v).log.lanes) v.log.reproduced low high distinct adds one other in
      record {
        number = is.number;
        array = is.array;
        recovered = is.recovered;
        same_sizes = is.same_sizes;
        is_array = waiting_law.added_arrays (record { ring = (lane_at v.log.lanes ring).ring.ring; redo = r }) (waiting_of v.log.lanes) (waiting_of (with_record ring r v).log.lanes) v.log.reproduced is.number home is.array adds is.is_array;
        least = is.least;
        most = (let most = is.most in omega arith);
        floor = is.floor;
      }

  module _ (s t : Sight) (room : image_words v.log.sizes ≤ s.len) (alive : v.dead ≡ false) (can : (home : List ℕ) → CanPersist (log_of v.log home) (next_head (lane_at v.log.lanes ring).ring) r) where
    -- at each moment of the calls
    moments_made : {ok : Bool} → CallsMade (persist_calls v ring r) ok s t → (before low high : ℕ) → HoldsStore before v s → IsEnd v low → IsEnd (with_record ring r v) high
        → AtEveryMoment (RecoversAmong (log_of (with_record ring r v).log (home_now v.log.sizes s)) before low high) s t
    moments_made made before low high keeps one other = made_keep (RecoversAmong (log_of (with_record ring r v).log (home_now v.log.sizes s)) before low high) made (λ visible.
        (persist_law (log_of v.log (home_now v.log.sizes s)) (next_head lane.ring) r (rings_of new_lanes) (waiting_of new_lanes) (state_now s) (keeps.holds alive visible) (can (home_now v.log.sizes s)) logged adds).0
        s.len before low high room one other (told_upto before v low s lawful alive keeps visible one))

    module _ (before : ℕ) (keeps : HoldsStore before v s) (visible : IsTrue s.is_visible) where
      held : HoldsLog (log_of (with_record ring r v).log (home_now v.log.sizes s)) (after_all (persist_calls v ring r) (state_now s))
      held = (persist_law (log_of v.log (home_now v.log.sizes s)) (next_head lane.ring) r (rings_of new_lanes) (waiting_of new_lanes) (state_now s) (keeps.holds alive visible) (can (home_now v.log.sizes s)) logged adds).1

      told : (after_all (persist_calls v ring r) (state_now s)).told ≡ (state_now s).told
      told = (persist_law (log_of v.log (home_now v.log.sizes s)) (next_head lane.ring) r (rings_of new_lanes) (waiting_of new_lanes) (state_now s) (keeps.holds alive visible) (can (home_now v.log.sizes s)) logged adds).2

    keeps_made : CallsMade (persist_calls v ring r) true s t → StillHoldsStore v (with_record ring r v) s t
    keeps_made made before keeps = keeps_behind before (with_record ring r v) (home_now v.log.sizes s) made (held before keeps)
        (λ visible. subst (λ ns. AtLeast before ns v.log.durable) (sym (told before keeps visible)) (keeps.told alive visible))

    home_made : CallsMade (persist_calls v ring r) true s t → HomeStays v s t
    home_made made before keeps _ visible = home_behind (with_record ring r v) (home_now v.log.sizes s) made visible (held before keeps visible)

  abbrev Full : Result (Unit {0}) BackFault → Type 0
  Full result = IsErrOf result (ring_full v ring r) ↔ ((v.dead ≡ false) × IsRingFull v ring r)

  abbrev Can : Type 0
  Can = v.dead ≡ false → (home : List ℕ) → (IsRingFull v ring r → ⊥) → CanPersist (log_of v.log home) (next_head lane.ring) r

  abbrev Fresh : Type 0
  Fresh = (w : Waiting) (number : ℕ) → Contains (waiting_of v.log.lanes) w → Covers w.redo number → Covers r number → ⊥

  -- at each moment of a persist, by its answer
  pub persist_moments : (result : Result (Unit {0}) BackFault) (s t : Sight) → Fresh → image_words v.log.sizes ≤ s.len → CallsAnswered result (persist_calls v ring r) s t → Full result → (IsErrOf result Dead ↔ (v.dead ≡ true)) → Can
      → RecoversOnTheWay v (with_record ring r v) s t
  persist_moments (Ok done) s t fresh room calls full dead can before low high alive keeps one other =
      moments_made s t room alive (λ home. can alive home (λ is. let bad = full.1 (alive, is) in cc)) calls before low high keeps one other
  persist_moments (Err Device) s t fresh room calls full dead can before low high alive keeps one other =
      moments_made s t room alive (λ home. can alive home (λ is. let bad = full.1 (alive, is) in cc)) calls before low high keeps one other
  persist_moments (Err Dead) s t fresh room calls full dead can before low high alive keeps one other = absurd (let was = dead.0 refl in let both = sym was ∙ alive in cc)
  persist_moments (Err (RingFull used need)) s t fresh room calls full dead can before low high alive keeps one other =
      let P : List ℕ → List ℕ → Type 0 = RecoversAmong (log_of (with_record ring r v).log (home_now v.log.sizes s)) before low high in
      subst (λ u. AtEveryMoment P s u) (sym calls) (every_moment_here P (λ visible.
      let here = images_here before low v s lawful room alive keeps one visible in
      record { each = λ image is. recovers_beside before low high (home_now v.log.sizes s) (state_now s).told image one other (here.each image is) (added_distinct v.log.lanes ring r inside lawful.lanes.distinct fresh) }))

  -- behind it
  pub persist_keeps : (result : Result (Unit {0}) BackFault) (s t : Sight) → image_words v.log.sizes ≤ s.len → CallsAnswered result (persist_calls v ring r) s t → Full result → (IsErrOf result Dead ↔ (v.dead ≡ true)) → Can
      → StillHoldsStore v (answered result (λ done. with_record ring r v) v) s t
  persist_keeps (Ok done) s t room calls full dead can before keeps =
      let alive : v.dead ≡ false = alive_from v.dead (λ was. let bad = dead.1 was in cc) in
      keeps_made s t room alive (λ home. can alive home (λ is. let bad = full.1 (alive, is) in cc)) calls before keeps
  persist_keeps (Err Device) s t room calls full dead can before keeps = keeps_dead before (record v { dead = true }) t refl
  persist_keeps (Err Dead) s t room calls full dead can before keeps = keeps_same before v v s t refl calls keeps
  persist_keeps (Err (RingFull used need)) s t room calls full dead can before keeps = keeps_same before v v s t refl calls keeps

  pub persist_home : (result : Result (Unit {0}) BackFault) (s t : Sight) → image_words v.log.sizes ≤ s.len → CallsAnswered result (persist_calls v ring r) s t → Full result → Can → OnOk result (HomeStays v s t)
  persist_home (Ok done) s t room calls full can = λ before keeps alive visible.
      home_made s t room alive (λ home. can alive home (λ is. let bad = full.1 (alive, is) in cc)) calls before keeps alive visible
  persist_home (Err fault) s t room calls full can = tt
