-- The numbers of a thread's records rise, in its boxes and in its ring.
use Rattle.std.proofs.Common.{◌≡◌, ℕ, ◌+◌, ◌<◌, ◌≤◌, List, [], ◌∷◌, All, length, map, get_or, sym, ap, ◌∙◌, subst, inl, inr, ⊎_elim, eq-eqb, ne_eqb, arith, false}
use Rattle.std.specs.List.{Contains}
use Rattle.std.proofs.lemmas.List.Elements.{All-contains}
use mathlib.Core.Logic.{dite}
use native.Mathlib.Decide.{ℕ_discrete, dec_le}
use Rattle.dude_base.specs.declared.limits.TheConstants.{MAX_NUMBER}
use Rattle.dude_base.specs.Records.{HasNumbers, RedoBundle, first_of}
use Rattle.back_store.specs.Lane.{released_lane, used_by}
use Rattle.back_store.specs.Lanes.{lane_at, no_lane, waiting_in}
use Rattle.back_store.proofs.ReleasedRecords.{released_waiting}
use Rattle.back_store.proofs.WaitingLanes.{waits_in, waits_of_ring}
use Rattle.back_store.specs.Back.{BackState, IsRingFull, waiting_of_ring}
use Rattle.back_store.specs.Answers.{announced, reproduced}
use Rattle.stm_slots.specs.KnownLists.{LawfulLists, lists}
use Rattle.stm_slots.proofs.Lawful.{waits_over}
use Rattle.dude_base.specs.Records.{RedoRecord}
use Rattle.stm_slots.proofs.Taken.{contains_here}
use Rattle.back_store.specs.Lane.{LaneState, with_redo}
use Rattle.std.proofs.Common.{get_or-set_same}
use Rattle.std.proofs.lemmas.List.Elements.{Contains-push}
use Rattle.std.specs.Prelude.{◌↔◌}
use Rattle.std.specs.Prelude.{Result, Ok, Err, IfErr, IsErrOf, OnOk}
use Rattle.back_store.specs.declared.back_fault.BackFault.{BackFault}
use Rattle.back_store.specs.declared.back_fault.BackFault.TheVariants.{RingFull, Device, Dead}
use Rattle.back_store.specs.Back.{IsPersistFault, ring_full}
use Rattle.back_store.specs.Answers.{after_persist}
use Rattle.redo_record.specs.Record.{cells_for}
use Rattle.back_store.specs.Answers.{with_record}
use Rattle.stm_turns.specs.Bundles.{FoundFull}
use Rattle.stm_turns.specs.Turns.{IsPast, KeepsPast, RisesTo}

-- where cells are used something waits
some_waits : (xs : List RedoBundle) → 0 < used_by xs → (q : RedoBundle) × Contains xs q
some_waits [] pos = absurd (omega arith)
some_waits (x ∷ xs) pos = (x, contains_here x xs)

module _ (first : ℕ) (v : BackState) (rs : List RedoRecord) (lawful : LawfulLists first (lists v rs)) where
  -- a number that is past is one that a record may have
  pub past_small : (thread n : ℕ) → thread < length v.log.lanes → IsPast v thread n → n ≤ MAX_NUMBER
  past_small thread n inside past = ⊎_elim
      (λ low. let s = lawful.log.small in omega arith)
      (λ w. let h = All-contains HasNumbers (waiting_of_ring v thread) w.0 (lawful.log.lanes.each thread no_lane inside).numbers w.1 in let high = h.high in let le = w.2 in omega arith)
      past

  pub past_announced : (n thread low : ℕ) → v.log.durable ≤ n → IsPast v thread low → IsPast (announced v n) thread low
  past_announced n thread low up past = ⊎_elim (λ le. inl (omega arith)) (λ w. inr w) past

  -- what waits over the number waits still
  still_waits : (n thread : ℕ) (q : RedoBundle) → Contains (waiting_of_ring v thread) q → n < q.last → Contains (lane_at (map (released_lane n) v.log.lanes) thread).waiting q
  still_waits n thread q among lt =
      let kept = (released_waiting n v.log.lanes).kept (waiting_in thread q) (waits_of_ring v.log.lanes thread q among) lt in
      let at = waits_in 0 (map (released_lane n) v.log.lanes) (waiting_in thread q) kept in
      subst (λ (d : ℕ). Contains (get_or (map (released_lane n) v.log.lanes) d no_lane).waiting q) (let e = at.ring_is in omega arith) (at.among no_lane)

  pub past_reproduced : (n thread low : ℕ) → n ≤ v.log.durable → IsPast v thread low → IsPast (reproduced v n) thread low
  past_reproduced n thread low le past = dite (ℕ_discrete n v.log.reproduced)
      (λ e. rw (eq-eqb n v.log.reproduced e) past)
      (λ o. rw (ne_eqb n v.log.reproduced o) (⊎_elim inl
      (λ w. dite (dec_le w.0.last n) (λ done. inl (let up = w.2 in omega arith)) (λ over. inr (w.0, still_waits n thread w.0 w.1 (omega arith), w.2)))
      past))

  -- where the ring has no room for a record that is the newest, the next number to reproduce is before it
  pub late : (thread : ℕ) (b : RedoBundle) → thread < length v.log.lanes → IsRingFull v thread b → cells_for (length b.writes) ≤ v.log.sizes.cells → All (λ q. q.last < first_of b) (waiting_of_ring v thread) → v.log.reproduced + 1 < first_of b
  late thread b inside full few newest =
      let lane = lawful.log.lanes.each thread no_lane inside in
      let same = ap (λ s. s.cells) lane.sizes in
      let one = some_waits (waiting_of_ring v thread) (omega arith) in
      let over = waits_over v.log lawful.log (waiting_in thread one.0) (waits_of_ring v.log.lanes thread one.0 one.1) in
      let lt = All-contains (λ (q : RedoBundle). q.last < first_of b) (waiting_of_ring v thread) one.0 newest one.1 in omega arith

module _ (first : ℕ) (v : BackState) (rs : List RedoRecord) (lawful : LawfulLists first (lists v rs)) where
  -- an announcement keeps what is past
  pub keeps_announced : (n : ℕ) (w : BackState) → w ≡ announced v n → v.log.durable ≤ w.log.durable → KeepsPast v w
  keeps_announced n w is up thread low past =
      let e = ap (λ (u : BackState). u.log.durable) is in
      subst (λ (u : BackState). IsPast u thread low) (sym is) (past_announced first v rs lawful n thread low (omega arith) past)

-- what two calls keep, the second one where it succeeds
pub then_past : (u v w : BackState) (result : Result ℕ BackFault) → KeepsPast u v → OnOk result (KeepsPast v w) → OnOk result (KeepsPast u w)
then_past u v w (Ok n) a b = λ thread low past. b thread low (a thread low past)
then_past u v w (Err fault) a b = tt

pub full_or_device : (used need : ℕ) → RingFull used need ≡ Device → ⊥
full_or_device used need e = cc

pub full_or_dead : (used need : ℕ) → RingFull used need ≡ Dead → ⊥
full_or_dead used need e = cc

-- a persist that answers a full ring tells both counts of cells
pub full_counts : (v : BackState) (ring : ℕ) (b : RedoBundle) (result : Result (Unit {0}) BackFault) (used need : ℕ) → result ≡ Err (RingFull used need) → IfErr result (IsPersistFault v ring b) → RingFull used need ≡ ring_full v ring b
full_counts v ring b result used need full only = ⊎_elim
    (λ e. e)
    (λ o. ⊎_elim (λ e. absurd (full_or_device used need e)) (λ e. absurd (full_or_dead used need e)) o)
    (subst (λ (q : Result (Unit {0}) BackFault). IfErr q (IsPersistFault v ring b)) full only)

-- it rises over what was past before calls that keep that
pub rises_behind : (m thread : ℕ) (u v w : BackState) → KeepsPast u v → RisesTo m thread v w → RisesTo m thread u w
rises_behind m thread u v w keeps r = record { over = λ low past. r.over low (keeps thread low past); past = r.past }

-- ---- a bundle that may be persisted
module _ (first : ℕ) (v : BackState) (rs : List RedoRecord) (lawful : LawfulLists first (lists v rs)) (thread : ℕ) (b : RedoBundle) (inside : thread < length v.log.lanes) (over : v.log.durable < first_of b) (newest : All (λ q. q.last < first_of b) (waiting_of_ring v thread)) where
  -- it is over all that is past
  past_less : (low : ℕ) → IsPast v thread low → low < first_of b
  past_less low past = ⊎_elim
      (λ le. let o = over in omega arith)
      (λ w. let lt = All-contains (λ (q : RedoBundle). q.last < first_of b) (waiting_of_ring v thread) w.0 newest w.1 in let le = w.2 in omega arith)
      past

  pub rises_with : (w : BackState) → w ≡ with_record thread b v → RisesTo (first_of b) thread v w
  rises_with w is = record {
    over = past_less;
    past = subst (λ (u : BackState). IsPast u thread (first_of b)) (sym is)
        (inr (b, subst (λ (u : LaneState). Contains u.waiting b) (sym (get_or-set_same v.log.lanes thread (with_redo b (lane_at v.log.lanes thread)) no_lane inside)) (Contains-push (lane_at v.log.lanes thread).waiting b), (omega arith)));
  }

  -- a persist that found its ring full changed nothing, and came too late
  pub full_late : cells_for (length b.writes) ≤ v.log.sizes.cells → (result : Result (Unit {0}) BackFault) (used need : ℕ) → result ≡ Err (RingFull used need) → (w : BackState) → w ≡ after_persist result thread b v → IfErr result (IsPersistFault v thread b) → (IsErrOf result (ring_full v thread b) ↔ ((v.dead ≡ false) × IsRingFull v thread b)) → FoundFull thread b v w × (v.log.reproduced + 1 < first_of b)
  full_late fits result used need full w state only cause =
      let is_full = (cause.0 (full ∙ ap (λ f. Err f) (full_counts v thread b result used need full only))).1 in (
        (subst (λ (q : Result (Unit {0}) BackFault). w ≡ after_persist q thread b v) full state, is_full),
        late first v rs lawful thread b inside is_full fits newest,
      )
