-- What is done to the data of a store is done to the store that it stands for.
use Rattle.std.proofs.Common.{◌≡◌, ◌≢◌, ℕ, zero, suc, ◌+◌, ◌*◌, ◌<◌, ◌≤◌, nat_lt, max, List, [], ◌∷◌, ◌++◌, length, take, map, replicate, get_or, set, refl, sym, ap, ◌∙◌, arith, eq-eqb, ne_eqb, inl, inr, get_or-set_same, get_or-set_other, length-append, append_assoc, mul-le-mul_right}
use Rattle.std.specs.Prelude.{slice_index}
use Rattle.std.specs.List.{filter}
use Rattle.std.proofs.lemmas.Bool.{cases_eq}
use Rattle.std.proofs.lemmas.List.FromFn.{length-map-range_with_len}
use Rattle.dude_base.specs.declared.limits.TheConstants.{PAGE}
use Rattle.dude_base.specs.declared.sizes.Sizes.{Sizes}
use Rattle.dude_base.specs.declared.write.Write.{Write}
use Rattle.dude_base.specs.Image.{cell_at, home_word}
use Rattle.dude_base.specs.Records.{RedoRecord, RedoBundle}
use Rattle.dude_base.specs.Writes.{overwritten}
use Rattle.pmem_trait.specs.declared.call.Call.{Call}
use Rattle.pmem_trait.specs.declared.call.Call.TheVariants.{Read, Put, Flush, Fence, Tell}
use Rattle.pmem_trait.specs.Words.{State as MediumState, value_of, after, after_all}
use Rattle.pmem_trait.proofs.Laws.{after_all_then, after_each_prefix}
use Rattle.redo_record.specs.Record.{cells_for}
use Rattle.redo_record.specs.RingLaws.{slot_after}
use Rattle.redo_record.specs.AppendLaw.{logged_as}
use Rattle.redo_record.specs.BackCalls.{read_page_calls}
use Rattle.redo_record.specs.LogState.{RingRecords, HoldsLog}
use Rattle.redo_record.proofs.HeldLog.{read_page_law}
use Rattle.core_events.specs.Setups.{Setup}
use Rattle.core_events.specs.Keyed.{change}
use Rattle.core_medium.specs.BoxBundles.{bundle_in}
use Rattle.core_medium.specs.Stores.{medium_of}
use Rattle.core_medium.specs.BackCalls.{BackCall, persisting, announcing, reproducing, reading, MayCall, calls_of, adding, waiting_as, device_after}
use Rattle.core_medium.specs.KeptStore.{opening_medium}
use Rattle.core_medium.proofs.Devices.{take_front}
use Rattle.dude_core.specs.StoreData.{RingData, StoreData, no_ring, ring_at, records_at, log_of, tells}
use Rattle.dude_core.specs.Effects.{added, ring_released, data_after}
use Rattle.dude_core.specs.Stands.{store_of, effect_of}
use Rattle.dude_core.specs.DataLaws.{LawOfStartData, LawOfEffectCalls, LawOfEffects, LawOfTold, LawOfOnMedium}

-- ---- the start
no_ring_at : (n ring : ℕ) → get_or (replicate n no_ring) ring no_ring ≡ no_ring
no_ring_at zero ring = refl
no_ring_at (suc n) zero = refl
no_ring_at (suc n) (suc ring) = no_ring_at n ring

pub start_law : LawOfStartData
start_law z s = λ k. record {
  log = record {
    sizes = s;
    reproduced = z.first;
    home = z.opening;
    rings = λ ring. record { logged = (no_ring_at s.rings ring k).logged; released = 0 };
    waiting = [];
  };
  next = λ ring. (no_ring_at s.rings ring k).next;
  rest = opening_medium z s;
  calls = [];
  marks = z.first ∷ [];
  read = [];
}

-- ---- the calls
pub calls_law : LawOfEffectCalls
calls_law z records a (persisting t j more) = refl
calls_law z records a (announcing n) = refl
calls_law z records a (reproducing rs ws n) = refl
calls_law z records a (reading p) = refl

-- ---- a bundle more in a ring
module _ (a : StoreData) (t : ℕ) (b : RedoBundle) (inside : t < length a.rings) where
  abbrev new : List RingData
  new = set a.rings t (added a.sizes t b (ring_at a t))

  here : get_or new t no_ring ≡ added a.sizes t b (ring_at a t)
  here = get_or-set_same a.rings t (added a.sizes t b (ring_at a t)) no_ring inside

  elsewhere : (ring : ℕ) → ring ≢ t → get_or new ring no_ring ≡ ring_at a ring
  elsewhere ring other = get_or-set_other a.rings t ring (added a.sizes t b (ring_at a t)) no_ring other

  abbrev as_records : RingData → RingRecords
  as_records r = record { logged = r.logged; released = a.released }

  rings_same : (ring : ℕ) → as_records (get_or new ring no_ring) ≡ adding t (logged_as (cell_at t (ring_at a t).next) b) (records_at a) ring
  rings_same ring = elim (cases_eq ring t) [
    | inl same ↦ rw (eq-eqb ring t same, same) (ap as_records here)
    | inr other ↦ rw (ne_eqb ring t other) (ap as_records (elsewhere ring other))
  ]

  next_same : (ring : ℕ) → (get_or new ring no_ring).next ≡ change (λ x. (ring_at a x).next) t (slot_after a.sizes (ring_at a t).next (cells_for (length b.writes))) ring
  next_same ring = elim (cases_eq ring t) [
    | inl same ↦ rw (eq-eqb ring t same, same) (ap (λ (x : RingData). x.next) here)
    | inr other ↦ rw (ne_eqb ring t other) (ap (λ (x : RingData). x.next) (elsewhere ring other))
  ]

-- ---- rings that released
released_at : (rings : List RingData) (n ring : ℕ) → get_or (map (ring_released n) rings) ring no_ring ≡ ring_released n (get_or rings ring no_ring)
released_at [] n ring = refl
released_at (r ∷ rs) n zero = refl
released_at (r ∷ rs) n (suc ring) = released_at rs n ring

-- ---- a word that is read
reads_long : (s : Sizes) (p : ℕ) → length (read_page_calls s p) ≡ PAGE
reads_long s p = length-map-range_with_len Read (home_word s (p * PAGE)) PAGE

module _ (z : Setup) (a : StoreData) (holds : HoldsLog (log_of a) (store_of z a).rest) (p : ℕ) (below : p < a.sizes.pages)
    (call : Call) (left : List Call) (whole : read_page_calls a.sizes p ≡ a.calls ++ call ∷ left) where
  abbrev place : ℕ
  place = p * PAGE + length a.calls

  pub few : length a.calls < PAGE
  few = let long = reads_long a.sizes p in let size : length (a.calls ++ call ∷ left) ≡ length a.calls + length (call ∷ left) = length-append a.calls (call ∷ left) in let e = ap length whole in omega arith

  still : medium_of (store_of z a) ≡ (store_of z a).rest
  still =
      let front : take (length a.calls) (read_page_calls a.sizes p) ≡ a.calls = ap (take (length a.calls)) whole ∙ take_front a.calls (call ∷ left) in
      ap (λ (cs : List Call). after_all cs (store_of z a).rest) (sym front) ∙ after_each_prefix (length a.calls) (read_page_law (log_of a) p (store_of z a).rest holds below).0

  word_is : slice_index a.home place ≡ value_of ((medium_of (store_of z a)).word (home_word a.sizes place))
  word_is =
      let pages : (p + 1) * PAGE ≤ a.sizes.pages * PAGE = mul-le-mul_right PAGE (omega arith) in let lt = few in let count = holds.rest.count in
      sym (ap (λ (q : MediumState). value_of (q.word (home_word a.sizes place))) still
      ∙ ap value_of (holds.rest.words place (omega arith)))

-- ---- each call
module _ (z : Setup) (boxes : List ℕ) (records : List RedoRecord) (a : StoreData) (call : Call) where
  abbrev p0 : MediumState
  p0 = opening_medium z a.sizes

  rest_is : after_all (a.ended ++ (a.calls ++ call ∷ [])) p0 ≡ after_all (a.calls ++ call ∷ []) (after_all a.ended p0)
  rest_is = after_all_then a.ended (a.calls ++ call ∷ []) p0

  abbrev Leads : BackCall → List Call → Type 0
  Leads b left = store_of z (data_after (effect_of z records b) call left a) ≡ device_after z records b call left (store_of z a)

  persist_ends : (t j : ℕ) (more : List (ℕ × ℕ)) → t < length a.rings → Leads (persisting t j more) []
  persist_ends t j more inside = let b = bundle_in z records t j more in λ k. record {
    log = record {
      sizes = a.sizes;
      reproduced = a.reproduced;
      home = a.home;
      rings = λ ring. rings_same a t b inside ring k;
      waiting = a.waiting ++ waiting_as t b ∷ [];
    };
    next = λ ring. next_same a t b inside ring k;
    rest = rest_is k;
    calls = [];
    marks = a.marks;
    read = a.read;
  }

  announce_ends : (n : ℕ) → Leads (announcing n) []
  announce_ends n = λ k. record { log = log_of a; next = λ ring. (ring_at a ring).next; rest = rest_is k; calls = []; marks = a.marks; read = a.read }

  reproduce_ends : (rs : List RedoBundle) (ws : List Write) (n : ℕ) → Leads (reproducing rs ws n) []
  reproduce_ends rs ws n = λ k. record {
    log = record {
      sizes = a.sizes;
      reproduced = n;
      home = overwritten ws a.home;
      rings = λ ring. record { logged = (released_at a.rings n ring k).logged; released = max a.released n };
      waiting = filter (λ w. nat_lt n w.redo.last) a.waiting;
    };
    next = λ ring. (released_at a.rings n ring k).next;
    rest = rest_is k;
    calls = [];
    marks = n ∷ a.marks;
    read = a.read;
  }

  read_ends : (p : ℕ) → HoldsLog (log_of a) (store_of z a).rest → p < a.sizes.pages → read_page_calls a.sizes p ≡ a.calls ++ call ∷ [] → Leads (reading p) []
  read_ends p holds below whole = λ k. record {
    log = log_of a;
    next = λ ring. (ring_at a ring).next;
    rest = rest_is k;
    calls = [];
    marks = a.marks;
    read = (p * PAGE + length a.calls, word_is z a holds p below call [] whole k) ∷ a.read;
  }

  read_goes : (p : ℕ) (x : Call) (xs : List Call) → HoldsLog (log_of a) (store_of z a).rest → p < a.sizes.pages → read_page_calls a.sizes p ≡ a.calls ++ call ∷ x ∷ xs → Leads (reading p) (x ∷ xs)
  read_goes p x xs holds below whole = λ k. record {
    log = log_of a;
    next = λ ring. (ring_at a ring).next;
    rest = (store_of z a).rest;
    calls = a.calls ++ call ∷ [];
    marks = a.marks;
    read = (p * PAGE + length a.calls, word_is z a holds p below call (x ∷ xs) whole k) ∷ a.read;
  }

  leads : (b : BackCall) (left : List Call) → length a.rings ≡ a.sizes.rings → ((t : ℕ) → t < z.threads → t < a.sizes.rings)
      → HoldsLog (log_of a) (store_of z a).rest → MayCall z boxes records (log_of a) (store_of z a).rest.told b
      → calls_of z records a.sizes (store_of z a).next b ≡ a.calls ++ call ∷ left → Leads b left
  leads (persisting t j more) [] rings places holds may whole = persist_ends t j more (let low = places t may.gather.first.thread in omega arith)
  leads (persisting t j more) (x ∷ xs) rings places holds may whole = refl
  leads (announcing n) [] rings places holds may whole = announce_ends n
  leads (announcing n) (x ∷ xs) rings places holds may whole = refl
  leads (reproducing rs ws n) [] rings places holds may whole = reproduce_ends rs ws n
  leads (reproducing rs ws n) (x ∷ xs) rings places holds may whole = refl
  leads (reading p) [] rings places holds may whole = read_ends p holds may whole
  leads (reading p) (x ∷ xs) rings places holds may whole = read_goes p x xs holds may whole

pub effects_law : LawOfEffects
effects_law z boxes records a b call left rings places holds may whole = leads z boxes records a call b left rings places holds may whole

-- ---- numbers told
told_is : (cs : List Call) (p : MediumState) → (after_all cs p).told ≡ p.told ++ tells cs
told_is [] p = sym (append_nil p.told)
  where
    append_nil : (xs : List ℕ) → xs ++ [] ≡ xs
    append_nil [] = refl
    append_nil (x ∷ xs) = ap (λ (ys : List ℕ). x ∷ ys) (append_nil xs)
told_is (Read at ∷ cs) p = told_is cs (after (Read at) p)
told_is (Put at value ∷ cs) p = told_is cs (after (Put at value) p)
told_is (Flush line ∷ cs) p = told_is cs (after (Flush line) p)
told_is (Fence ∷ cs) p = told_is cs (after Fence p)
told_is (Tell number ∷ cs) p = told_is cs (after (Tell number) p) ∙ append_assoc p.told (number ∷ []) (tells cs)

pub told_law : LawOfTold
told_law z a = told_is a.ended (opening_medium z a.sizes)

-- ---- numbers on the medium
pub on_medium_law : LawOfOnMedium
on_medium_law a n = ((λ h. h), (λ h. h))
