-- What calls of a back make of its lists, for the holder of the turn.
use Rattle.std.proofs.Common.{◌≡◌, ℕ, ◌<◌, ◌≤◌, ◌⊎◌, true, false, List, [], ◌++◌, length, get_or, set, refl, sym, ap, ◌∙◌, subst, inl, inr, ⊎_elim, arith, eq-eqb, ne_eqb, get_or-set_same, get_or-set_other}
use Rattle.std.specs.Prelude.{nat_lt}
use Rattle.std.specs.List.{Contains, filter}
use Rattle.std.proofs.lemmas.Bool.{false≢true}
use Rattle.std.proofs.lemmas.List.{append_assoc}
use Rattle.std.proofs.lemmas.List.Elements.{Contains-push_cases, All-contains, All-contains_itself, All-filter}
use mathlib.Core.Logic.{dite}
use native.Mathlib.Decide.{ℕ_discrete}
use Rattle.dude_base.specs.Records.{RedoBundle, RedoRecord, first_of}
use Rattle.back_store.specs.Lane.{with_redo}
use Rattle.back_store.specs.Lanes.{lane_at, no_lane}
use Rattle.back_store.proofs.ReleasedRecords.{lane_released}
use Rattle.back_store.specs.Back.{BackState, waiting_of_ring}
use Rattle.back_store.specs.Answers.{with_record, reproduced}
use Rattle.core_events.specs.Setups.{Setup}
use Rattle.stm_slots.specs.KnownLists.{BackLists, LawfulLists, lists}
use Rattle.stm_slots.specs.Records.{AreNew, HasRecord, LacksRecord, writes_in}
use Rattle.stm_slots.proofs.JoinedRecords.{has_front, has_behind, has_either_list, writes_front, writes_behind, not_both, lacks_from}
use Rattle.stm_slots.specs.Turns.{BeginsHanded, IsHanded, Follows}

module _ (z : Setup) (next : List ℕ) (taken : List (ℕ × RedoRecord)) where
  -- with more records handed over, a record that was handed over is so still
  handed_more : (rs more : List RedoRecord) (t n : ℕ) → IsHanded z next taken rs t n → IsHanded z next taken (more ++ rs) t n
  handed_more rs more t n h = record {
    i = h.i;
    r = h.r;
    number = h.number;
    taken_is = h.taken_is;
    upto = λ i le. let u = h.upto i le in (u.0, u.1, has_behind more rs u.0.number u.2);
  }

  begins_more : (rs more : List RedoRecord) (t : ℕ) (q : RedoBundle) → BeginsHanded z next taken rs t q → BeginsHanded z next taken (more ++ rs) t q
  begins_more rs more t q h = record { begins = handed_more rs more t (first_of q) h.begins; covered = λ n c. has_behind more rs n (h.covered n c) }

  -- lists follow themselves
  pub follows_same : (l : BackLists) → LawfulLists z.first l → Follows z next taken l l
  follows_same l lawful = record {
    lawful = lawful;
    sizes = refl;
    durable = omega arith;
    reproduced = omega arith;
    dead = λ e. e;
    more = [];
    records = refl;
    new = record { over = λ n has. absurd (false≢true has); lacks = λ n has. absurd (false≢true has) };
    among = λ n has. absurd (false≢true has);
    waiting = λ alive t q lt among. inl among;
  }

  module _ (l : BackLists) (v : BackState) (rs : List RedoRecord) (f : Follows z next taken l (lists v rs)) (w : BackState) (sizes : w.log.sizes ≡ v.log.sizes) (durable : v.log.durable ≤ w.log.durable)
      (reproduced : v.log.reproduced ≤ w.log.reproduced) (dead : v.dead ≡ true → w.dead ≡ true) (alive : w.dead ≡ false → v.dead ≡ false) where
    -- calls that hand over nothing
    pub follows_on : LawfulLists z.first (lists w rs) → (w.dead ≡ false → (t : ℕ) (q : RedoBundle) → t < z.threads → Contains (waiting_of_ring w t) q → Contains (waiting_of_ring v t) q) → Follows z next taken l (lists w rs)
    follows_on lawful waits = record {
      lawful = lawful;
      sizes = sizes ∙ f.sizes;
      durable = (let a = f.durable in omega arith);
      reproduced = (let a = f.reproduced in omega arith);
      dead = λ e. dead (f.dead e);
      more = f.more;
      records = f.records;
      new = f.new;
      among = f.among;
      waiting = λ live t q lt among. f.waiting (alive live) t q lt (waits live t q lt among);
    }

    -- records that were taken are handed over, or perhaps are
    pub follows_handed : (more : List RedoRecord) → LawfulLists z.first (lists w (more ++ rs)) → AreNew z.first rs more → ((n : ℕ) → HasRecord more n → (k : ℕ) × Contains taken (k, record { number = n; writes = writes_in more n }))
        → (w.dead ≡ false → (t : ℕ) (q : RedoBundle) → t < z.threads → Contains (waiting_of_ring w t) q → Contains (waiting_of_ring v t) q ⊎ BeginsHanded z next taken (more ++ rs) t q) → Follows z next taken l (lists w (more ++ rs))
    follows_handed more lawful new among waits = record {
      lawful = lawful;
      sizes = sizes ∙ f.sizes;
      durable = (let a = f.durable in omega arith);
      reproduced = (let a = f.reproduced in omega arith);
      dead = λ e. dead (f.dead e);
      more = more ++ f.more;
      records = ap (λ ps. more ++ ps) f.records ∙ sym (append_assoc more f.more l.records);
      new = record {
        over = λ n has. ⊎_elim (new.over n) (f.new.over n) (has_either_list more f.more n has);
        lacks = λ n has. ⊎_elim (λ h. lacks_before n (new.lacks n h)) (f.new.lacks n) (has_either_list more f.more n has);
      };
      among = λ n has. ⊎_elim
          (λ h. let a = among n h in (a.0, subst (λ ws. Contains taken (a.0, record { number = n; writes = ws })) (sym (writes_front more f.more n h)) a.1))
          (λ h. let a = f.among n h in (a.0, subst (λ ws. Contains taken (a.0, record { number = n; writes = ws })) (sym (writes_behind more f.more n (not_again n h))) a.1))
          (has_either_list more f.more n has);
      waiting = λ live t q lt in_ring. ⊎_elim
          (λ old. ⊎_elim inl (λ h. inr (begins_more rs more t q h)) (f.waiting (alive live) t q lt old))
          inr
          (waits live t q lt in_ring);
    }
      where
        lacks_before : (n : ℕ) → LacksRecord rs n → LacksRecord l.records n
        lacks_before n lacks = lacks_from l.records n (λ h. not_both rs n (subst (λ ps. HasRecord ps n) (sym f.records) (has_behind f.more l.records n h)) lacks)

        not_again : (n : ℕ) → HasRecord f.more n → LacksRecord more n
        not_again n h = lacks_from more n (λ again. not_both rs n (subst (λ ps. HasRecord ps n) (sym f.records) (has_front f.more l.records n h)) (new.lacks n again))

-- ---- what waits in a ring behind a call
from_filter : (n : ℕ) (qs : List RedoBundle) (q : RedoBundle) → Contains (filter (λ (r : RedoBundle). nat_lt n r.last) qs) q → Contains qs q
from_filter n qs q among = All-contains (Contains qs) (filter (λ (r : RedoBundle). nat_lt n r.last) qs) q (All-filter (λ (r : RedoBundle). nat_lt n r.last) (Contains qs) qs (All-contains_itself qs)) among

-- a bundle was put behind those of a ring
pub waits_with_record : (v : BackState) (ring : ℕ) (b : RedoBundle) → ring < length v.log.lanes → (u : ℕ) (q : RedoBundle) → Contains (waiting_of_ring (with_record ring b v) u) q → Contains (waiting_of_ring v u) q ⊎ ((u ≡ ring) × (q ≡ b))
waits_with_record v ring b inside u q among = dite (ℕ_discrete u ring)
    (λ e. ⊎_elim
    (λ old. inl (subst (λ (d : ℕ). Contains (waiting_of_ring v d) q) (sym e) old))
    (λ new. inr (e, sym new))
    (Contains-push_cases (lane_at v.log.lanes ring).waiting b q
    (subst (λ u. Contains u.waiting q) (ap (λ (d : ℕ). get_or (set v.log.lanes ring (with_redo b (lane_at v.log.lanes ring))) d no_lane) e ∙ get_or-set_same v.log.lanes ring (with_redo b (lane_at v.log.lanes ring)) no_lane inside) among)))
    (λ n. inl (subst (λ u. Contains u.waiting q) (get_or-set_other v.log.lanes ring u (with_redo b (lane_at v.log.lanes ring)) no_lane n) among))

-- what the home has doesn't wait any more
pub waits_reproduced : (v : BackState) (n u : ℕ) (q : RedoBundle) → u < length v.log.lanes → Contains (waiting_of_ring (reproduced v n) u) q → Contains (waiting_of_ring v u) q
waits_reproduced v n u q inside among = dite (ℕ_discrete n v.log.reproduced)
    (λ e. rw (eq-eqb n v.log.reproduced e) at among)
    (λ o. from_filter n (lane_at v.log.lanes u).waiting q (subst (λ d. Contains d.waiting q) (lane_released n v.log.lanes u no_lane no_lane inside) (rw (ne_eqb n v.log.reproduced o) at among)))
