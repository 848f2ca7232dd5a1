-- Records that wait, and the lists of them that lead from one number to another.
use Rattle.std.proofs.Common.{◌≡◌, ◌⊎◌, inl, inr, ℕ, ◌+◌, ◌<◌, ◌≤◌, List, [], ◌∷◌, ◌++◌, append-nil, refl, sym, ap, ◌∙◌, subst, arith, All, ⊎_elim, zero, suc, nat_lt, true, false, ◌≢◌, max, get_or}
use Rattle.std.specs.List.{Contains, filter}
use Rattle.std.proofs.lemmas.Bool.{cases_order, cases_eq, cases_Bool, lt-ltb, ltb-true}
use Rattle.std.proofs.lemmas.List.Elements.{All-head, All-tail, All-cons, All-nil, All-push, All-weaker, All-contains, All-filter, All-contains_itself, filter_passes, Contains-get_or}
use Rattle.dude_base.specs.Records.{RedoBundle, first_of, Covers}
use Rattle.redo_record.specs.Recovery.{AreConsecutive, overwritten_by_all}
use Rattle.redo_record.specs.Waiting.{KeepsOver, Waiting, Waits, Lead, IsContiguousEnd, AreDisjoint, AddsWaiting, LawOfWaiting}

-- a list that leads on is no lower at its end
pub consecutive_up : (from to : ℕ) (rs : List RedoBundle) → AreConsecutive from rs to → from ≤ to
consecutive_up from to [] is = omega arith
consecutive_up from to (r ∷ rs) is = let rest = consecutive_up r.last to rs is.1 in let first = is.0 in omega arith

-- each of its bundles is over its beginning
pub consecutive_over : (from to : ℕ) (rs : List RedoBundle) → AreConsecutive from rs to → All (λ r. from < r.last) rs
consecutive_over from to [] is = All-nil (λ (r : RedoBundle). from < r.last)
consecutive_over from to (r ∷ rs) is =
    let first = is.0 in
    All-cons (λ (r : RedoBundle). from < r.last) r rs (omega arith)
    (All-weaker (λ (t : RedoBundle). r.last < t.last) (λ (t : RedoBundle). from < t.last) (λ t over. omega arith) rs (consecutive_over r.last to rs is.1))

-- it goes on by the next bundle
pub consecutive_push : (from to : ℕ) (rs : List RedoBundle) (r : RedoBundle) → AreConsecutive from rs to → first_of r ≡ to + 1 → AreConsecutive from (rs ++ r ∷ []) r.last
consecutive_push from to [] r is next = (next ∙ ap (λ (n : ℕ). n + 1) (sym is), refl)
consecutive_push from to (t ∷ rs) r is next = (is.0, consecutive_push t.last to rs r is.1 next)

-- a bundle that covers this number, and is up to another one
pub record Reached (P : RedoBundle → Type 0) (number to : ℕ) : Type 0 where
  pub one : RedoBundle
  pub holds : P one
  pub covers : Covers one number
  pub upto : one.last ≤ to

-- a list that leads on covers each number on its way
pub consecutive_reach : (P : RedoBundle → Type 0) (from to number : ℕ) (rs : List RedoBundle) → All P rs → AreConsecutive from rs to → from < number → number ≤ to → Reached P number to
consecutive_reach P from to number [] all is low high = absurd (let last : from ≡ to = is in omega arith)
consecutive_reach P from to number (r ∷ rs) all is low high =
    by (λ past. consecutive_reach P r.last to number rs (All-tail P r rs all) is.1 past high) (cases_order number r.last)
  where
    first : first_of r ≡ from + 1
    first = is.0

    here : number ≤ r.last → Reached P number to
    here upto = record {
      one = r;
      holds = All-head P r rs all;
      covers = record { low = omega arith; high = upto };
      upto = consecutive_up r.last to rs is.1;
    }

    by : (r.last < number → Reached P number to) → (number ≡ r.last) ⊎ ((number < r.last) ⊎ (r.last < number)) → Reached P number to
    by later (inl same) = here (omega arith)
    by later (inr (inl lt)) = here (omega arith)
    by later (inr (inr gt)) = later gt

-- a bundle covers its first number
covers_first : (b : RedoBundle) → Covers b (first_of b)
covers_first b = record { low = omega arith; high = omega arith }

-- where no two bundles that wait cover one number, one first number has one bundle
pub one_record : {waiting : List Waiting} {r t : RedoBundle} → AreDisjoint waiting → Waits waiting r → Waits waiting t → first_of r ≡ first_of t → r ≡ t
one_record {waiting} {r} {t} distinct a b same = ap (λ (w : Waiting). w.redo) (distinct _ _ (first_of r) a.is_one b.is_one (covers_first r) (subst (Covers t) (sym same) (covers_first t)))

-- A list that leads further begins with the shorter one.
pub record Split (rs ts : List RedoBundle) (to further : ℕ) : Type 0 where
  pub rest : List RedoBundle
  pub whole : ts ≡ rs ++ rest
  pub consecutive : AreConsecutive to rest further

module _ {waiting : List Waiting} (distinct : AreDisjoint waiting) where
  pub split : (from to further : ℕ) (rs ts : List RedoBundle) → All (Waits waiting) rs → All (Waits waiting) ts
      → AreConsecutive from rs to → AreConsecutive from ts further → to ≤ further → Split rs ts to further
  split from to further [] ts wait others is on upto = record { rest = ts; whole = refl; consecutive = subst (λ (n : ℕ). AreConsecutive n ts further) is on }
  split from to further (r ∷ rs) [] wait others is on upto = absurd (let up = consecutive_up r.last to rs is.1 in let first = is.0 in let last : from ≡ further = on in omega arith)
  split from to further (r ∷ rs) (t ∷ ts) wait others is on upto =
      let same : r ≡ t = one_record distinct (All-head (Waits waiting) r rs wait) (All-head (Waits waiting) t ts others) (is.0 ∙ sym on.0) in
      let next : AreConsecutive r.last ts further = subst (λ (u : RedoBundle). AreConsecutive u.last ts further) (sym same) on.1 in
      let other = split r.last to further rs ts (All-tail (Waits waiting) r rs wait) (All-tail (Waits waiting) t ts others) is.1 next upto in
      record {
        rest = other.rest;
        whole = ap (λ (u : RedoBundle). u ∷ ts) (sym same) ∙ ap (λ (us : List RedoBundle). r ∷ us) other.whole;
        consecutive = other.consecutive;
      }

  -- a bundle that waits begins over an end, or is up to it
  pub beside_end : {from to : ℕ} {rs : List RedoBundle} → Lead waiting from rs to → (w : Waiting) → Contains waiting w → from < first_of w.redo → (to < first_of w.redo) ⊎ (w.redo.last ≤ to)
  beside_end {from} {to} {rs} lead w is over = by (cases_order to (first_of w.redo))
    where
      under : first_of w.redo ≤ to → w.redo.last ≤ to
      under low =
          let found = consecutive_reach (Waits waiting) from to (first_of w.redo) rs lead.wait lead.consecutive over low in
          let same : ◌≡◌ {A = Waiting} (record { ring = found.holds.ring; redo = found.one }) w = distinct _ w (first_of w.redo) found.holds.is_one is found.covers (covers_first w.redo) in
          subst (λ (v : Waiting). v.redo.last ≤ to) same found.upto

      by : (to ≡ first_of w.redo) ⊎ ((to < first_of w.redo) ⊎ (first_of w.redo < to)) → (to < first_of w.redo) ⊎ (w.redo.last ≤ to)
      by (inl same) = inr (under (omega arith))
      by (inr (inl lt)) = inl lt
      by (inr (inr gt)) = inr (under (omega arith))

-- Nothing that leads on from the same number gets past a contiguous end.
module _ {waiting : List Waiting} {number : ℕ} (distinct : AreDisjoint waiting) (last : (w : Waiting) → Contains waiting w → first_of w.redo ≢ number + 1) where
  end_past : (from to : ℕ) (rs ts : List RedoBundle) → All (Waits waiting) rs → All (Waits waiting) ts → AreConsecutive from rs to → AreConsecutive from ts number → to ≤ number
  end_past from to [] ts wait others is on = let up = consecutive_up from number ts on in let end : from ≡ to = is in omega arith
  end_past from to (r ∷ rs) [] wait others is on =
      let end : from ≡ number = on in
      absurd (last _ (All-head (Waits waiting) r rs wait).is_one (is.0 ∙ ap (λ (n : ℕ). n + 1) end))
  end_past from to (r ∷ rs) (t ∷ ts) wait others is on =
      let same : r ≡ t = one_record distinct (All-head (Waits waiting) r rs wait) (All-head (Waits waiting) t ts others) (is.0 ∙ sym on.0) in
      end_past r.last to rs ts (All-tail (Waits waiting) r rs wait) (All-tail (Waits waiting) t ts others) is.1 (subst (λ (u : RedoBundle). AreConsecutive u.last ts number) (sym same) on.1)

pub end_reached : {waiting others : List Waiting} {from number to : ℕ} {rs : List RedoBundle} → AreDisjoint waiting → ((r : RedoBundle) → Waits others r → Waits waiting r)
    → IsContiguousEnd waiting from number → Lead others from rs to → to ≤ number
end_reached {waiting} {others} {from} {number} {to} {rs} distinct among end lead =
    end_past distinct end.greatest from to rs end.records (All-weaker (Waits others) (Waits waiting) among rs lead.wait) end.lead.wait lead.consecutive end.lead.consecutive

-- Those over a number are kept by a filter.
contains_later : (w v : Waiting) (ws : List Waiting) → Contains ws v → Contains (w ∷ ws) v
contains_later w v ws is = let lt = is.1 in (suc is.0, omega arith, is.2)

contains_filter : (number : ℕ) (v : Waiting) (ws : List Waiting) → Contains ws v → number < v.redo.last → Contains (filter (λ w. nat_lt number w.redo.last) ws) v
contains_filter number v [] (k, lt, is) over = absurd (omega arith)
contains_filter number v (w ∷ ws) (zero, lt, is) over =
    let first : w ≡ v = is in
    rw (lt-ltb number w.redo.last (let same : w.redo.last ≡ v.redo.last = ap (λ (w : Waiting). w.redo.last) first in omega arith)) (0, omega arith, first)
contains_filter number v (w ∷ ws) (suc k, lt, is) over = ⊎_elim
    (λ (kept : nat_lt number w.redo.last ≡ true). rw kept (contains_later w v (filter (λ w. nat_lt number w.redo.last) ws) (contains_filter number v ws (k, omega arith, is) over)))
    (λ (gone : nat_lt number w.redo.last ≡ false). rw gone (contains_filter number v ws (k, omega arith, is) over))
    (cases_Bool (nat_lt number w.redo.last))

pub keeps_filter : (number : ℕ) (ws : List Waiting) → KeepsOver number ws (filter (λ w. nat_lt number w.redo.last) ws)
keeps_filter number ws = record {
  kept = λ w is over. contains_filter number w ws is over;
  only = λ w is. (
    All-contains (Contains ws) (filter (λ w. nat_lt number w.redo.last) ws) w (All-filter (λ w. nat_lt number w.redo.last) (Contains ws) ws (All-contains_itself ws)) is,
    ltb-true number w.redo.last (All-contains (λ (w : Waiting). nat_lt number w.redo.last ≡ true) (filter (λ w. nat_lt number w.redo.last) ws) w (filter_passes (λ w. nat_lt number w.redo.last) ws) is),
  );
}

-- no number of a waiting record is over this one
abbrev AreUpto : ℕ → List Waiting → Type 0
AreUpto bound ws = All (λ w. w.redo.last ≤ bound) ws

bound_of : (ws : List Waiting) → (bound : ℕ) × AreUpto bound ws
bound_of [] = (0, All-nil (λ (w : Waiting). w.redo.last ≤ 0))
bound_of (w ∷ ws) =
    let rest = bound_of ws in
    let bound = max w.redo.last rest.0 in
    (bound, All-cons (λ (v : Waiting). v.redo.last ≤ bound) w ws (omega arith) (All-weaker (λ (v : Waiting). v.redo.last ≤ rest.0) (λ (v : Waiting). v.redo.last ≤ bound) (λ v upto. omega arith) ws rest.1))

-- a waiting bundle begins with this number, or none does
pub record Begins (number : ℕ) (ws : List Waiting) : Type 0 where
  pub one : Waiting
  pub is_one : Contains ws one
  pub first_is : first_of one.redo ≡ number

pub begins_or_not : (number : ℕ) (ws : List Waiting) → Begins number ws ⊎ ((w : Waiting) → Contains ws w → first_of w.redo ≢ number)
begins_or_not number [] = inr (λ w is same. let lt = is.1 in omega arith)
begins_or_not number (v ∷ ws) = ⊎_elim
    (λ (same : first_of v.redo ≡ number). inl (record { one = v; is_one = (0, omega arith, refl); first_is = same }))
    (λ (other : first_of v.redo ≢ number). ⊎_elim
    (λ (has : Begins number ws). inl (record { one = has.one; is_one = contains_later v has.one ws has.is_one; first_is = has.first_is }))
    (λ (none : (w : Waiting) → Contains ws w → first_of w.redo ≢ number). inr (λ w is. All-contains (λ (w : Waiting). first_of w.redo ≢ number) (v ∷ ws) w
    (All-cons (λ (w : Waiting). first_of w.redo ≢ number) v ws other (λ k d lt. none (get_or ws k d) (Contains-get_or ws k d lt))) is))
    (begins_or_not number ws))
    (cases_eq (first_of v.redo) number)

-- the end lies at most so far behind a number
end_from : (steps bound : ℕ) (waiting : List Waiting) (from : ℕ) → AreUpto bound waiting → bound ≤ from + steps → (number : ℕ) × IsContiguousEnd waiting from number
end_from zero bound waiting from upto close = (
  from,
  record {
    records = [];
    lead = record { wait = All-nil (Waits waiting); consecutive = refl };
    greatest = λ w is same. let small = All-contains (λ (w : Waiting). w.redo.last ≤ bound) waiting w upto is in omega arith;
  },
)
end_from (suc steps) bound waiting from upto close = ⊎_elim
    (λ (has : Begins (from + 1) waiting).
    let r = has.one.redo in
    let first = has.first_is in
    let next = end_from steps bound waiting r.last upto (omega arith) in (
      next.0,
      record {
        records = r ∷ next.1.records;
        lead = record {
          wait = All-cons (Waits waiting) r next.1.records (record { ring = has.one.ring; is_one = has.is_one }) next.1.lead.wait;
          consecutive = (has.first_is, next.1.lead.consecutive);
        };
        greatest = next.1.greatest;
      },
    ))
    (λ (none : (w : Waiting) → Contains waiting w → first_of w.redo ≢ from + 1). (
      from,
      record {
        records = [];
        lead = record { wait = All-nil (Waits waiting); consecutive = refl };
        greatest = none;
      },
    ))
    (begins_or_not (from + 1) waiting)

-- records of the old list wait in the new one
pub waits_more : {w : Waiting} {old new : List Waiting} → AddsWaiting w old new → (r : RedoBundle) → Waits old r → Waits new r
waits_more adds r waits = record { ring = waits.ring; is_one = adds.others _ waits.is_one }

pub lead_more : {w : Waiting} {old new : List Waiting} {from to : ℕ} {rs : List RedoBundle} → AddsWaiting w old new → Lead old from rs to → Lead new from rs to
lead_more {old = old} {new = new} {rs = rs} adds lead = record { wait = All-weaker (Waits old) (Waits new) (waits_more adds) rs lead.wait; consecutive = lead.consecutive }

pub waiting_law : LawOfWaiting
waiting_law = record {
  here = λ waiting from. record { wait = All-nil (Waits waiting); consecutive = refl };
  next = λ waiting from to records r lead waits next. record {
    wait = All-push (Waits waiting) records r lead.wait waits;
    consecutive = consecutive_push from to records r lead.consecutive next;
  };
  some_end = λ waiting from. let bound = bound_of waiting in end_from bound.0 bound.0 waiting from bound.1 (omega arith);
  one_end = λ waiting from a b distinct one other.
      let up : b ≤ a = end_reached distinct (λ r waits. waits) one other.lead in
      let down : a ≤ b = end_reached distinct (λ r waits. waits) other one.lead in
      omega arith;
  one_array = λ waiting from number home a b distinct one other.
      let both = split distinct from number number one.records other.records one.lead.wait other.lead.wait one.lead.consecutive other.lead.consecutive (omega arith) in
      one.result ∙ (ap (λ (rs : List RedoBundle). overwritten_by_all rs home) (same_end number both.rest both.consecutive both.whole) ∙ sym other.result);
  at_home = λ waiting from home. record { records = []; lead = record { wait = All-nil (Waits waiting); consecutive = refl }; result = refl };
  arrays = λ waiting from number home is. (overwritten_by_all is.records home, record { records = is.records; lead = is.lead; result = refl });
  covered = λ waiting from to number records lead low high.
      let found = consecutive_reach (Waits waiting) from to number records lead.wait lead.consecutive low high in
      (record { ring = found.holds.ring; redo = found.one }, found.holds.is_one, found.covers, found.upto);
  beside = λ waiting from to records w distinct lead is over. beside_end distinct lead w is over;
  uncovered = λ waiting from number w distinct end is over covers. ⊎_elim
      (λ (begins : number < first_of w.redo). end.greatest w is (let low = covers.low in omega arith))
      (λ (ends : w.redo.last ≤ number). let high = covers.high in omega arith)
      (beside_end distinct end.lead w is over);
  filtered = λ waiting number. keeps_filter number waiting;
  within = λ waiting from end number home array distinct is at.
      (consecutive_up from number at.records at.lead.consecutive, end_reached distinct (λ r waits. waits) is at.lead);
  added_end = λ w old new from a b distinct adds one other. end_reached distinct (waits_more adds) other one.lead;
  added_arrays = λ w old new from number home array adds is. record { records = is.records; lead = lead_more adds is.lead; result = is.result };
}
  where
    same_end : {rs ts : List RedoBundle} (to : ℕ) (rest : List RedoBundle) → AreConsecutive to rest to → ts ≡ rs ++ rest → rs ≡ ts
    same_end {rs} to [] is whole = sym (whole ∙ append-nil rs)
    same_end to (r ∷ rest) is whole = absurd (let up = consecutive_up r.last to rest is.1 in let first = is.0 in omega arith)
