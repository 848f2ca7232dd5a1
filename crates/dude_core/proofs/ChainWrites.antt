-- The writes of waiting bundles that lead on, one bundle behind another, and how many these are at most.
use Rattle.std.proofs.Common.{◌≡◌, ℕ, zero, suc, ◌+◌, ◌<◌, ◌≤◌, List, [], ◌∷◌, ◌++◌, length, refl, ap, ◌∙◌, inl, inr, arith, All, AllPairs, nat_lt, if◌then◌else◌, flat_map, length-append, take, eq-eqb, ne_eqb}
use Rattle.std.specs.Prelude.{◌==◌, MatchBool, Some, slice_get}
use Rattle.std.proofs.lemmas.List.{take_more}
use Rattle.std.proofs.lemmas.Option.{get_or_from_slice_get}
use Rattle.std.specs.List.{Contains}
use Rattle.std.proofs.lemmas.Bool.{cases_eq, cases_lt, lt-ltb, le-ltb}
use Rattle.std.proofs.lemmas.List.Elements.{All-nil, All-push}
use Rattle.std.proofs.lemmas.List.Sums.{sum_by-cons}
use Rattle.dude_base.specs.declared.write.Write.{Write}
use Rattle.dude_base.specs.Records.{RedoBundle, first_of}
use Rattle.dude_base.specs.Writes.{written, HasDistinctPlaces}
use Rattle.redo_record.specs.Waiting.{Waiting, Lead, IsEnd, AreDisjoint}
use Rattle.group_combine.specs.Group.{last_written}
use Rattle.group_combine.specs.Numbered.{last_of}
use Rattle.group_combine.proofs.Effects.{overwritten-last, written_by_records}
use Rattle.group_combine.proofs.LastWrites.{last_of-records, writes_more}
use Rattle.dude_core.specs.Chains.{writes_in, HasTaken}
use Rattle.dude_core.specs.ReplayRooms.{BringsOn}
use Rattle.dude_core.proofs.Chains.{LeftOf, wait_one, lead_none, lead_push, left_push, alone, end_upto}

-- how many writes the waiting bundles up to a number have
pub writes_upto : ℕ → List Waiting → ℕ
writes_upto n [] = 0
writes_upto n (w ∷ ws) = (if nat_lt n w.redo.last then 0 else length w.redo.writes) + writes_upto n ws

counted_over : (n : ℕ) (w : Waiting) (ws : List Waiting) → n < w.redo.last → writes_upto n (w ∷ ws) ≡ writes_upto n ws
unfolding writes_upto
counted_over n w ws lt = rw (lt-ltb n w.redo.last lt) (omega arith)

counted_under : (n : ℕ) (w : Waiting) (ws : List Waiting) → w.redo.last ≤ n → writes_upto n (w ∷ ws) ≡ length w.redo.writes + writes_upto n ws
unfolding writes_upto
counted_under n w ws le = rw (le-ltb n w.redo.last le) refl

none_upto : (n : ℕ) → writes_upto n [] ≡ 0
unfolding writes_upto
none_upto n = refl

upto_more : (m n : ℕ) → m ≤ n → (ws : List Waiting) → writes_upto m ws ≤ writes_upto n ws
upto_more m n le [] = let a = none_upto m in let b = none_upto n in omega arith
upto_more m n le (w ∷ ws) =
    let rest = upto_more m n le ws in
    elim (cases_lt n w.redo.last) [
      | inl over ↦ let a = counted_over m w ws (omega arith) in let b = counted_over n w ws over in omega arith
      | inr under ↦
          let b = counted_under n w ws under in
          elim (cases_lt m w.redo.last) [
            | inl over ↦ let a = counted_over m w ws over in omega arith
            | inr low ↦ let a = counted_under m w ws low in omega arith
          ]
    ]

pub upto_all : (n : ℕ) (ws : List Waiting) → writes_upto n ws ≤ writes_in ws
upto_all n [] = let a = none_upto n in omega arith
upto_all n (w ∷ ws) =
    let rest = upto_all n ws in
    let sum = sum_by-cons (λ (v : Waiting). length v.redo.writes) w ws in
    elim (cases_lt n w.redo.last) [
      | inl over ↦ let a = counted_over n w ws over in omega arith
      | inr under ↦ let a = counted_under n w ws under in omega arith
    ]

-- with those of a waiting bundle over the number
pub upto_with : (n : ℕ) (w : Waiting) (ws : List Waiting) → Contains ws w → n < w.redo.last → writes_upto n ws + length w.redo.writes ≤ writes_upto w.redo.last ws
upto_with n w [] (k, lt, is) over = absurd (omega arith)
upto_with n w (v ∷ vs) (zero, lt, is) over =
    let same : v ≡ w = is in
    let a = counted_over n w vs over in
    let b = counted_under w.redo.last w vs (omega arith) in
    let rest = upto_more n w.redo.last (omega arith) vs in
    let one : writes_upto n (v ∷ vs) ≡ writes_upto n (w ∷ vs) = ap (λ (u : Waiting). writes_upto n (u ∷ vs)) same in
    let two : writes_upto w.redo.last (v ∷ vs) ≡ writes_upto w.redo.last (w ∷ vs) = ap (λ (u : Waiting). writes_upto w.redo.last (u ∷ vs)) same in
    omega arith
upto_with n w (v ∷ vs) (suc k, lt, is) over =
    let rest = upto_with n w vs (k, omega arith, is) over in
    elim (cases_lt w.redo.last v.redo.last) [
      | inl high ↦ let a = counted_over n v vs (omega arith) in let b = counted_over w.redo.last v vs high in omega arith
      | inr low ↦
          let b = counted_under w.redo.last v vs low in
          elim (cases_lt n v.redo.last) [
            | inl past ↦ let a = counted_over n v vs past in omega arith
            | inr under ↦ let a = counted_under n v vs under in omega arith
          ]
    ]

-- These are the writes of bundles that lead from one number to another, `end`, with which each list that leads on to a third begins.
pub record Taking (waiting : List Waiting) (from end to : ℕ) (taken : List Write) : Type 0 where
  pub bundles : List RedoBundle
  pub lead : Lead waiting from bundles end
  pub each : (ts : List RedoBundle) → Lead waiting from ts to → LeftOf waiting bundles ts end to
  pub taken_is : taken ≡ flat_map (λ r. r.writes) bundles
  pub distinct : All (λ r. HasDistinctPlaces r.writes) bundles
  pub few : length taken ≤ writes_upto end waiting

module _ (waiting : List Waiting) (distinct : AreDisjoint waiting) (from to : ℕ) where
  pub taking_none : (taken : List Write) → taken ≡ [] → Taking waiting from from to taken
  taking_none taken none = record {
    bundles = [];
    lead = lead_none waiting distinct from;
    each = λ ts lead. record { rest = ts; whole = refl; lead = lead };
    taken_is = none;
    distinct = All-nil (λ (r : RedoBundle). HasDistinctPlaces r.writes);
    few = (let long : length taken ≡ 0 = ap (λ (l : List Write). length l) none in omega arith);
  }

  -- there is room for one bundle more
  pub taking_room : (end : ℕ) (taken : List Write) (w : Waiting) (r : RedoBundle) → Taking waiting from end to taken → Contains waiting w → w.redo ≡ r → first_of r ≡ end + 1 → length taken + length r.writes ≤ writes_in waiting
  taking_room end taken w r t is same first =
      let last : w.redo.last ≡ r.last = ap (λ (b : RedoBundle). b.last) same in
      let long : length w.redo.writes ≡ length r.writes = ap (λ (b : RedoBundle). length b.writes) same in
      let few = t.few in let with_it = upto_with end w waiting is (omega arith) in let all = upto_all w.redo.last waiting in
      omega arith

  pub taking_more : (end : ℕ) (taken more : List Write) (w : Waiting) (r : RedoBundle) → Taking waiting from end to taken → Contains waiting w → w.redo ≡ r → first_of r ≡ end + 1 → end < to
      → HasDistinctPlaces r.writes → more ≡ taken ++ r.writes → Taking waiting from r.last to more
  taking_more end taken more w r t is same first lt apart more_is =
      let waits = wait_one waiting distinct w is r same in
      let last : w.redo.last ≡ r.last = ap (λ (b : RedoBundle). b.last) same in
      let long : length w.redo.writes ≡ length r.writes = ap (λ (b : RedoBundle). length b.writes) same in
      record {
        bundles = t.bundles ++ r ∷ [];
        lead = lead_push waiting distinct r from end t.bundles waits first t.lead;
        each = λ ts lead. left_push waiting distinct r end to t.bundles ts waits first lt (t.each ts lead);
        taken_is = more_is ∙ (ap (λ (l : List Write). l ++ r.writes) t.taken_is ∙ writes_more t.bundles r);
        distinct = All-push (λ (b : RedoBundle). HasDistinctPlaces b.writes) t.bundles r t.distinct apart;
        few = (let few = t.few in let with_it = upto_with end w waiting is (omega arith) in
            let sum : length more ≡ length taken + length r.writes = ap (λ (l : List Write). length l) more_is ∙ length-append taken r.writes in
            let upto : writes_upto w.redo.last waiting ≡ writes_upto r.last waiting = ap (λ (n : ℕ). writes_upto n waiting) last in omega arith);
      }

  pub taking_all : (end : ℕ) (taken : List Write) → Taking waiting from end to taken → end ≡ to → HasTaken waiting from to taken
  taking_all end taken t same = record {
    bundles = t.bundles;
    alone = alone waiting distinct from end to t.bundles same t.lead t.each;
    taken_is = t.taken_is;
    distinct = t.distinct;
    few = (let few = t.few in let all = upto_all end waiting in omega arith);
  }

  -- what is left of a list that leads there begins with not_any bundle, or begins past it
  pub taking_stuck : (end : ℕ) (taken : List Write) → Taking waiting from end to taken → (IsEnd waiting end to → ⊥) → IsEnd waiting from to → ⊥
  taking_stuck end taken t not_any e = let l = t.each e.records e.lead in not_any (record { records = l.rest; lead = l.lead })

  pub taking_tells : (end : ℕ) (taken : List Write) → Taking waiting from end to taken → to ≤ end → MatchBool (end == to) (HasTaken waiting from to taken) (IsEnd waiting from to → ⊥)
  taking_tells end taken t over = elim (cases_eq end to) [
    | inl is ↦ rw (eq-eqb end to is) (taking_all end taken t is)
    | inr other ↦ rw (ne_eqb end to other) (taking_stuck end taken t (λ e. let up = end_upto waiting distinct end to e in other (omega arith)))
  ]

  pub brings_on : (taken ws : List Write) → HasTaken waiting from to taken → AllPairs (λ v w. v.at < w.at) ws → ((i : ℕ) → written ws i ≡ last_of taken i) → BringsOn waiting from to ws
  brings_on taken ws h rising is =
      let last : (i : ℕ) → written ws i ≡ last_written h.bundles i = λ i. is i ∙ (ap (λ (l : List Write). last_of l i) h.taken_is ∙ last_of-records h.bundles i h.distinct) in
      record {
        bundles = h.bundles;
        alone = h.alone;
        rising = rising;
        each = written_by_records h.bundles ws rising last;
        effect = λ array. overwritten-last h.bundles ws array last;
      }

-- one write more of a list
pub take_next : (ws : List Write) (k : ℕ) (w : Write) → k < length ws → slice_get ws k ≡ Some w → take (k + 1) ws ≡ take k ws ++ w ∷ []
take_next ws k w lt is = take_more ws k w lt ∙ ap (λ (v : Write). take k ws ++ v ∷ []) (get_or_from_slice_get ws k w w is)
