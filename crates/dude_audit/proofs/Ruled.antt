-- What a look at the lines one after another knows of the earlier numbers, and what it says of the rules.
use Rattle.std.proofs.Common.{◌≡◌, ℕ, ◌+◌, ◌<◌, ◌≤◌, Bool, true, false, ◌&&◌, ◌||◌, IsTrue, List, [], ◌∷◌, ◌++◌, length, get_or, take, refl, ap, sym, ◌∙◌, subst, arith, inl, inr, ◌⊎◌, ⊎_elim}
use Rattle.std.specs.Prelude.{nat_le, nat_eq, if◌then◌else◌, max}
use Rattle.std.specs.List.{All, AllPairs, Contains}
use Rattle.std.proofs.lemmas.Bool.{both_ways, cases_Bool, cases_lt, ltb-true, ltb-false, leb-true, leb-false, eqb-true, eq-eqb, and_parts, and_cases, and_from, or_cases, or_left, or_right}
use Rattle.std.proofs.lemmas.List.{take_more, get_or_default, get_or-take, length-take}
use Rattle.std.proofs.lemmas.List.Elements.{All-nil, All-push, All-weaker, All-contains, All-contains_itself, Contains-push, Contains-push_cases, Contains-append_left}
use Rattle.dude_audit.specs.declared.claim.Claim.{Claim}
use Rattle.dude_audit.specs.Claim.{claims_sync}
use Rattle.dude_audit.specs.Rules.{within_bounds, IsFollowedBy, KeepsRule, IsFirstBroken}

-- the greatest number, from the first one on, of those of these lines that are of the file and pass the test
pub record IsGreatest (first : ℕ) (earlier : List Claim) (file : ℕ) (P : Claim → Type 0) (greatest : ℕ) : Type 0 where
  pub from : first ≤ greatest
  pub over : All (λ e. e.file ≡ file → P e → e.number ≤ greatest) earlier
  pub is : (greatest ≡ first) ⊎ ((e : Claim) × Contains earlier e × (e.file ≡ file) × P e × (e.number ≡ greatest))

abbrev pub Asked : Claim → Type 0
Asked e = claims_sync e ≡ false

abbrev pub Any : Claim → Type 0
Any e = e.file ≡ e.file

-- these lines have a request that wrote with this number
abbrev pub WasWritten : List Claim → ℕ → Type 0
WasWritten earlier n = (e : Claim) × Contains earlier e × (e.wrote ≡ true) × (e.number ≡ n)

pub record Known (first : ℕ) (earlier : List Claim) (file asked any : ℕ) : Type 0 where
  pub upto : All (λ e. e.file ≤ file) earlier
  pub file_is : (file ≡ 0) ⊎ ((e : Claim) × Contains earlier e × (e.file ≡ file))
  pub asked_is : IsGreatest first earlier file Asked asked
  pub any_is : IsGreatest first earlier file Any any

greatest_none : (first file : ℕ) (P : Claim → Type 0) → IsGreatest first [] file P first
greatest_none first file P = record { from = omega arith; over = All-nil (λ e. e.file ≡ file → P e → e.number ≤ first); is = inl refl }

pub known_none : (first : ℕ) → Known first [] 0 first first
known_none first = record {
  upto = All-nil (λ e. e.file ≤ 0);
  file_is = inl refl;
  asked_is = greatest_none first 0 Asked;
  any_is = greatest_none first 0 Any;
}

-- where another file begins
greatest_turn : (first : ℕ) (earlier : List Claim) (file next : ℕ) (P : Claim → Type 0) (greatest : ℕ) (same : Bool) → (same ≡ true → next ≡ file) → (same ≡ false → All (λ e. e.file ≡ next → ⊥) earlier)
    → IsGreatest first earlier file P greatest → IsGreatest first earlier next P (if same then greatest else first)
greatest_turn first earlier file next P greatest true alike other is = subst (λ (f : ℕ). IsGreatest first earlier f P greatest) (sym (alike refl)) is
greatest_turn first earlier file next P greatest false alike other is = record {
  from = omega arith;
  over = All-weaker (λ e. e.file ≡ next → ⊥) (λ e. e.file ≡ next → P e → e.number ≤ first) (λ e no at p. absurd (no at)) earlier (other refl);
  is = inl refl;
}

pub known_turn : (first : ℕ) (earlier : List Claim) (file asked any next : ℕ) (same : Bool) → Known first earlier file asked any → All (λ e. e.file ≤ next) earlier
    → (same ≡ true → next ≡ file) → (same ≡ false → next ≡ file → ⊥)
    → IsGreatest first earlier next Asked (if same then asked else first) × IsGreatest first earlier next Any (if same then any else first)
known_turn first earlier file asked any next same known below alike differs =
    let over : file ≤ next = ⊎_elim (λ zero. omega (arith, zero)) (λ e. let le = All-contains (λ x. x.file ≤ next) earlier e.0 below e.1 in omega (arith, le, e.2)) known.file_is in
    let other : same ≡ false → All (λ e. e.file ≡ next → ⊥) earlier = λ no. All-weaker (λ e. e.file ≤ file) (λ e. e.file ≡ next → ⊥) (λ e le at. differs no (omega (arith, le, at, over))) earlier known.upto in
    (greatest_turn first earlier file next Asked asked same alike other known.asked_is, greatest_turn first earlier file next Any any same alike other known.any_is)

module _ (first last : ℕ) (earlier : List Claim) (c : Claim) (asked any : ℕ) (asked_is : IsGreatest first earlier c.file Asked asked) (any_is : IsGreatest first earlier c.file Any any) where
  -- the three kinds of lines
  sync_bounds : claims_sync c ≡ true → within_bounds c asked any last ≡ true → (any ≤ c.number) × (c.number ≤ last)
  sync_bounds sync within =
      let both : (nat_le any c.number && nat_le c.number last) ≡ true = rw sync at within in
      let parts = and_parts (nat_le any c.number) (nat_le c.number last) both in
      (leb-true any c.number parts.0, leb-true c.number last parts.1)

  wrote_bounds : claims_sync c ≡ false → c.wrote ≡ true → within_bounds c asked any last ≡ true → asked < c.number
  wrote_bounds ask wrote within = ltb-true asked c.number (rw (ask, wrote) at within)

  read_bounds : claims_sync c ≡ false → c.wrote ≡ false → within_bounds c asked any last ≡ true → asked ≤ c.number
  read_bounds ask wrote within = leb-true asked c.number (rw (ask, wrote) at within)

  pub asked_bounds : claims_sync c ≡ false → within_bounds c asked any last ≡ true → asked ≤ c.number
  asked_bounds ask within = ⊎_elim (λ w. let less = wrote_bounds ask w within in omega (arith, less)) (λ r. read_bounds ask r within) (cases_Bool c.wrote)

  -- a line within its bounds, that wrote with no earlier number, keeps its rule
  pub rule_kept : (c.wrote ≡ true → claims_sync c ≡ false) → within_bounds c asked any last ≡ true → (c.wrote ≡ true → WasWritten earlier c.number → ⊥) → KeepsRule first last earlier c
  rule_kept asks within anew = record {
    from = ⊎_elim (λ sync. let b = sync_bounds sync within in let f = any_is.from in omega (arith, b.0, f)) (λ ask. let b = asked_bounds ask within in let f = asked_is.from in omega (arith, b, f)) (cases_Bool (claims_sync c));
    over = λ wrote. let b = wrote_bounds (asks wrote) wrote within in let f = asked_is.from in omega (arith, b, f);
    differs = λ wrote. All-weaker (Contains earlier) (λ e. e.wrote ≡ true → e.number ≡ c.number → ⊥) (λ e there w is. anew wrote (e, there, w, is)) earlier (All-contains_itself earlier);
    follows = λ ask. All-weaker (λ e. e.file ≡ c.file → Asked e → e.number ≤ asked) (λ e. e.file ≡ c.file → Asked e → IsFollowedBy e c)
        (λ e upto file asks'. record {
          upto = let b = asked_bounds ask within in let u = upto file asks' in omega (arith, b, u);
          under = λ wrote. let b = wrote_bounds ask wrote within in let u = upto file asks' in omega (arith, b, u);
        }) earlier asked_is.over;
    synced = λ sync. All-weaker (λ e. e.file ≡ c.file → Any e → e.number ≤ any) (λ e. e.file ≡ c.file → e.number ≤ c.number)
        (λ e upto file. let b = sync_bounds sync within in let u = upto file refl in omega (arith, b.0, u)) earlier any_is.over;
    durable = λ sync. (sync_bounds sync within).1;
  }

  -- a line that keeps its rule is within its bounds
  asked_under : KeepsRule first last earlier c → claims_sync c ≡ false → asked ≤ c.number
  asked_under keeps ask = ⊎_elim (λ is. let f = keeps.from in omega (arith, is, f))
      (λ e. let u = (All-contains (λ x. x.file ≡ c.file → Asked x → IsFollowedBy x c) earlier e.0 (keeps.follows ask) e.1 e.2 e.3).upto in let is = e.4 in omega (arith, u, is)) asked_is.is

  asked_below : KeepsRule first last earlier c → claims_sync c ≡ false → c.wrote ≡ true → asked < c.number
  asked_below keeps ask wrote = ⊎_elim (λ is. let f = keeps.over wrote in omega (arith, is, f))
      (λ e. let u = (All-contains (λ x. x.file ≡ c.file → Asked x → IsFollowedBy x c) earlier e.0 (keeps.follows ask) e.1 e.2 e.3).under wrote in let is = e.4 in omega (arith, u, is)) asked_is.is

  any_under : KeepsRule first last earlier c → claims_sync c ≡ true → any ≤ c.number
  any_under keeps sync = ⊎_elim (λ is. let f = keeps.from in omega (arith, is, f))
      (λ e. let u = All-contains (λ x. x.file ≡ c.file → x.number ≤ c.number) earlier e.0 (keeps.synced sync) e.1 e.2 in let is = e.4 in omega (arith, u, is)) any_is.is

  sync_out : claims_sync c ≡ true → within_bounds c asked any last ≡ false → KeepsRule first last earlier c → ⊥
  sync_out sync out keeps =
      let both : (nat_le any c.number && nat_le c.number last) ≡ false = rw sync at out in
      ⊎_elim
      (λ a. let lt = leb-false any c.number a in let le = any_under keeps sync in absurd (omega (arith, lt, le)))
      (λ b. let lt = leb-false c.number last b in let le = keeps.durable sync in absurd (omega (arith, lt, le)))
      (and_cases (nat_le any c.number) (nat_le c.number last) both)

  wrote_out : claims_sync c ≡ false → c.wrote ≡ true → within_bounds c asked any last ≡ false → KeepsRule first last earlier c → ⊥
  wrote_out ask wrote out keeps =
      let le = ltb-false asked c.number (rw (ask, wrote) at out) in let lt = asked_below keeps ask wrote in absurd (omega (arith, lt, le))

  read_out : claims_sync c ≡ false → c.wrote ≡ false → within_bounds c asked any last ≡ false → KeepsRule first last earlier c → ⊥
  read_out ask read out keeps =
      let lt = leb-false asked c.number (rw (ask, read) at out) in let le = asked_under keeps ask in absurd (omega (arith, lt, le))

  pub rule_broken : within_bounds c asked any last ≡ false → KeepsRule first last earlier c → ⊥
  rule_broken out keeps =
      ⊎_elim (λ sync. sync_out sync out keeps)
      (λ ask. ⊎_elim (λ wrote. wrote_out ask wrote out keeps) (λ read. read_out ask read out keeps) (cases_Bool c.wrote))
      (cases_Bool (claims_sync c))

  pub rule_repeated : c.wrote ≡ true → WasWritten earlier c.number → KeepsRule first last earlier c → ⊥
  rule_repeated wrote was keeps = All-contains (λ e. e.wrote ≡ true → e.number ≡ c.number → ⊥) earlier was.0 (keeps.differs wrote) was.1 was.2 was.3

  -- one line more
  asked_more : (claims_sync c ≡ false → asked ≤ c.number) → IsGreatest first (earlier ++ c ∷ []) c.file Asked (if claims_sync c then asked else c.number)
  asked_more rises =
      ⊎_elim
      (λ sync. rw sync (record {
        from = asked_is.from;
        over = All-push (λ e. e.file ≡ c.file → Asked e → e.number ≤ asked) earlier c asked_is.over (λ at ask. absurd (both_ways (claims_sync c) ask sync));
        is = ⊎_elim (λ is. inl is) (λ e. inr (e.0, Contains-append_left earlier (c ∷ []) e.0 e.1, e.2, e.3, e.4)) asked_is.is;
      }))
      (λ ask. let le = rises ask in rw ask (record {
        from = let f = asked_is.from in omega (arith, le, f);
        over = All-push (λ e. e.file ≡ c.file → Asked e → e.number ≤ c.number) earlier c
            (All-weaker (λ e. e.file ≡ c.file → Asked e → e.number ≤ asked) (λ e. e.file ≡ c.file → Asked e → e.number ≤ c.number) (λ e upto at a. let u = upto at a in omega (arith, u, le)) earlier asked_is.over)
            (λ at a. omega arith);
        is = inr (c, Contains-push earlier c, refl, ask, refl);
      }))
      (cases_Bool (claims_sync c))

  any_more : IsGreatest first (earlier ++ c ∷ []) c.file Any (max any c.number)
  any_more = record {
    from = let f = any_is.from in omega (arith, f);
    over = All-push (λ e. e.file ≡ c.file → Any e → e.number ≤ max any c.number) earlier c
        (All-weaker (λ e. e.file ≡ c.file → Any e → e.number ≤ any) (λ e. e.file ≡ c.file → Any e → e.number ≤ max any c.number) (λ e upto at a. let u = upto at a in omega (arith, u)) earlier any_is.over)
        (λ at a. omega arith);
    is = ⊎_elim (λ lt. inr (c, Contains-push earlier c, refl, refl, omega (arith, lt)))
        (λ ge. ⊎_elim (λ is. inl (omega (arith, is, ge))) (λ e. let is = e.4 in inr (e.0, Contains-append_left earlier (c ∷ []) e.0 e.1, e.2, e.3, omega (arith, is, ge))) any_is.is) (cases_lt any c.number);
  }

  pub known_more : All (λ e. e.file ≤ c.file) earlier → within_bounds c asked any last ≡ true → Known first (earlier ++ c ∷ []) c.file (if claims_sync c then asked else c.number) (max any c.number)
  known_more below within = record {
    upto = All-push (λ e. e.file ≤ c.file) earlier c below (omega arith);
    file_is = inr (c, Contains-push earlier c, refl);
    asked_is = asked_more (λ ask. asked_bounds ask within);
    any_is = any_more;
  }

-- the step of a loop over the lines
module _ (first last : ℕ) (claims : List Claim) (k file asked any : ℕ) (e : Claim) (inside : k < length claims) (rises : AllPairs (λ c d. c.file ≤ d.file) claims) (asks : All (λ c. c.wrote ≡ true → claims_sync c ≡ false) claims) (ruled : (j : ℕ) (d : Claim) → j < k → KeepsRule first last (take j claims) (get_or claims j d)) (known : Known first (take k claims) file asked any) where
  abbrev it : Claim
  it = get_or claims k e

  abbrev before : List Claim
  before = take k claims

  below : All (λ x. x.file ≤ it.file) before
  below = λ j d lt.
      let less : j < k = omega (arith, length-take k claims, lt) in
      rw (get_or-take k claims j d less) (subst (λ (x : Claim). (get_or claims j d).file ≤ x.file) (get_or_default claims k d e inside) (rises j k d less inside))

  module _ (same : Bool) (alike : same ≡ true → it.file ≡ file) (differs : same ≡ false → it.file ≡ file → ⊥) (asked1 any1 : ℕ) (asked_so : asked1 ≡ (if same then asked else first)) (any_so : any1 ≡ (if same then any else first)) (test : Bool) (tested : test ≡ within_bounds it asked1 any1 last) where
    turned : IsGreatest first before it.file Asked asked1 × IsGreatest first before it.file Any any1
    turned = rw (asked_so, any_so) (known_turn first before file asked any it.file same known below alike differs)

    first_so : (KeepsRule first last before it → ⊥) → IsFirstBroken first last claims k
    first_so broken = record { within = inside; before = ruled; here = λ d keeps. broken (subst (KeepsRule first last before) (get_or_default claims k d e inside) keeps) }

    pub out_of_bounds : test ≡ false → IsFirstBroken first last claims k
    out_of_bounds out = first_so (rule_broken first last before it asked1 any1 turned.0 turned.1 (sym tested ∙ out))

    pub repeated : it.wrote ≡ true → WasWritten before it.number → IsFirstBroken first last claims k
    repeated wrote was = first_so (rule_repeated first last before it asked1 any1 turned.0 turned.1 wrote was)

    kept_here : test ≡ true → (it.wrote ≡ true → WasWritten before it.number → ⊥) → KeepsRule first last before it
    kept_here within anew = rule_kept first last before it asked1 any1 turned.0 turned.1 (asks k e inside) (sym tested ∙ within) anew

    pub ruled_more : test ≡ true → (it.wrote ≡ true → WasWritten before it.number → ⊥) → (j : ℕ) (d : Claim) → j < k + 1 → KeepsRule first last (take j claims) (get_or claims j d)
    ruled_more within anew j d lt =
        ⊎_elim (λ less. ruled j d less)
        (λ ge. let is : k ≡ j = omega (arith, lt, ge) in subst (λ (i : ℕ). KeepsRule first last (take i claims) (get_or claims i d)) is (subst (KeepsRule first last before) (get_or_default claims k e d inside) (kept_here within anew)))
        (cases_lt j k)

    pub known_next : test ≡ true → (asked2 any2 : ℕ) → asked2 ≡ (if claims_sync it then asked1 else it.number) → any2 ≡ max any1 it.number → Known first (take (k + 1) claims) it.file asked2 any2
    known_next within asked2 any2 a b = rw (a, b, take_more claims k e inside) (known_more first last before it asked1 any1 turned.0 turned.1 below (sym tested ∙ within))

-- the numbers written, when one line more is seen
written_push : (earlier : List Claim) (c : Claim) (q : ℕ) → WasWritten earlier q ⊎ ((c.wrote ≡ true) × (q ≡ c.number)) → WasWritten (earlier ++ c ∷ []) q
written_push earlier c q either = ⊎_elim (λ w. (w.0, Contains-append_left earlier (c ∷ []) w.0 w.1, w.2, w.3)) (λ h. (c, Contains-push earlier c, h.0, sym h.1)) either

written_cases : (earlier : List Claim) (c : Claim) (q : ℕ) → WasWritten (earlier ++ c ∷ []) q → WasWritten earlier q ⊎ ((c.wrote ≡ true) × (q ≡ c.number))
written_cases earlier c q w = ⊎_elim (λ there. inl (w.0, there, w.2, w.3)) (λ here. inr (subst (λ (x : Claim). x.wrote ≡ true) (sym here) w.2, sym w.3 ∙ ap (λ (x : Claim). x.number) (sym here))) (Contains-push_cases earlier c w.0 w.1)

pub written_more : (claims : List Claim) (k : ℕ) (e : Claim) (q : ℕ) (old new : Bool) → k < length claims → new ≡ (old || ((get_or claims k e).wrote && nat_eq q (get_or claims k e).number)) → ((IsTrue old → WasWritten (take k claims) q) × (WasWritten (take k claims) q → IsTrue old))
    → (IsTrue new → WasWritten (take (k + 1) claims) q) × (WasWritten (take (k + 1) claims) q → IsTrue new)
written_more claims k e q old new inside is both =
    let c : Claim = get_or claims k e in
    rw (take_more claims k e inside) (
      λ yes. written_push (take k claims) c q (⊎_elim (λ o. inl (both.0 o)) (λ h. let p = and_parts c.wrote (nat_eq q c.number) h in inr (p.0, eqb-true q c.number p.1)) (or_cases old (c.wrote && nat_eq q c.number) (sym is ∙ yes))),
      λ w. is ∙ ⊎_elim (λ o. or_left old (c.wrote && nat_eq q c.number) (both.1 o)) (λ h. or_right old (c.wrote && nat_eq q c.number) (and_from c.wrote (nat_eq q c.number) h.0 (eq-eqb q c.number h.1))) (written_cases (take k claims) c q w),
    )
