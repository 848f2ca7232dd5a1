-- Records that are listed: their numbers, their writes, and the bundles that join them.
use Rattle.std.proofs.Common.{◌≡◌, ◌≢◌, ℕ, zero, suc, ◌+◌, ◌-◌, ◌<◌, ◌≤◌, ◌⊎◌, List, [], ◌∷◌, ◌++◌, All, refl, sym, ap, ◌∙◌, subst, inl, inr, ⊎_elim, eq-eqb, ne_eqb, arith}
use Rattle.std.specs.Prelude.{Option, Some, None}
use Rattle.std.specs.Option.{option_or}
use Rattle.std.proofs.lemmas.Bool.{true≢false, cases_Bool, cases_lt, cases_eq}
use Rattle.std.proofs.lemmas.List.Elements.{All-cons, All-nil}
use Rattle.dude_base.specs.Records.{RedoBundle, RedoRecord, bundle_of, first_of, with_next}
use Rattle.dude_base.specs.Writes.{HasDistinctPlaces, written}
use Rattle.dude_base.proofs.Joining.{written-put_all}
use Rattle.core_events.specs.Entries.{History}
use Rattle.core_events.specs.Keyed.{Distinct, has}
use Rattle.core_events.specs.KeptNumbers.{numbers_of}
use Rattle.stm_slots.specs.Records.{AreNew, HasRecord, IsReached, JoinsJust, JoinsRecords, LacksRecord, LawOfJoinedRecords, last_written, writes_in}

-- ---- one record before others

pub has_here : (r : RedoRecord) (rs : List RedoRecord) → HasRecord (r ∷ rs) r.number
has_here r rs = rw (eq-eqb r.number r.number refl) refl

pub has_more : (r : RedoRecord) (rs : List RedoRecord) (n : ℕ) → HasRecord rs n → HasRecord (r ∷ rs) n
has_more r rs n h = elim (cases_eq r.number n) [ inl e ↦ rw (eq-eqb r.number n e) refl | inr o ↦ rw (ne_eqb r.number n o) h ]

pub has_either : (r : RedoRecord) (rs : List RedoRecord) (n : ℕ) → HasRecord (r ∷ rs) n → (r.number ≡ n) ⊎ HasRecord rs n
has_either r rs n h = elim (cases_eq r.number n) [ inl e ↦ inl e | inr o ↦ inr (let t = rw (ne_eqb r.number n o) at h in t) ]

pub writes_here : (r : RedoRecord) (rs : List RedoRecord) → writes_in (r ∷ rs) r.number ≡ r.writes
writes_here r rs = rw (eq-eqb r.number r.number refl) refl

pub writes_more : (r : RedoRecord) (rs : List RedoRecord) (n : ℕ) → r.number ≢ n → writes_in (r ∷ rs) n ≡ writes_in rs n
writes_more r rs n o = rw (ne_eqb r.number n o) refl

-- the number isn't both there and lacking
pub not_both : (rs : List RedoRecord) (n : ℕ) → HasRecord rs n → LacksRecord rs n → ⊥
not_both rs n there lacks = true≢false (sym there ∙ lacks)

pub lacks_from : (rs : List RedoRecord) (n : ℕ) → (HasRecord rs n → ⊥) → LacksRecord rs n
lacks_from rs n none = ⊎_elim (λ there. absurd (none there)) (λ lacks. lacks) (cases_Bool (has (numbers_of rs) n))

pub lacks_both : (r : RedoRecord) (rs : List RedoRecord) (n : ℕ) → r.number ≢ n → LacksRecord rs n → LacksRecord (r ∷ rs) n
lacks_both r rs n o lacks = rw (ne_eqb r.number n o) lacks

-- ---- more records before others

pub has_front : (more rs : List RedoRecord) (n : ℕ) → HasRecord more n → HasRecord (more ++ rs) n
has_front [] rs n there = absurd (true≢false (sym there))
has_front (r ∷ more) rs n there = ⊎_elim (λ e. subst (HasRecord (r ∷ (more ++ rs))) e (has_here r (more ++ rs))) (λ old. has_more r (more ++ rs) n (has_front more rs n old)) (has_either r more n there)

pub has_behind : (more rs : List RedoRecord) (n : ℕ) → HasRecord rs n → HasRecord (more ++ rs) n
has_behind [] rs n there = there
has_behind (r ∷ more) rs n there = has_more r (more ++ rs) n (has_behind more rs n there)

pub has_either_list : (more rs : List RedoRecord) (n : ℕ) → HasRecord (more ++ rs) n → HasRecord more n ⊎ HasRecord rs n
has_either_list [] rs n there = inr there
has_either_list (r ∷ more) rs n there = ⊎_elim
    (λ e. inl (subst (HasRecord (r ∷ more)) e (has_here r more)))
    (λ others. ⊎_elim (λ h. inl (has_more r more n h)) (λ h. inr h) (has_either_list more rs n others))
    (has_either r (more ++ rs) n there)

pub writes_front : (more rs : List RedoRecord) (n : ℕ) → HasRecord more n → writes_in (more ++ rs) n ≡ writes_in more n
writes_front [] rs n there = absurd (true≢false (sym there))
writes_front (r ∷ more) rs n there = elim (cases_eq r.number n) [
  | inl e ↦ rw (eq-eqb r.number n e) refl
  | inr o ↦
      let old : HasRecord more n = ⊎_elim (λ e. absurd (o e)) (λ h. h) (has_either r more n there) in
      rw (ne_eqb r.number n o) (writes_front more rs n old)
]

pub writes_behind : (more rs : List RedoRecord) (n : ℕ) → LacksRecord more n → writes_in (more ++ rs) n ≡ writes_in rs n
writes_behind [] rs n lacks = refl
writes_behind (r ∷ more) rs n lacks = elim (cases_eq r.number n) [
  | inl e ↦ absurd (not_both (r ∷ more) n (subst (HasRecord (r ∷ more)) e (has_here r more)) lacks)
  | inr o ↦
      let old : LacksRecord more n = lacks_from more n (λ h. not_both (r ∷ more) n (has_more r more n h) lacks) in
      rw (ne_eqb r.number n o) (writes_behind more rs n old)
]

-- no number stands twice in both
pub distinct_both : (more rs : List RedoRecord) → Distinct (numbers_of more) → Distinct (numbers_of rs) → ((n : ℕ) → HasRecord more n → LacksRecord rs n) → Distinct (numbers_of (more ++ rs))
distinct_both [] rs once others apart = others
distinct_both (r ∷ more) rs once others apart = (
  lacks_from (more ++ rs) r.number (λ h. ⊎_elim (λ front. not_both more r.number front once.0) (λ behind. not_both rs r.number behind (apart r.number (has_here r more))) (has_either_list more rs r.number h)),
  distinct_both more rs once.1 others (λ n h. apart n (has_more r more n h)),
)

-- what holds of each number that has a record holds of each record's
pub all_numbers : (P : ℕ → Type 0) (rs : List RedoRecord) → ((n : ℕ) → HasRecord rs n → P n) → All (λ r. P r.number) rs
all_numbers P [] each = All-nil (λ (r : RedoRecord). P r.number)
all_numbers P (r ∷ rs) each = All-cons (λ (q : RedoRecord). P q.number) r rs (each r.number (has_here r rs)) (all_numbers P rs (λ n h. each n (has_more r rs n h)))

-- a number that no record has is over those that are reached
pub over_reached : (first n m : ℕ) (rs : List RedoRecord) → first < m → LacksRecord rs m → IsReached first rs n → n < m
over_reached first n m rs lt lacks reached = ⊎_elim (λ h. h) (λ ge. absurd (not_both rs m (reached m lt ge) lacks)) (cases_lt n m)

pub reached_more : (first n : ℕ) (more rs : List RedoRecord) → IsReached first rs n → IsReached first (more ++ rs) n
reached_more first n more rs reached m lt le = has_behind more rs m (reached m lt le)

-- ---- bundles

-- what the last of so many numbers writes, by histories that agree on them
pub last_agree : (hist hist2 : History) (first n i : ℕ) → ((m : ℕ) → first ≤ m → m < first + n → hist2 m ≡ hist m) → last_written hist2 first n i ≡ last_written hist first n i
last_agree hist hist2 first zero i same = refl
last_agree hist hist2 first (suc n) i same =
    let e : hist2 (first + n) ≡ hist (first + n) = same (first + n) (omega arith) (omega arith) in
    let r : last_written hist2 first n i ≡ last_written hist first n i = last_agree hist hist2 first n i (λ m le lt. same m le (omega arith)) in
    rw (e, r) refl

-- a bundle joins still what other records agree on
pub joins_agree : (rs others : List RedoRecord) (b : RedoBundle) → ((n : ℕ) → HasRecord rs n → HasRecord others n) → ((n : ℕ) → HasRecord rs n → writes_in others n ≡ writes_in rs n)
    → JoinsRecords rs b → JoinsRecords others b
joins_agree rs others b kept same joins = record {
  has = λ n covers. kept n (joins.has n covers);
  same = λ i. joins.same i ∙ sym (last_agree (writes_in rs) (writes_in others) (first_of b) (b.last + 1 - first_of b) i
      (λ m low lt. same m (joins.has m (record { low = low; high = omega arith }))));
}

module _ (first : ℕ) (rs more : List RedoRecord) (new : AreNew first rs more) where
  -- a record that was handed over isn't among the new ones
  pub lacks_new : (n : ℕ) → HasRecord rs n → LacksRecord more n
  lacks_new n there = lacks_from more n (λ h. not_both rs n there (new.lacks n h))

  pub joins_more : (b : RedoBundle) → JoinsRecords rs b → JoinsRecords (more ++ rs) b
  joins_more b joins = joins_agree rs (more ++ rs) b (has_behind more rs) (λ n there. writes_behind more rs n (lacks_new n there)) joins

  pub joins_front : (b : RedoBundle) → JoinsRecords more b → JoinsRecords (more ++ rs) b
  joins_front b joins = joins_agree more (more ++ rs) b (has_front more rs) (writes_front more rs) joins

or_none : (o : Option ℕ) → option_or o None ≡ o
or_none (Some x) = refl
or_none None = refl

-- a bundle of one record
one_joined : (r : RedoRecord) → JoinsJust (r ∷ []) (bundle_of r)
one_joined r = record {
  joins = record {
    has = λ n covers. let low = covers.low in let high = covers.high in let e : r.number ≡ n = omega arith in subst (HasRecord (r ∷ [])) e (has_here r []);
    same = λ i.
        let one : r.number + 1 - (r.number - 0) ≡ 1 = omega arith in
        let here : (r.number - 0) + 0 ≡ r.number = omega arith in
        let alone : last_written (writes_in (r ∷ [])) (r.number - 0) 1 i ≡ written r.writes i =
        or_none (written (writes_in (r ∷ []) ((r.number - 0) + 0)) i)
        ∙ (ap (λ n. written (writes_in (r ∷ []) n) i) here ∙ ap (λ ws. written ws i) (writes_here r [])) in
        sym alone ∙ ap (λ n. last_written (writes_in (r ∷ [])) (r.number - 0) n i) (sym one);
  };
  once = (refl, tt);
  only = λ n there. ⊎_elim (λ e. record { low = omega arith; high = omega arith }) (λ none. absurd (true≢false (sym none))) (has_either r [] n there);
}

-- and one with the record of the next number
module _ (rs : List RedoRecord) (b : RedoBundle) (r : RedoRecord) (joined : JoinsJust rs b) (span : b.span ≤ b.last) (next : r.number ≡ b.last + 1) (places : HasDistinctPlaces r.writes) where
  same_first : first_of (with_next b r) ≡ first_of b
  same_first = omega arith

  lacks_next : LacksRecord rs r.number
  lacks_next = lacks_from rs r.number (λ h. let high = (joined.only r.number h).high in absurd (omega arith))

  next_same : (i : ℕ) → written (with_next b r).writes i ≡ last_written (writes_in (r ∷ rs)) (first_of (with_next b r)) ((b.last + 1) + 1 - first_of (with_next b r)) i
  next_same i =
      let hist = writes_in (r ∷ rs) in
      let count : ℕ = b.last + 1 - first_of b in
      let steps : (b.last + 1) + 1 - first_of (with_next b r) ≡ suc count = omega arith in
      let at : first_of b + count ≡ r.number = omega arith in
      let last : written (hist (first_of b + count)) i ≡ written r.writes i = ap (λ n. written (hist n) i) at ∙ ap (λ ws. written ws i) (writes_here r rs) in
      let before : last_written hist (first_of b) count i ≡ written b.writes i =
      last_agree (writes_in rs) hist (first_of b) count i (λ m low lt. writes_more r rs m (λ e. omega arith)) ∙ sym (joined.joins.same i) in
      written-put_all b.writes r.writes i places
      ∙ (ap (λ o. option_or o (written b.writes i)) (sym last) ∙ ap (λ o. option_or (written (hist (first_of b + count)) i) o) (sym before)
      ∙ (ap (λ n. last_written hist (first_of b) n i) (sym steps) ∙ ap (λ f. last_written hist f ((b.last + 1) + 1 - first_of (with_next b r)) i) (sym same_first)))

  next_joined : JoinsJust (r ∷ rs) (with_next b r)
  next_joined = record {
    joins = record {
      has = λ n covers. let low = covers.low in let high = covers.high in elim (cases_eq r.number n) [
        | inl e ↦ subst (HasRecord (r ∷ rs)) e (has_here r rs)
        | inr o ↦ has_more r rs n (joined.joins.has n (record { low = omega arith; high = omega arith }))
      ];
      same = next_same;
    };
    once = (lacks_next, joined.once);
    only = λ n there. ⊎_elim
        (λ e. record { low = omega arith; high = omega arith })
        (λ old. let covers = joined.only n old in let low = covers.low in let high = covers.high in record { low = omega arith; high = omega arith })
        (has_either r rs n there);
  }

pub joined_records_law : LawOfJoinedRecords
joined_records_law = record { one = one_joined; next = next_joined }
