-- Which entry wrote with a number, and the arrays at the numbers.
use Rattle.std.proofs.Common.{◌≡◌, ◌==◌, ℕ, zero, suc, ◌<◌, Bool, true, false, ◌&&◌, ◌||◌, List, [], ◌∷◌, length, map, refl, ap, sym, ◌∙◌, subst, arith, inl, inr, ◌⊎◌, ⊎_elim, eq-eqb}
use Rattle.std.specs.Prelude.{Option, Some, None, if◌then◌else◌, slice_index, unwrap_or}
use Rattle.std.specs.List.{All, AllPairs, Contains}
use Rattle.std.proofs.lemmas.Bool.{cases_Bool, cases_lt, both_ways, eqb-true, and_from}
use Rattle.std.proofs.lemmas.List.{get_or_past}
use Rattle.std.proofs.lemmas.List.Elements.{All-map, All-weaker, All-contains, All-contains_itself}
use Rattle.std.proofs.lemmas.List.Kept.{AllPairs-cons}
use Rattle.dude_base.specs.declared.write.Write.{Write}
use Rattle.dude_base.specs.Writes.{written}
use Rattle.dude_base.proofs.WriteLists.{written_absent}
use Rattle.dude_base.proofs.Overwriting.{length-overwritten, index-overwritten}
use Rattle.core_events.specs.Keyed.{has, or_else, Distinct}
use Rattle.core_events.specs.Views.{Entry}
use Rattle.core_events.specs.Entries.{writes_of, value_at, numbers_written}
use Rattle.tatp_model.proofs.SameElements.{first_among, other_among, first_or_other}
use Rattle.run_order.specs.Numbers.{Differ}
use Rattle.legal_entries.specs.Served.{done_of, array_at}

abbrev pub is_writer : ℕ → Entry → Bool
is_writer n e = e.wrote && (e.number == n)

-- the entry that wrote with the number
abbrev pub writer : List Entry → ℕ → Option Entry
writer [] n = None
writer (e ∷ es) n = if is_writer n e then Some e else writer es n

abbrev pub writes_in : Option Entry → List Write
writes_in None = []
writes_in (Some e) = e.writes

pub writes_are : (es : List Entry) (n : ℕ) → writes_of es n ≡ writes_in (writer es n)
writes_are [] n = refl
writes_are (e ∷ es) n = ⊎_elim (λ y. rw y refl) (λ no. rw no (writes_are es n)) (cases_Bool (is_writer n e))

and_both : (a b : Bool) → (a && b) ≡ true → (a ≡ true) × (b ≡ true)
and_both true b e = (refl, e)
and_both false b e = absurd (both_ways false refl e)

pub record Writes (es : List Entry) (n : ℕ) (e : Entry) : Type 0 where
  pub among : Contains es e
  pub wrote : e.wrote ≡ true
  pub number : e.number ≡ n

pub writer_is : (es : List Entry) (n : ℕ) (e : Entry) → writer es n ≡ Some e → Writes es n e
writer_is [] n e is = absurd cc
writer_is (x ∷ es) n e is = ⊎_elim
    (λ y. let same : x ≡ e = (let q : Some x ≡ Some e = sym (rw y refl) ∙ is in cc) in let b = and_both x.wrote (x.number == n) y in
    subst (λ (z : Entry). Writes (x ∷ es) n z) same (record { among = first_among x es; wrote = b.0; number = eqb-true x.number n b.1 }))
    (λ no. let r = writer_is es n e (let q : writer es n ≡ Some e = sym (rw no refl) ∙ is in q) in record { among = other_among e x es r.among; wrote = r.wrote; number = r.number })
    (cases_Bool (is_writer n x))

writer_yes : (n : ℕ) (e : Entry) → e.wrote ≡ true → e.number ≡ n → is_writer n e ≡ true
writer_yes n e w is = and_from e.wrote (e.number == n) w (eq-eqb e.number n is)

-- a number that an entry wrote stands among those written
has_number : (es : List Entry) (n : ℕ) (e : Entry) → Writes es n e → has (numbers_written es) n ≡ true
has_number [] n e w = absurd (omega (arith, w.among.1))
has_number (x ∷ es) n e w = ⊎_elim
    (λ here. let wrote : x.wrote ≡ true = ap (λ (z : Entry). z.wrote) here ∙ w.wrote in let number : x.number ≡ n = ap (λ (z : Entry). z.number) here ∙ w.number in rw (wrote, eq-eqb x.number n number) refl)
    (λ there. let rest = has_number es n e (record { among = there; wrote = w.wrote; number = w.number }) in
    ⊎_elim (λ y. rw y (subst (λ (b : Bool). ((x.number == n) || b) ≡ true) (sym rest) (or_true (x.number == n)))) (λ no. rw no rest) (cases_Bool x.wrote))
    (first_or_other e x es w.among)
  where
    or_true : (b : Bool) → (b || true) ≡ true
    or_true true = refl
    or_true false = refl

distinct_rest : (x : Entry) (es : List Entry) → Distinct (numbers_written (x ∷ es)) → Distinct (numbers_written es)
distinct_rest x es d = ⊎_elim (λ y. (rw y at d).1) (λ no. rw no at d) (cases_Bool x.wrote)

-- and only one entry wrote with it
pub writer_only : (es : List Entry) (n : ℕ) (e : Entry) → Distinct (numbers_written es) → Writes es n e → writer es n ≡ Some e
writer_only [] n e d w = absurd (omega (arith, w.among.1))
writer_only (x ∷ es) n e d w = ⊎_elim
    (λ here.
    let wrote : x.wrote ≡ true = ap (λ (z : Entry). z.wrote) here ∙ w.wrote in
    let number : x.number ≡ n = ap (λ (z : Entry). z.number) here ∙ w.number in
    let yes : is_writer n x ≡ true = writer_yes n x wrote number in
    let q : Some x ≡ Some e = ap (λ (z : Entry). Some z) here in
    rw yes q)
    (λ there. let rest : Writes es n e = record { among = there; wrote = w.wrote; number = w.number } in
    ⊎_elim
    (λ y. let b = and_both x.wrote (x.number == n) y in let first : has (numbers_written es) x.number ≡ false = (rw b.0 at d).0 in let second = has_number es n e rest in
    absurd (both_ways (has (numbers_written es) n) (subst (λ (m : ℕ). has (numbers_written es) m ≡ false) (eqb-true x.number n b.1) first) second))
    (λ no. rw no (writer_only es n e (distinct_rest x es d) rest)) (cases_Bool (is_writer n x)))
    (first_or_other e x es w.among)

-- so two that wrote have different numbers
pub differ_all : (es : List Entry) → Distinct (numbers_written es) → AllPairs Differ (map done_of es)
differ_all [] d = λ i j e before within. absurd (omega (arith, within))
differ_all (x ∷ es) d =
    AllPairs-cons Differ (done_of x) (map done_of es)
    (All-map (Differ (done_of x)) done_of es (All-weaker (Contains es) (λ e. Differ (done_of x) (done_of e))
    (λ e c w w' same. both_ways (has (numbers_written es) x.number) (rw w at d).0 (has_number es x.number e (record { among = c; wrote = w'; number = sym same }))) es (All-contains_itself es)))
    (differ_all es (distinct_rest x es d))

pub none_or_writer : (o : Option Entry) → (o ≡ None) ⊎ ((e : Entry) × (o ≡ Some e))
none_or_writer None = inl refl
none_or_writer (Some e) = inr (e, refl)

-- ---- arrays
unwrapped : (o : Option ℕ) (d : ℕ) → unwrap_or o d ≡ or_else o d
unwrapped None d = refl
unwrapped (Some x) d = refl

-- all that was written lies inside
abbrev pub IsInside : ℕ → List Entry → Type 0
IsInside size es = (n : ℕ) → All (λ w. w.at < size) (writes_of es n)

pub written_inside : (size : ℕ) (es : List Entry) → All (λ e. All (λ w. w.at < size) e.writes) es → IsInside size es
written_inside size es all n =
    subst (λ (ws : List Write). All (λ w. w.at < size) ws) (sym (writes_are es n))
    (⊎_elim (λ no. rw no (λ k d lt. absurd (omega arith)))
    (λ w. rw w.1 (All-contains (λ e. All (λ v. v.at < size) e.writes) es w.0 all (writer_is es n w.0 w.1).among))
    (none_or_writer (writer es n)))

module _ (opening : List ℕ) (es : List Entry) (inside : IsInside (length opening) es) where
  pub length_at : (n : ℕ) → length (array_at opening es n) ≡ length opening
  length_at zero = refl
  length_at (suc n) = length-overwritten (writes_of es (suc n)) (array_at opening es n) ∙ length_at n

  -- a word of the array at a number is the value there, also behind the end
  pub word_at : (n i : ℕ) → slice_index (array_at opening es n) i ≡ value_at opening es n i
  word_at zero i = refl
  word_at (suc n) i =
      let long = length_at n in let whole = length_at (suc n) in let rest = word_at n i in
      ⊎_elim
      (λ lt. index-overwritten (writes_of es (suc n)) (array_at opening es n) i (omega arith)
      ∙ (unwrapped (written (writes_of es (suc n)) i) (slice_index (array_at opening es n) i) ∙ ap (λ (x : ℕ). or_else (written (writes_of es (suc n)) i) x) rest))
      (λ ge.
      let none : written (writes_of es (suc n)) i ≡ None = written_absent (writes_of es (suc n)) i (λ k d within. let a = inside (suc n) k d within in λ same. omega arith) in
      get_or_past (array_at opening es (suc n)) i 0 (omega arith) ∙ (sym (get_or_past (array_at opening es n) i 0 (omega arith)) ∙ (rest ∙ rw none refl)))
      (cases_lt i (length opening))
