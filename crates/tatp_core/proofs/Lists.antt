-- The rows that the requests leave.
use Rattle.std.proofs.Common.{◌≡◌, ℕ, ◌+◌, ◌<◌, ◌≤◌, inl, inr, Bool, true, false, not, List, [], ◌∷◌, length, length-append, map, get_or, Contains, refl, sym, ap, ◌∙◌, subst, arith}
use Rattle.std.specs.Prelude.{nat_lt}
use Rattle.std.specs.List.{filter}
use Rattle.std.specs.List.Sorted.{IsStrictlyIncreasing}
use Rattle.std.proofs.lemmas.Bool.{false_from_ne_true, cases_Bool, cases_lt, both_ways, lt-ltb, le-ltb}
use Rattle.std.proofs.lemmas.List.Elements.{All-contains, All-contains_itself, All-filter, Contains-append_cases, Contains-append_left, Contains-append_right, Contains-get_or, filter_passes}
use Rattle.std.proofs.lemmas.List.Filters.{length-filter_both}
use Rattle.std.proofs.lemmas.List.Kept.{AllPairs-filter}
use Rattle.tatp_model.specs.declared.call_row.CallRow.{CallRow}
use Rattle.tatp_model.specs.Database.{call_key}
use Rattle.tatp_model.specs.Transaction.{with_call}
use Rattle.tatp_model.proofs.Rising.{length-le_from_keys, pairs_from_rising}
use Rattle.tatp_layout.specs.Records.{RowForm, call_form}
use Rattle.tatp_layout.proofs.Dropped.{DropsRow}
use Rattle.tatp_layout.proofs.Found.{TestsKey, first_among, first_or_other, other_among}
use Rattle.tatp_layout.specs.FoundRows.{FoundRow, HasNoRow}
use Rattle.tatp_layout.proofs.Rewritten.{NamesRow}
use Rattle.tatp_layout.proofs.Added.{AddsRow}

-- ---- filters

-- a row that passes is kept
pub contains_filter : {R : Type 0} (p : R → Bool) (rows : List R) (s : R) → Contains rows s → p s ≡ true → Contains (filter p rows) s
contains_filter p [] s c passes = absurd (omega (arith, c.1))
contains_filter p (r ∷ rows) s c passes =
    elim (cases_Bool (p r)) [
      | inl kept ↦ rw kept (elim (first_or_other s r rows c) [
        | inl first ↦ subst (λ t. Contains (r ∷ filter p rows) t) first (first_among r (filter p rows))
        | inr other ↦ other_among s r (filter p rows) (contains_filter p rows s other passes)
      ])
      | inr dropped ↦ rw dropped (elim (first_or_other s r rows c) [
        | inl first ↦ absurd (both_ways (p r) dropped (ap p first ∙ passes))
        | inr other ↦ contains_filter p rows s other passes
      ])
    ]

-- a row that is kept is one of the rows, and passes
pub filter_contains : {R : Type 0} (p : R → Bool) (rows : List R) (s : R) → Contains (filter p rows) s → Contains rows s × (p s ≡ true)
filter_contains p rows s c = (All-contains (Contains rows) (filter p rows) s (All-filter p (Contains rows) rows (All-contains_itself rows)) c, All-contains (λ r. p r ≡ true) (filter p rows) s (filter_passes p rows) c)

-- two filters of which each row passes one alone
length-filter_either : {R : Type 0} (p q : R → Bool) (rows : List R) → ((s : R) → Contains rows s → q s ≡ not (p s)) → length (filter p rows) + length (filter q rows) ≡ length rows
length-filter_either p q [] either = omega arith
length-filter_either p q (r ∷ rows) either =
    let rest = length-filter_either p q rows (λ s c. either s (other_among s r rows c)) in
    let here = either r (first_among r rows) in
    elim (cases_Bool (p r)) [
      | inl kept ↦ let other : q r ≡ false = here ∙ ap not kept in rw (kept, other) (omega (arith, rest))
      | inr dropped ↦ let other : q r ≡ true = here ∙ ap not dropped in rw (dropped, other) (omega (arith, rest))
    ]

-- ---- one row more

pub adds_call : (row : CallRow) (rows : List CallRow) → HasNoRow call_form rows (call_key row) → AddsRow row rows (with_call row rows)
adds_call row rows absent =
    let below = λ (r : CallRow). nat_lt (call_key r) (call_key row) in
    let above = λ (r : CallRow). nat_lt (call_key row) (call_key r) in
    let either : (s : CallRow) → Contains rows s → above s ≡ not (below s) =
    λ s c. elim (cases_lt (call_key s) (call_key row)) [
      | inl less ↦ rw (lt-ltb (call_key s) (call_key row) less, le-ltb (call_key row) (call_key s) (omega arith)) refl
      | inr more ↦ rw (le-ltb (call_key s) (call_key row) more, lt-ltb (call_key row) (call_key s) (omega (arith, absent.none s c))) refl
    ] in
    record {
      count = omega (arith, length-append (filter below rows) (row ∷ filter above rows), length-filter_either below above rows either);
      new = Contains-append_right (filter below rows) (row ∷ filter above rows) row (first_among row (filter above rows));
      old = λ s c. elim (cases_Bool (below s)) [
        | inl kept ↦ Contains-append_left (filter below rows) (row ∷ filter above rows) s (contains_filter below rows s c kept)
        | inr dropped ↦ Contains-append_right (filter below rows) (row ∷ filter above rows) s (other_among s row (filter above rows) (contains_filter above rows s c (either s c ∙ ap not dropped)))
      ];
      only = λ s c. elim (Contains-append_cases (filter below rows) (row ∷ filter above rows) s c) [
        | inl low ↦ inr (filter_contains below rows s low).0
        | inr high ↦ elim (first_or_other s row (filter above rows) high) [ inl first ↦ inl (sym first) | inr other ↦ inr (filter_contains above rows s other).0 ]
      ];
    }

-- ---- one row less

-- the rows that a test of a key doesn't name
pub drops_named : {R : Type 0} {form : RowForm R} {array : List ℕ} {rows : List R} {key at : ℕ} (test : R → Bool) → IsStrictlyIncreasing (map form.key rows) → TestsKey form rows key test → FoundRow form array rows key at → DropsRow form key rows (filter (λ r. not (test r)) rows)
drops_named {R} {form} {rows = rows} {key = key} test rise tests found =
    let kept = filter test rows in
    let named : (k : ℕ) (d : R) → k < length kept → form.key (get_or kept k d) ≡ key =
    λ k d inside. let c = filter_contains test rows (get_or kept k d) (Contains-get_or kept k d inside) in tests.named (get_or kept k d) c.0 c.1 in
    let most : length kept ≤ 1 = length-le_from_keys form.key kept key 1 (AllPairs-filter (λ r s. form.key r < form.key s) test rows (pairs_from_rising form.key rows rise)) (λ k d inside. omega (arith, named k d inside)) (λ k d inside. omega (arith, named k d inside)) in
    let some = contains_filter test rows found.row found.among (tests.passes found.row found.among found.key_is) in
    record {
      count = omega (arith, most, some.1, length-filter_both test (λ r. not (test r)) (λ r. refl) rows);
      old = λ s c differs. contains_filter (λ r. not (test r)) rows s c (ap not (false_from_ne_true (test s) (λ passes. differs (tests.named s c passes))));
      only = λ s c. let was = filter_contains (λ r. not (test r)) rows s c in (was.0, λ same. both_ways (not (test s)) (ap not (tests.passes s was.0 same)) was.1);
    }

-- ---- one row rewritten

pub names_found : {R : Type 0} {form : RowForm R} {array : List ℕ} {rows : List R} {key at : ℕ} (test : R → Bool) → TestsKey form rows key test → (found : FoundRow form array rows key at) → NamesRow form test rows found.row
names_found test tests found = record {
  passes = tests.passes found.row found.among found.key_is;
  names = λ s c passes. tests.named s c passes ∙ sym found.key_is;
  alone = λ s c same. found.only s c (same ∙ found.key_is);
}
