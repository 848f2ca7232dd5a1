-- Marks of the records that were met.
use Rattle.std.proofs.Common.{◌≡◌, ◌≢◌, ◌⊎◌, inl, inr, ℕ, ◌+◌, ◌-◌, ◌*◌, ◌/◌, ◌<◌, ◌≤◌, ◌↔◌, List, [], ◌∷◌, ◌++◌, length, Bool, true, false, not, cond, None, Some, Contains, get_or, set, refl, sym, ap, ◌∙◌, subst, arith, length-set, get_or-set_other, get_or-set_same}
use Rattle.std.proofs.Math.Nat.{mul-le-mul_left, mul-div_cancel_left}
use Rattle.std.proofs.lemmas.Bool.{cases_eq, cases_order, false≢true}
use Rattle.std.proofs.lemmas.List.Elements.{Contains-append_left, Contains-push, Contains-push_cases}
use Rattle.std.proofs.lemmas.List.Sums.{sum_by-set}
use Rattle.record_heap.specs.declared.pool.Pool.{Pool}
use Rattle.record_heap.specs.Pool.{IsRecord}
use Rattle.tatp_check.specs.Marks.{AreMarked, IsNew, IsLeastNew, unmarked}

-- the place of a record among the pool's
place_of : {pool : Pool} {at : ℕ} → 0 < pool.size → (r : IsRecord pool at) → (at - pool.first) / pool.size ≡ r.index
place_of {pool} {at} wide r =
    let offset : at - pool.first ≡ pool.size * r.index = omega (arith, r.is) in
    ap (λ k. k / pool.size) offset ∙ mul-div_cancel_left r.index wide

-- records at one word have one place
one_place : (pool : Pool) (i j : ℕ) → 0 < pool.size → pool.first + pool.size * i ≡ pool.first + pool.size * j → i ≡ j
one_place pool i j wide same =
    let products : pool.size * i ≡ pool.size * j = omega (arith, same) in
    sym (mul-div_cancel_left i wide) ∙ ap (λ k. k / pool.size) products ∙ mul-div_cancel_left j wide

-- What the mark of a record says:
module _ (pool : Pool) (wide : 0 < pool.size) (at : ℕ) (r : IsRecord pool at) (marks : List Bool) where
  mark_there : get_or marks ((at - pool.first) / pool.size) false ≡ get_or marks r.index false
  mark_there = ap (λ i. get_or marks i false) (place_of wide r)

  pub mark_inside : length marks ≡ pool.count → (at - pool.first) / pool.size < length marks
  mark_inside size = subst (λ i. i < length marks) (sym (place_of wide r)) (omega (arith, r.below, size))

  -- it was met
  pub met_before : (met : List ℕ) → AreMarked pool met marks → get_or marks ((at - pool.first) / pool.size) false ≡ true → ¬ IsNew pool met at
  met_before met marked is new = new.unmet (subst (Contains met) (sym r.is) ((marked.marked r.index r.below).0 (sym mark_there ∙ is)))

  -- it wasn't, and now it is
  pub met_now : (met : List ℕ) → AreMarked pool met marks → get_or marks ((at - pool.first) / pool.size) false ≡ false
      → IsNew pool met at × AreMarked pool (met ++ at ∷ []) (set marks ((at - pool.first) / pool.size) true)
  met_now met marked is =
      let inside : r.index < length marks = omega (arith, r.below, marked.size) in (
        record { place = r; unmet = λ c. false≢true (sym is ∙ mark_there ∙ (marked.marked r.index r.below).1 (subst (Contains met) r.is c)) },
        subst (λ i. AreMarked pool (met ++ at ∷ []) (set marks i true)) (sym (place_of wide r)) (record {
          size = length-set marks r.index true ∙ marked.size;
          marked = λ k below. by k below (cases_eq k r.index) inside;
        }),
      )
    where
      by : (k : ℕ) → k < pool.count → (k ≡ r.index) ⊎ (k ≢ r.index) → r.index < length marks → (get_or (set marks r.index true) k false ≡ true) ↔ Contains (met ++ at ∷ []) (pool.first + pool.size * k)
      by k below (inl same) inside = (
        (λ _. subst (Contains (met ++ at ∷ [])) (r.is ∙ ap (λ i. pool.first + pool.size * i) (sym same)) (Contains-push met at)),
        (λ _. ap (λ i. get_or (set marks r.index true) i false) same ∙ get_or-set_same marks r.index true false inside),
      )
      by k below (inr differ) inside =
          let other = get_or-set_other marks r.index k true false differ in (
            (λ is. Contains-append_left met (at ∷ []) _ ((marked.marked k below).0 (sym other ∙ is))),
            (λ c. other ∙ (marked.marked k below).1 (elim (Contains-push_cases met at _ c) [
              | inl before ↦ before
              | inr here ↦ absurd (differ (one_place pool k r.index wide (sym here ∙ r.is)))
            ])),
          )

-- fewer marks are not set
pub fewer_unmarked : (marks : List Bool) (i : ℕ) → i < length marks → get_or marks i false ≡ false → unmarked (set marks i true) < unmarked marks
fewer_unmarked marks i inside is =
    let sums = sum_by-set (λ m. cond (not m) 1 0) marks i true false inside in
    let f : Bool → ℕ = λ m. cond (not m) 1 0 in
    let one : f (get_or marks i false) ≡ f false = ap f is in
    omega (arith, sums, one)

-- a record lies below this bound
pub record_below : (pool : Pool) (index bound : ℕ) → ((at : ℕ) → IsRecord pool at → at < bound) → index < pool.count → pool.first + pool.size * index < bound
record_below pool index bound fits below = fits (pool.first + pool.size * index) (record { index = index; below = below; is = refl })

-- no record was met
pub none_met : (pool : Pool) (marks : List Bool) → length marks ≡ pool.count → ((k : ℕ) → k < pool.count → get_or marks k false ≡ false) → AreMarked pool [] marks
none_met pool marks size clear = record {
  size = size;
  marked = λ k below. ((λ is. absurd (false≢true (sym (clear k below) ∙ is))), (λ c. absurd (omega (arith, c.1))));
}

-- Where the marks before a place are set:
module _ {pool : Pool} {met : List ℕ} {marks : List Bool} (marked : AreMarked pool met marks) (i : ℕ) (before : (k : ℕ) → k < i → get_or marks k false ≡ true) where
  set_before : (at : ℕ) (r : IsRecord pool at) → r.index < i → Contains met at
  set_before at r lower = subst (Contains met) (sym r.is) ((marked.marked r.index r.below).0 (before r.index lower))

  -- all records were met
  pub each_met : pool.count ≤ i → IsLeastNew pool met None
  each_met all = λ at r. set_before at r (omega (arith, r.below, all))

  -- the record at that place is the least new one
  pub least_new : 0 < pool.size → i < pool.count → get_or marks i false ≡ false → IsLeastNew pool met (Some (pool.first + pool.size * i))
  least_new wide inside is = (
    record {
      place = record { index = i; below = inside; is = refl };
      unmet = λ c. false≢true (sym is ∙ (marked.marked i inside).1 c);
    },
    λ at r less. set_before at r (lower at r less),
  )
    where
      lower : (at : ℕ) (r : IsRecord pool at) → at < pool.first + pool.size * i → r.index < i
      lower at r less = elim (cases_order r.index i) [
        | inl same ↦ absurd (let products : pool.size * r.index ≡ pool.size * i = ap (λ k. pool.size * k) same in omega (arith, r.is, less, products))
        | inr order ↦ elim order [
          | inl below ↦ below
          | inr above ↦ absurd (let products : pool.size * i ≤ pool.size * r.index = mul-le-mul_left pool.size (omega arith) in omega (arith, r.is, less, products))
        ]
      ]
