-- What a filter keeps of a list, by its elements.
use Rattle.std.proofs.Common.{◌≡◌, Bool, true, false, List, [], ◌∷◌, ap, ◌∙◌, subst, ⊎_elim}
use Rattle.std.specs.List.{AllPairs, Contains, filter}
use Rattle.std.specs.Prelude.{IsPermutation}
use Rattle.std.proofs.lemmas.Bool.{cases_Bool, both_ways}
use Rattle.std.proofs.lemmas.List.Elements.{All-contains, All-contains_itself, All-filter, filter_passes}
use Rattle.std.proofs.lemmas.List.Kept.{AllPairs-filter}
use Rattle.std.proofs.lemmas.List.Sorted.{IsPermutation-sym, Contains-permutation}
use Rattle.tatp_model.proofs.SameElements.{contains_nothing, first_among, first_or_other, other_among, same_elements}
use Rattle.run_order.proofs.Pairs.{pairs_distinct, pairs_permuted}

module _ {X : Type 0} (p : X → Bool) where
  -- an element that passes is kept
  pub contains_filter : (xs : List X) (x : X) → Contains xs x → p x ≡ true → Contains (filter p xs) x
  contains_filter [] x c passes = absurd (contains_nothing x c)
  contains_filter (y ∷ xs) x c passes =
      ⊎_elim (λ kept. rw kept (⊎_elim (λ same. subst (λ (z : X). Contains (y ∷ filter p xs) z) same (first_among y (filter p xs))) (λ other. other_among x y (filter p xs) (contains_filter xs x other passes)) (first_or_other x y xs c)))
      (λ dropped. rw dropped (⊎_elim (λ same. absurd (both_ways (p y) dropped (ap p same ∙ passes))) (λ other. contains_filter xs x other passes) (first_or_other x y xs c))) (cases_Bool (p y))

  -- an element that is kept was there, and passes
  pub filter_contains : (xs : List X) (x : X) → Contains (filter p xs) x → Contains xs x × (p x ≡ true)
  filter_contains xs x c =
      (All-contains (Contains xs) (filter p xs) x (All-filter p (Contains xs) xs (All-contains_itself xs)) c, All-contains (λ y. p y ≡ true) (filter p xs) x (filter_passes p xs) c)

module _ {X : Type 0} (alike : X → X → Bool) (itself : (x : X) → alike x x ≡ true) (flips : (x y : X) → alike x y ≡ alike y x) where
  abbrev Apart : List X → Type 0
  Apart xs = AllPairs (λ x y. alike x y ≡ false) xs

  -- what a filter keeps of a list without repetition, when its elements change places
  pub permuted_filter : (p : X → Bool) (xs ys : List X) → IsPermutation xs ys → Apart xs → IsPermutation (filter p xs) (filter p ys)
  permuted_filter p xs ys same apart =
      let across = λ (us vs : List X) (moved : IsPermutation us vs) (x : X) (c : Contains (filter p us) x). let here = filter_contains p us x c in contains_filter p vs x (Contains-permutation us vs x moved here.0) here.1 in
      same_elements alike itself flips (filter p xs) (filter p ys) (pairs_distinct alike (filter p xs) (AllPairs-filter (λ u v. alike u v ≡ false) p xs apart))
      (pairs_distinct alike (filter p ys) (AllPairs-filter (λ u v. alike u v ≡ false) p ys (pairs_permuted alike flips xs ys same apart))) (across xs ys same) (across ys xs (IsPermutation-sym xs ys same))
