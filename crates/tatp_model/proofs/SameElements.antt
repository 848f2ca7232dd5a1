-- Lists with the same elements, each once.
use Rattle.std.proofs.Common.{◌≡◌, zero, suc, Bool, true, false, List, [], ◌∷◌, refl, sym, subst, arith, inl, inr, ◌⊎◌, ⊎_elim}
use Rattle.std.specs.List.{Contains, IsDistinct, remove}
use Rattle.std.specs.Prelude.{IsPermutation}
use Rattle.std.proofs.lemmas.Bool.{both_ways}
use Rattle.std.proofs.lemmas.List.Elements.{All-contains, All-from_recursion}
use Rattle.std.proofs.lemmas.List.Sorted.{IsPermutation-refl, IsPermutation-sym, IsPermutation-trans, IsPermutation-cons, IsPermutation-remove, Contains-permutation}
use Rattle.std.proofs.lemmas.Map.Keys.{IsDistinct-head, IsDistinct-tail, IsDistinct-IsPermutation}

-- the elements of a list with one more in front
module _ {X : Type 0} where
  pub contains_nothing : (x : X) → Contains [] x → ⊥
  contains_nothing x c = absurd (omega (arith, c.1))

  pub first_among : (x : X) (xs : List X) → Contains (x ∷ xs) x
  first_among x xs = (0, omega arith, refl)

  pub other_among : (x y : X) (xs : List X) → Contains xs x → Contains (y ∷ xs) x
  other_among x y xs c = (suc c.0, omega (arith, c.1), c.2)

  pub first_or_other : (x y : X) (xs : List X) → Contains (y ∷ xs) x → (y ≡ x) ⊎ Contains xs x
  first_or_other x y xs (zero, within, is) = inl is
  first_or_other x y xs (suc k, within, is) = inr (k, omega (arith, within), is)

module _ {X : Type 0} (alike : X → X → Bool) (itself : (x : X) → alike x x ≡ true) (flips : (x y : X) → alike x y ≡ alike y x) where
  -- the first of a list without repetition is none of the others
  first_apart : (x y : X) (xs : List X) → IsDistinct alike (x ∷ xs) → Contains xs y → x ≡ y → ⊥
  first_apart x y xs distinct c same =
      let differ : alike x y ≡ false = All-contains (λ z. alike x z ≡ false) xs y (All-from_recursion (λ z. alike x z ≡ false) xs (IsDistinct-head alike x xs distinct)) c in
      both_ways (alike x y) differ (subst (λ (z : X). alike x z ≡ true) same (itself x))

  -- lists without repetition that have the same elements
  pub same_elements : (xs ys : List X) → IsDistinct alike xs → IsDistinct alike ys → ((x : X) → Contains xs x → Contains ys x) → ((x : X) → Contains ys x → Contains xs x) → IsPermutation xs ys
  same_elements [] [] dx dy there back = IsPermutation-refl []
  same_elements [] (y ∷ ys) dx dy there back = absurd (contains_nothing y (back y (first_among y ys)))
  same_elements (x ∷ xs) ys dx dy there back =
      let at = there x (first_among x xs) in
      let zs = remove ys at.0 in
      let moved : IsPermutation ys (x ∷ zs) = IsPermutation-remove ys at.0 x at.1 (sym at.2) in
      let dz : IsDistinct alike (x ∷ zs) = IsDistinct-IsPermutation alike flips ys (x ∷ zs) moved dy in
      IsPermutation-trans (x ∷ xs) (x ∷ zs) ys
      (IsPermutation-cons x xs zs (same_elements xs zs (IsDistinct-tail alike x xs dx) (IsDistinct-tail alike x zs dz)
      (λ y c. ⊎_elim (λ same. absurd (first_apart x y xs dx c same)) (λ other. other) (first_or_other y x zs (Contains-permutation ys (x ∷ zs) y moved (there y (other_among y x xs c)))))
      (λ y c. ⊎_elim (λ same. absurd (first_apart x y zs dz c same)) (λ other. other) (first_or_other y x xs (back y (Contains-permutation (x ∷ zs) ys y (IsPermutation-sym ys (x ∷ zs) moved) (other_among y x zs c)))))))
      (IsPermutation-sym ys (x ∷ zs) moved)
