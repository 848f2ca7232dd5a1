-- Lists whose elements are changed one after another.
use Rattle.std.proofs.Common.{◌≡◌, ℕ, zero, suc, ◌+◌, ◌<◌, List, [], ◌∷◌, ◌++◌, length, map, take, drop, get_or, set, refl, ap, ◌∙◌, arith}

module _ {A : Type 0} (f : A → A) where
  -- the first ones are changed, and the others not yet
  abbrev pub changed : ℕ → List A → List A
  changed i xs = map f (take i xs) ++ drop i xs

  unchanged : (i : ℕ) (xs : List A) (d : A) → get_or (changed i xs) i d ≡ get_or xs i d
  unchanged zero xs d = refl
  unchanged (suc i) [] d = refl
  unchanged (suc i) (x ∷ xs) d = unchanged i xs d

  changed_suc : (i : ℕ) (xs : List A) (d : A) → i < length xs → set (changed i xs) i (f (get_or xs i d)) ≡ changed (suc i) xs
  changed_suc i [] d lt = absurd (omega arith)
  changed_suc zero (x ∷ xs) d lt = refl
  changed_suc (suc i) (x ∷ xs) d lt = ap (λ (l : List A). f x ∷ l) (changed_suc i xs d (omega arith))

  -- the next one is changed too
  pub changed_next : (i : ℕ) (xs now : List A) (d next : A) → now ≡ changed i xs → next ≡ f (get_or now i d) → i < length xs → set now i next ≡ changed (i + 1) xs
  changed_next i xs now d next are is lt =
      let one_more : suc i ≡ i + 1 = omega arith in
      let by : next ≡ f (get_or xs i d) = is ∙ ap f (ap (λ (l : List A). get_or l i d) are ∙ unchanged i xs d) in
      ap (λ (l : List A). set l i next) are ∙ (ap (set (changed i xs) i) by ∙ (changed_suc i xs d lt ∙ ap (λ k. changed k xs) one_more))
