-- Slots of which the last one is popped.
use Rattle.std.proofs.Common.{◌≡◌, ℕ, zero, suc, ◌+◌, List, [], ◌∷◌, ◌++◌, length, replicate, refl, sym, ap, ◌∙◌, arith}
use Rattle.std.proofs.lemmas.List.{length-append, length-replicate}

module _ {S : Type 0} where
  head_same : (x y : S) (xs ys : List S) → x ∷ xs ≡ y ∷ ys → x ≡ y
  head_same x y xs ys e = cc

  tail_same : (x y : S) (xs ys : List S) → x ∷ xs ≡ y ∷ ys → xs ≡ ys
  tail_same x y xs ys e = cc

  long : (xs : List S) (a b : S) (cs : List S) → a ∷ [] ≡ b ∷ (xs ++ cs) → length cs ≡ 1 → ⊥
  long xs a b cs e one = let n = ap length e in let m = length-append xs cs in omega arith

  -- lists with one element more at the end
  pub last_same : (xs ys : List S) (a b : S) → xs ++ a ∷ [] ≡ ys ++ b ∷ [] → (xs ≡ ys) × (a ≡ b)
  last_same [] [] a b e = (refl, head_same a b [] [] e)
  last_same [] (y ∷ ys) a b e = absurd (long ys a y (b ∷ []) e refl)
  last_same (x ∷ xs) [] a b e = absurd (long xs b x (a ∷ []) (sym e) refl)
  last_same (x ∷ xs) (y ∷ ys) a b e =
      let rest = last_same xs ys a b (tail_same x y (xs ++ a ∷ []) (ys ++ b ∷ []) e) in
      let first = head_same x y (xs ++ a ∷ []) (ys ++ b ∷ []) e in (ap (λ (z : S). z ∷ xs) first ∙ ap (λ (l : List S). y ∷ l) rest.0, rest.1)

  pub replicate_more : (n : ℕ) (e : S) → replicate (n + 1) e ≡ replicate n e ++ e ∷ []
  replicate_more zero e = refl
  replicate_more (suc n) e = let s : suc n + 1 ≡ suc (n + 1) = omega arith in rw s (ap (λ (l : List S). e ∷ l) (replicate_more n e))

  -- the last of equal ones is popped
  pub one_less : (e last : S) (old new : List S) → old ≡ replicate (length old) e → old ≡ new ++ last ∷ [] → (new ≡ replicate (length new) e) × (e ≡ last)
  one_less e last old new all is =
      let n : length old ≡ length new + 1 = ap length is ∙ length-append new (last ∷ []) in
      let both : replicate (length new) e ++ e ∷ [] ≡ new ++ last ∷ [] = sym (replicate_more (length new) e) ∙ (ap (λ (k : ℕ). replicate k e) (sym n) ∙ (sym all ∙ is)) in
      let r = last_same (replicate (length new) e) new e last both in (sym r.0, r.1)

  -- the one behind equal ones is popped
  pub behind_equal : (n : ℕ) (e x last : S) (old new : List S) → old ≡ replicate n e ++ x ∷ [] → old ≡ new ++ last ∷ [] → (new ≡ replicate (length new) e) × (x ≡ last)
  behind_equal n e x last old new was is =
      let r = last_same (replicate n e) new x last (sym was ∙ is) in
      let k : length new ≡ n = ap length (sym r.0) ∙ length-replicate n e in (sym r.0 ∙ ap (λ (m : ℕ). replicate m e) (sym k), r.1)
