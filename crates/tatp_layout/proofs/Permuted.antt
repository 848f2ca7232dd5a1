-- Lists of numbers, of which one is an order of the other.
use Rattle.std.proofs.Common.{◌≡◌, ℕ, ◌<◌, inl, inr, List, [], ◌∷◌, cond, eqb, Contains, refl, sym, ap, arith}
use Rattle.std.specs.Prelude.{sum_by}
use Rattle.std.specs.List.{remove}
use Rattle.std.specs.List.Sorted.{IsPermutation}
use Rattle.std.proofs.lemmas.Bool.{cases_eq, eq-eqb, ne_eqb}
use Rattle.std.proofs.lemmas.List.Sums.{sum_by-cons}
use Rattle.std.proofs.lemmas.List.Sorted.{IsPermutation-cons, IsPermutation-refl, IsPermutation-remove, IsPermutation-sym, IsPermutation-trans, sum_by-IsPermutation}
use Rattle.tatp_layout.proofs.Found.{other_among}

-- 1 for this number, 0 for others
abbrev one : ℕ → ℕ → ℕ
one v k = cond (eqb k v) 1 0

one_same : (v : ℕ) → one v v ≡ 1
one_same v = ap (λ b. cond b 1 0) (eq-eqb v v refl)

-- what is counted is there
counted : (ys : List ℕ) (x : ℕ) → 0 < sum_by (one x) ys → Contains ys x
counted [] x some = absurd (omega arith)
counted (y ∷ ys) x some = elim (cases_eq y x) [
  | inl same ↦ (0, omega arith, same)
  | inr differ ↦ let none : one x y ≡ 0 = ap (λ b. cond b 1 0) (ne_eqb y x differ) in other_among x y ys (counted ys x (omega (arith, some, none, sum_by-cons (one x) y ys)))
]

-- each number stands equally often in both
from_counts : (xs ys : List ℕ) → ((v : ℕ) → sum_by (one v) xs ≡ sum_by (one v) ys) → IsPermutation xs ys
from_counts [] [] same = IsPermutation-refl []
from_counts [] (y ∷ ys) same = absurd (omega (arith, same y, one_same y, sum_by-cons (one y) y ys))
from_counts (x ∷ xs) ys same =
    let at = counted ys x (omega (arith, same x, one_same x, sum_by-cons (one x) x xs)) in
    let moved : IsPermutation ys (x ∷ remove ys at.0) = IsPermutation-remove ys at.0 x at.1 (sym at.2) in
    IsPermutation-trans _ _ _ (IsPermutation-cons x xs (remove ys at.0) (from_counts xs (remove ys at.0) (λ v. let count = sum_by-IsPermutation (one v) ys (x ∷ remove ys at.0) moved in omega (arith, same v, count, sum_by-cons (one v) x xs, sum_by-cons (one v) x (remove ys at.0))))) (IsPermutation-sym _ _ moved)

-- the first of both may be left out
pub permuted_rest : (x : ℕ) (xs ys : List ℕ) → IsPermutation (x ∷ xs) (x ∷ ys) → IsPermutation xs ys
permuted_rest x xs ys moved = from_counts xs ys (λ v. let count = sum_by-IsPermutation (one v) (x ∷ xs) (x ∷ ys) moved in omega (arith, count, sum_by-cons (one v) x xs, sum_by-cons (one v) x ys))
