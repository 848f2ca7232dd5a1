-- The elements of a list with one replaced, and of a list of one value.
use Rattle.std.proofs.Common.{◌≡◌, ◌≢◌, ℕ, zero, suc, ◌<◌, ◌∙◌, List, [], ◌∷◌, length, Some, slice_get, slice_set, replicate, refl, ap, arith, length-set}
use Rattle.std.proofs.lemmas.Option.{slice_get-get_or, slice_get_within, same_Some}
use Rattle.std.proofs.lemmas.List.{get_or-set_same}

pub set_same : {X : Type 0} (xs : List X) (i : ℕ) (x : X) → i < length xs → slice_get (slice_set xs i x) i ≡ Some x
set_same xs i x inside =
    slice_get-get_or (slice_set xs i x) i x (omega (arith, length-set xs i x, inside)) ∙ ap (λ y. Some y) (get_or-set_same xs i x x inside)

pub set_other : {X : Type 0} (xs : List X) (i j : ℕ) (x : X) → j ≢ i → slice_get (slice_set xs i x) j ≡ slice_get xs j
set_other [] i j x ne = refl
set_other (y ∷ ys) zero zero x ne = absurd (ne refl)
set_other (y ∷ ys) zero (suc j) x ne = refl
set_other (y ∷ ys) (suc i) zero x ne = refl
set_other (y ∷ ys) (suc i) (suc j) x ne = set_other ys i j x (λ e. ne (ap suc e))

pub of_replicate : {X : Type 0} (n i : ℕ) (x y : X) → slice_get (replicate n x) i ≡ Some y → x ≡ y
of_replicate zero i x y e = absurd (omega (arith, slice_get_within (replicate zero x) i y e))
of_replicate (suc n) zero x y e = same_Some x y e
of_replicate (suc n) (suc i) x y e = of_replicate n i x y e
