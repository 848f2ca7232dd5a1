-- Lists of boxes whose slots are out.
use Rattle.std.proofs.Common.{◌≡◌, ℕ, zero, suc, ◌<◌, ◌⊎◌, List, [], ◌∷◌, length, get_or, refl, sym, ap, subst, inl, inr, ⊎_elim, arith}
use Rattle.std.specs.List.{Contains}
use Rattle.dude_base.specs.Records.{RedoRecord}
use Rattle.stm_slots.specs.Turns.{Leaves}

module _ {A : Type 0} where
  pub contains_here : (x : A) (xs : List A) → Contains (x ∷ xs) x
  contains_here x xs = (0, omega arith, refl)

  pub contains_more : (x : A) (xs : List A) (y : A) → Contains xs y → Contains (x ∷ xs) y
  contains_more x xs y h = let lt = h.1 in (suc h.0, omega arith, h.2)

  pub contains_either : (x : A) (xs : List A) (y : A) → Contains (x ∷ xs) y → (x ≡ y) ⊎ Contains xs y
  contains_either x xs y h = by_place h.0 h.1 h.2
    where
      by_place : (i : ℕ) → i < length (x ∷ xs) → get_or (x ∷ xs) i y ≡ y → (x ≡ y) ⊎ Contains xs y
      by_place zero lt e = inl e
      by_place (suc i) lt e = inr (i, omega arith, e)

  pub contains_none : (y : A) → Contains [] y → ⊥
  contains_none y h = let lt = h.1 in absurd (omega arith)

-- without the box that was taken last the others are left, where it isn't among them
pub leaves_last : (k : ℕ) (r : RedoRecord) (left : List (ℕ × RedoRecord)) → ((q : RedoRecord) → Contains left (k, q) → ⊥) → Leaves ((k, r) ∷ left) k left
leaves_last k r left once = record {
  stays = λ j q among. ⊎_elim (λ e. inl (ap (λ (p : ℕ × RedoRecord). p.0) (sym e))) inr (contains_either (k, r) left (j, q) among);
  was = λ j q among. (contains_more (k, r) left (j, q) among, (λ e. once q (subst (λ (d : ℕ). Contains left (d, q)) e among)));
}

-- the only box that was taken leaves none
pub leaves_none : (k : ℕ) (r : RedoRecord) → Leaves ((k, r) ∷ []) k []
leaves_none k r = leaves_last k r [] (λ q among. contains_none (k, q) among)
