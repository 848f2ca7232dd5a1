-- What `retain` leaves where its closure computes a test.
use Rattle.std.proofs.Common.{◌≡◌, Bool, true, false, List, [], ◌∷◌, length, refl, ap, ◌∙◌, subst, arith}
use Rattle.std.specs.List.{filter, items_where_true}
use Rattle.std.specs.List.Retain.{IsFiltered, ReturnsInTurn}

module _ {X F : Type 0} (R : F → X → Bool → F → Type 0) (test : X → Bool) (f : F) (h : (x : X) (b : Bool) (g : F) → R f x b g → (g ≡ f) × (b ≡ test x)) where
  told_filter : (bs : List Bool) (xs : List X) (q : F) → length bs ≡ length xs → ReturnsInTurn R f bs xs q → items_where_true bs xs ≡ filter test xs
  told_filter [] [] q long t = refl
  told_filter [] (x ∷ xs) q long t = absurd (omega (arith, long))
  told_filter (b ∷ bs) [] q long t = absurd t
  told_filter (true ∷ bs) (x ∷ xs) q long t =
      let one = h x true t.0 t.1 in
      let rest : items_where_true bs xs ≡ filter test xs = told_filter bs xs q (omega (arith, long)) (subst (λ (y : F). ReturnsInTurn R y bs xs q) one.0 t.2) in
      rw (← one.1) (ap (λ ys. x ∷ ys) rest)
  told_filter (false ∷ bs) (x ∷ xs) q long t =
      let one = h x false t.0 t.1 in
      let rest : items_where_true bs xs ≡ filter test xs = told_filter bs xs q (omega (arith, long)) (subst (λ (y : F). ReturnsInTurn R y bs xs q) one.0 t.2) in
      rw (← one.1) rest

  -- it leaves what the test passes
  pub filter_from_test : (xs ys : List X) → IsFiltered R f xs ys → ys ≡ filter test xs
  filter_from_test xs ys k = k.4 ∙ told_filter k.0 xs k.1 k.2 k.3
