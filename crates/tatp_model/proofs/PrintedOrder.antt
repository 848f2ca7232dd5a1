-- A run has one printed order at most.
use Rattle.std.proofs.Common.{◌≡◌, zero, suc, List, [], ◌∷◌, refl, ap₂, sym, ◌∙◌, arith, inl, inr, ⊎_elim, ◌⊎◌, subst}
use Rattle.std.specs.List.{AllPairs, Contains, filter}
use Rattle.std.specs.Prelude.{not, IsPermutation}
use Rattle.std.proofs.lemmas.Bool.{both_ways}
use Rattle.std.proofs.lemmas.List.Sorted.{IsPermutation-sym, Contains-permutation}
use Rattle.tatp_model.specs.declared.done.Done.{Done}
use Rattle.tatp_model.specs.OneThread.{Precedes, PrecedesAtNumber, PrecedesInFiles, IsPrintedOrder, is_sync}

-- an element of a list in order is the first, or comes after it
module _ {X : Type 0} (R : X → X → Type 0) (asymmetric : (x y : X) → R x y → R y x → ⊥) where
  first_or_later : (y : X) (ys : List X) (x : X) → AllPairs R (y ∷ ys) → Contains (y ∷ ys) x → (y ≡ x) ⊎ (R y x × Contains ys x)
  first_or_later y ys x pairs (zero, within, is) = inl is
  first_or_later y ys x pairs (suc k, within, is) = inr (subst (R y) is (pairs 0 (suc k) x (omega arith) within), (k, omega arith, is))

  after_first : (y : X) (ys : List X) (x : X) → AllPairs R (y ∷ ys) → Contains ys x → R y x
  after_first y ys x pairs there = subst (R y) there.2 (pairs 0 (suc there.0) x (omega arith) (omega (arith, there.1)))

  later : (y : X) (ys : List X) (x : X) → Contains ys x → Contains (y ∷ ys) x
  later y ys x there = (suc there.0, omega (arith, there.1), there.2)

  -- two lists in one strict order with the same elements are equal
  pub same_from_order : (xs ys : List X) → AllPairs R xs → AllPairs R ys → ((x : X) → Contains xs x → Contains ys x) → ((x : X) → Contains ys x → Contains xs x) → xs ≡ ys
  same_from_order [] [] px py to back = refl
  same_from_order [] (y ∷ ys) px py to back = absurd (omega (arith, (back y (0, omega arith, refl)).1))
  same_from_order (x ∷ xs) [] px py to back = absurd (omega (arith, (to x (0, omega arith, refl)).1))
  same_from_order (x ∷ xs) (y ∷ ys) px py to back =
      let same : y ≡ x =
      ⊎_elim (λ e. e) (λ before. ⊎_elim (λ e. sym e) (λ after. absurd (asymmetric x y after.0 before.0)) (first_or_later x xs y px (back y (0, omega arith, refl)))) (first_or_later y ys x py (to x (0, omega arith, refl))) in
      let irreflexive : (z : X) → R z z → ⊥ = λ z r. asymmetric z z r r in
      let forth : (z : X) → Contains xs z → Contains ys z =
      λ z there. ⊎_elim (λ e. absurd (irreflexive z (subst (λ (w : X). R w z) (sym same ∙ e) (after_first x xs z px there)))) (λ found. found.1) (first_or_later y ys z py (to z (later x xs z there))) in
      let hither : (z : X) → Contains ys z → Contains xs z =
      λ z there. ⊎_elim (λ e. absurd (irreflexive z (subst (λ (w : X). R w z) (same ∙ e) (after_first y ys z py there)))) (λ found. found.1) (first_or_later x xs z px (back z (later y ys z there))) in
      ap₂ (λ (w : X) (ws : List X). w ∷ ws) (sym same) (same_from_order xs ys (λ i j d h l. px (suc i) (suc j) d (omega arith) (omega arith)) (λ i j d h l. py (suc i) (suc j) d (omega arith) (omega arith)) forth hither)

-- two requests of a run stand in one order alone
asymmetric_in_files : (d e : Done) → PrecedesInFiles d e → PrecedesInFiles e d → ⊥
asymmetric_in_files d e before after =
    ⊎_elim (λ p. ⊎_elim (λ q. absurd (omega (arith, p, q))) (λ q. absurd (omega (arith, p, q.0))) after) (λ p. ⊎_elim (λ q. absurd (omega (arith, p.0, q))) (λ q. absurd (omega (arith, p.1, q.1))) after) before

asymmetric_at_number : (d e : Done) → PrecedesAtNumber d e → PrecedesAtNumber e d → ⊥
asymmetric_at_number d e before after =
    ⊎_elim (λ p. ⊎_elim (λ q. both_ways _ p.1 q.0) (λ q. both_ways _ p.1 (q.0 ∙ p.0)) after) (λ p. ⊎_elim (λ q. both_ways _ q.1 (p.0 ∙ q.0)) (λ q. asymmetric_in_files d e p.1 q.1) after) before

pub Precedes-asymmetric : (d e : Done) → Precedes d e → Precedes e d → ⊥
Precedes-asymmetric d e before after =
    ⊎_elim (λ p. ⊎_elim (λ q. absurd (omega (arith, p, q))) (λ q. absurd (omega (arith, p, q.0))) after) (λ p. ⊎_elim (λ q. absurd (omega (arith, p.0, q))) (λ q. asymmetric_at_number d e p.1 q.1) after) before

-- the printed order of a run is the only one
pub IsPrintedOrder-unique : (done order other : List Done) → IsPrintedOrder done order → IsPrintedOrder done other → order ≡ other
IsPrintedOrder-unique done order other printed printed' =
    let kept = filter (λ d. not (is_sync d.request)) done in
    let across = λ (xs ys : List Done) (p : IsPermutation kept xs) (q : IsPermutation kept ys) (x : Done) (there : Contains xs x). Contains-permutation kept ys x q (Contains-permutation xs kept x (IsPermutation-sym kept xs p) there) in
    same_from_order Precedes Precedes-asymmetric order other printed.sorted printed'.sorted (across order other printed.same printed'.same) (across other order printed'.same printed.same)
