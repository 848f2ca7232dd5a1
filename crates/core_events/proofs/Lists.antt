-- Lists that are read by `get_elem?`, and lists of keys with values.
use Rattle.std.proofs.Common.{◌≡◌, ◌==◌, true, ◌≢◌, ℕ, zero, suc, ◌+◌, ◌<◌, ◌⊎◌, List, [], ◌∷◌, ◌++◌, length, get_or, set, map, refl, sym, ap, inl, inr, ⊎_elim, eq-eqb, ne_eqb, arith, All, ◌∙◌, subst}
use Rattle.std.specs.Prelude.{Some, None}
use Rattle.std.proofs.lemmas.List.{map-set}
use Rattle.std.proofs.lemmas.Bool.{true≢false}
use mathlib.Core.Option.{some, some-injective, some-ne-none}
use mathlib.Core.Logic.{dite}
use native.Mathlib.Decide.{ℕ_discrete}
use lib.ListN.{get_elem?}
use Rattle.core_events.specs.Keyed.{find, without, total, change}

module _ {A : Type 0} where
  pub there : (l : List A) (i : ℕ) (a : A) → get_elem? l i ≡ some a → i < length l
  there [] i a e = absurd (some-ne-none a (sym e))
  there (x ∷ xs) zero a e = omega arith
  there (x ∷ xs) (suc i) a e = let h = there xs i a e in omega arith

  -- what is read at a place within the list is there
  pub at_index : (l : List A) (i : ℕ) (a : A) → i < length l → a ≡ get_or l i a → get_elem? l i ≡ some a
  at_index [] i a h e = absurd (omega arith)
  at_index (x ∷ xs) zero a h e = ap some (sym e)
  at_index (x ∷ xs) (suc i) a h e = at_index xs i a (omega arith) e

  pub at_set : (l : List A) (i j : ℕ) (a b : A) → get_elem? (set l i a) j ≡ some b → ((j ≡ i) × (a ≡ b)) ⊎ ((j ≢ i) × (get_elem? l j ≡ some b))
  at_set [] i j a b e = absurd (some-ne-none b (sym e))
  at_set (x ∷ xs) zero zero a b e = inl (refl, some-injective a b e)
  at_set (x ∷ xs) zero (suc j) a b e = inr ((λ h. omega arith), e)
  at_set (x ∷ xs) (suc i) zero a b e = inr ((λ h. omega arith), e)
  at_set (x ∷ xs) (suc i) (suc j) a b e = ⊎_elim (λ t. inl (ap suc t.0, t.1)) (λ t. let n = t.0 in inr ((λ h. n (omega arith)), t.1)) (at_set xs i j a b e)

  pub set_here : (l : List A) (i : ℕ) (a : A) → i < length l → get_elem? (set l i a) i ≡ some a
  set_here [] i a h = absurd (omega arith)
  set_here (x ∷ xs) zero a h = refl
  set_here (x ∷ xs) (suc i) a h = set_here xs i a (omega arith)

  pub set_else : (l : List A) (i j : ℕ) (a : A) → j ≢ i → get_elem? (set l i a) j ≡ get_elem? l j
  set_else [] i j a n = refl
  set_else (x ∷ xs) zero zero a n = absurd (n refl)
  set_else (x ∷ xs) zero (suc j) a n = refl
  set_else (x ∷ xs) (suc i) zero a n = refl
  set_else (x ∷ xs) (suc i) (suc j) a n = set_else xs i j a (λ e. n (ap suc e))

  pub set_again : (l : List A) (i : ℕ) (a : A) → get_elem? l i ≡ some a → set l i a ≡ l
  set_again [] i a e = refl
  set_again (x ∷ xs) zero a e = λ k. sym (some-injective x a e) k ∷ xs
  set_again (x ∷ xs) (suc i) a e = λ k. x ∷ set_again xs i a e k

  pub at_map : {B : Type 0} (f : A → B) (l : List A) (i : ℕ) (a : A) → get_elem? l i ≡ some a → get_elem? (map f l) i ≡ some (f a)
  at_map f [] i a e = absurd (some-ne-none a (sym e))
  at_map f (x ∷ xs) zero a e = ap (λ (y : A). some (f y)) (some-injective x a e)
  at_map f (x ∷ xs) (suc i) a e = at_map f xs i a e

  pub of_map : {B : Type 0} (f : A → B) (l : List A) (i : ℕ) (b : B) → get_elem? (map f l) i ≡ some b → (a : A) × (get_elem? l i ≡ some a) × (f a ≡ b)
  of_map f [] i b e = absurd (some-ne-none b (sym e))
  of_map f (x ∷ xs) zero b e = (x, refl, some-injective (f x) b e)
  of_map f (x ∷ xs) (suc i) b e = of_map f xs i b e

pub total_set : {A : Type 0} (f : A → ℕ) (views : List A) (j : ℕ) (v w : A) → get_elem? views j ≡ some v → total f (set views j w) + f v ≡ total f views + f w
total_set f [] j v w e = absurd (some-ne-none v (sym e))
total_set f (x ∷ xs) zero v w e = let s : f x ≡ f v = ap f (some-injective x v e) in omega arith
total_set f (x ∷ xs) (suc j) v w e = let h = total_set f xs j v w e in omega arith

-- the first pair is of the key, or the value is found behind it
pub find_cons : (xs : List (ℕ × ℕ)) (k o j p : ℕ) → find ((k, o) ∷ xs) j ≡ Some p → ((k ≡ j) × (o ≡ p)) ⊎ ((k ≢ j) × (find xs j ≡ Some p))
find_cons xs k o j p e = dite (ℕ_discrete k j) (λ h. inl (h, (let r = rw (eq-eqb k j h) at e in cc r))) (λ h. inr (h, rw (ne_eqb k j h) at e))

pub find_head : (xs : List (ℕ × ℕ)) (k o : ℕ) → find ((k, o) ∷ xs) k ≡ Some o
find_head xs k o = rw (eq-eqb k k refl) refl

pub find_tail : (xs : List (ℕ × ℕ)) (k o j : ℕ) → k ≢ j → find ((k, o) ∷ xs) j ≡ find xs j
find_tail xs k o j n = rw (ne_eqb k j n) refl

pub find_without : (xs : List (ℕ × ℕ)) (k j : ℕ) → k ≢ j → find (without xs k) j ≡ find xs j
find_without [] k j n = refl
find_without (x ∷ xs) k j n = dite (ℕ_discrete x.0 k)
    (λ h. let m : x.0 ≢ j = λ e. n (omega arith) in rw (eq-eqb x.0 k h, ne_eqb x.0 j m) (find_without xs k j n))
    (λ h. rw (ne_eqb x.0 k h) (let r = find_without xs k j n in rw r refl))

pub find_gone : (xs : List (ℕ × ℕ)) (k : ℕ) → find (without xs k) k ≡ None
find_gone [] k = refl
find_gone (x ∷ xs) k = dite (ℕ_discrete x.0 k) (λ h. rw (eq-eqb x.0 k h) (find_gone xs k)) (λ h. rw (ne_eqb x.0 k h, ne_eqb x.0 k h) (find_gone xs k))

pub pair_of : (p q : ℕ × ℕ) → Some p ≡ Some q → (p.0 ≡ q.0) × (p.1 ≡ q.1)
pair_of p q e = let s : p ≡ q = cc in (ap (λ (r : ℕ × ℕ). r.0) s, ap (λ (r : ℕ × ℕ). r.1) s)

pub all_one : {X : Type 0} (P : X → Type 0) (a : X) → P a → All P (a ∷ [])
all_one P a h zero d lt = h
all_one P a h (suc k) d lt = absurd (omega arith)

-- in a list with one more, an element was there, or is the new one, behind all
pub at_snoc : {A : Type 0} (l : List A) (a b : A) (j : ℕ) → get_elem? (l ++ a ∷ []) j ≡ some b → (get_elem? l j ≡ some b) ⊎ ((a ≡ b) × (j ≡ length l))
at_snoc [] a b zero e = inr (some-injective a b e, refl)
at_snoc [] a b (suc j) e = absurd (some-ne-none b (sym e))
at_snoc (x ∷ xs) a b zero e = inl e
at_snoc (x ∷ xs) a b (suc j) e = ⊎_elim (λ t. inl t) (λ t. let n = t.1 in inr (t.0, omega arith)) (at_snoc xs a b j e)

pub view_there : {A : Type 0} (l : List A) (i : ℕ) → i < length l → (a : A) × (get_elem? l i ≡ some a)
view_there [] i h = absurd (omega arith)
view_there (x ∷ xs) zero h = (x, refl)
view_there (x ∷ xs) (suc i) h = view_there xs i (omega arith)

-- a step that leaves a part of its view leaves the list of parts
pub unmoved : {A B : Type 0} (f : A → B) (l : List A) (i : ℕ) (a b : A) → get_elem? l i ≡ some a → f b ≡ f a → map f (set l i b) ≡ map f l
unmoved f l i a b at same = map-set f l i b ∙ (rw same (set_again (map f l) i (f a) (at_map f l i a at)))

-- what is said of each element still is, where it is said of the changed one
pub each_set : {A : Type 0} (P : ℕ → A → Type 0) (l : List A) (i : ℕ) (a : A) → P i a → ((j : ℕ) (b : A) → j ≢ i → get_elem? l j ≡ some b → P j b) → (j : ℕ) (b : A) → get_elem? (set l i a) j ≡ some b → P j b
each_set {A = A} P l i a mine rest j b at = ⊎_elim (λ t. subst (λ (x : A). P j x) t.1 (subst (λ (k : ℕ). P k a) (sym t.0) mine)) (λ t. rest j b t.0 t.1) (at_set l i j a b at)

pub at_change : {A : Type 0} (f : ℕ → A) (k : ℕ) (a : A) (j : ℕ) → ((j ≡ k) × (change f k a j ≡ a)) ⊎ ((j ≢ k) × (change f k a j ≡ f j))
at_change f k a j = dite (ℕ_discrete j k) (λ e. inl (e, rw (eq-eqb j k e) refl)) (λ n. inr (n, rw (ne_eqb j k n) refl))

pub eq_of : (a b : ℕ) → (a == b) ≡ true → a ≡ b
eq_of a b e = dite (ℕ_discrete a b) (λ h. h) (λ n. absurd (true≢false (sym e ∙ ne_eqb a b n)))
