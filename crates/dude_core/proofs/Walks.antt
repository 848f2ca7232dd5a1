-- A list that is walked from the front, and one that is filtered.
use Rattle.std.proofs.Common.{◌≡◌, ◌==◌, ◌&&◌, ◌*◌, ◌%◌, ℕ, zero, suc, ◌+◌, ◌<◌, ◌≤◌, Bool, true, false, not, List, [], ◌∷◌, length, drop, get_or, map, filter, refl, sym, ap, subst, ◌∙◌, inl, inr, ⊎_elim, arith, eq-eqb, ne_eqb, add-one, All}
use Rattle.std.specs.Prelude.{Some, None, slice_get, if◌then◌else◌}
use Rattle.std.proofs.Math.Seq.{drop-cons}
use Rattle.std.proofs.lemmas.Bool.{cases_from_iff}
use Rattle.std.proofs.lemmas.Grind.{common_steps}
use mathlib.Core.Logic.{dite}
use native.Mathlib.Decide.{ℕ_discrete}
use Rattle.dude_base.specs.declared.limits.TheConstants.{PAGE}
use Rattle.core_events.specs.Setups.{Setup, page_of, lock_of}
use Rattle.core_events.specs.Keyed.{find, without, has}
use Rattle.core_events.specs.Events.{unfilled, refilled, all_checked}
use Rattle.core_events.specs.Conditions.{IsFilled}
use Rattle.dude_core.specs.Named.{Tells}

-- the rest from the place i on is the element there and what follows
pub rest_cons : {A : Type 0} (xs : List A) (i : ℕ) (d : A) → i < length xs → drop i xs ≡ get_or xs i d ∷ drop (i + 1) xs
rest_cons xs i d lt = rw (add-one, drop-cons xs i d) refl

pub rest_all : {A : Type 0} (xs : List A) (i : ℕ) → length xs ≤ i → drop i xs ≡ []
rest_all [] zero h = refl
rest_all [] (suc i) h = refl
rest_all (x ∷ xs) zero h = absurd (omega arith)
rest_all (x ∷ xs) (suc i) h = rest_all xs i (omega arith)

pub kept_without : (xs : List (ℕ × ℕ)) (k : ℕ) → filter (λ x. not (x.0 == k)) xs ≡ without xs k
kept_without [] k = refl
kept_without (x ∷ xs) k = elim (x.0 == k) as (λ b. (if not b then (x ∷ filter (λ y. not (y.0 == k)) xs) else filter (λ y. not (y.0 == k)) xs) ≡ (if b then without xs k else (x ∷ without xs k))) [
  | true ↦ kept_without xs k
  | false ↦ ap (λ (l : List (ℕ × ℕ)). x ∷ l) (kept_without xs k)
]

pub kept_unfilled : (xs : List (ℕ × ℕ)) (p : ℕ) → filter (λ x. not (page_of x.0 == p)) xs ≡ unfilled p xs
kept_unfilled [] p = refl
kept_unfilled (x ∷ xs) p = elim (page_of x.0 == p) as (λ b. (if not b then (x ∷ filter (λ y. not (page_of y.0 == p)) xs) else filter (λ y. not (page_of y.0 == p)) xs) ≡ (if b then unfilled p xs else (x ∷ unfilled p xs))) [
  | true ↦ kept_unfilled xs p
  | false ↦ ap (λ (l : List (ℕ × ℕ)). x ∷ l) (kept_unfilled xs p)
]

pub kept_refilled : (xs : List (ℕ × ℕ)) (p f : ℕ) → filter (λ x. not ((x.1 == f) && not (page_of x.0 == p))) xs ≡ refilled p f xs
kept_refilled [] p f = refl
kept_refilled (x ∷ xs) p f = elim ((x.1 == f) && not (page_of x.0 == p)) as (λ b. (if not b then (x ∷ filter (λ y. not ((y.1 == f) && not (page_of y.0 == p))) xs) else filter (λ y. not ((y.1 == f) && not (page_of y.0 == p))) xs) ≡ (if b then refilled p f xs else (x ∷ refilled p f xs))) [
  | true ↦ kept_refilled xs p f
  | false ↦ ap (λ (l : List (ℕ × ℕ)). x ∷ l) (kept_refilled xs p f)
]

-- what a search finds at the place i of the list, and past its end
pub has_here : (xs : List ℕ) (n i : ℕ) → i < length xs → has xs n ≡ has (drop i xs) n → get_or xs i 0 ≡ n → true ≡ has xs n
has_here xs n i lt so e = sym (so ∙ (rw (rest_cons xs i 0 lt, eq-eqb (get_or xs i 0) n e) refl))

pub has_on : (xs : List ℕ) (n i : ℕ) → i < length xs → has xs n ≡ has (drop i xs) n → (get_or xs i 0 ≡ n → ⊥) → has xs n ≡ has (drop (i + 1) xs) n
has_on xs n i lt so e = so ∙ (rw (rest_cons xs i 0 lt, ne_eqb (get_or xs i 0) n e) refl)

pub has_end : (xs : List ℕ) (n i : ℕ) → length xs ≤ i → has xs n ≡ has (drop i xs) n → false ≡ has xs n
has_end xs n i le so = sym (so ∙ (rw (rest_all xs i le) refl))

pub find_here : (xs : List (ℕ × ℕ)) (k i : ℕ) → i < length xs → find xs k ≡ find (drop i xs) k → (get_or xs i (0, 0)).0 ≡ k → Some (get_or xs i (0, 0)).1 ≡ find xs k
find_here xs k i lt so e = sym (so ∙ (rw (rest_cons xs i (0, 0) lt, eq-eqb (get_or xs i (0, 0)).0 k e) refl))

pub find_on : (xs : List (ℕ × ℕ)) (k i : ℕ) → i < length xs → find xs k ≡ find (drop i xs) k → ((get_or xs i (0, 0)).0 ≡ k → ⊥) → find xs k ≡ find (drop (i + 1) xs) k
find_on xs k i lt so e = so ∙ (rw (rest_cons xs i (0, 0) lt, ne_eqb (get_or xs i (0, 0)).0 k e) refl)

pub find_end : (xs : List (ℕ × ℕ)) (k i : ℕ) → length xs ≤ i → find xs k ≡ find (drop i xs) k → None ≡ find xs k
find_end xs k i le so = sym (so ∙ (rw (rest_all xs i le) refl))

-- a search for a number, and one for a key
pub ruleset has_walk = (has_here, has_on, has_end)

pub ruleset find_walk = (find_here, find_on, find_end)

-- ---- what holds of all elements, or of one
pub get_of : {A : Type 0} (xs : List A) (k : ℕ) (d : A) → k < length xs → slice_get xs k ≡ Some (get_or xs k d)
get_of [] k d lt = absurd (omega arith)
get_of (x ∷ xs) zero d lt = refl
get_of (x ∷ xs) (suc k) d lt = get_of xs k d (omega arith)

-- so far P holds of the elements below k
abbrev pub AllBelow : {A : Type 0} → (A → Type 0) → List A → ℕ → Type 0
AllBelow {A} P xs k = (j : ℕ) (w : A) → j < k → slice_get xs j ≡ Some w → P w

pub all_more : {A : Type 0} (P : A → Type 0) (xs : List A) (k : ℕ) (w : A) → AllBelow P xs k → slice_get xs k ≡ Some w → P w → AllBelow P xs (k + 1)
all_more {A} P xs k w below at here j v lt e = dite (ℕ_discrete j k)
    (λ same. let is : w ≡ v = (let r : slice_get xs k ≡ Some v = subst (λ (i : ℕ). slice_get xs i ≡ Some v) same e in cc) in subst P is here)
    (λ apart. below j v (omega arith) e)

pub all_told : {A : Type 0} (P : A → Type 0) (xs : List A) (k : ℕ) → length xs ≤ k → AllBelow P xs k → All P xs
all_told P xs k le below j d lt = below j (get_or xs j d) (omega arith) (get_of xs j d lt)

pub not_all : {A : Type 0} (P : A → Type 0) (xs : List A) (k : ℕ) (w : A) → k < length xs → slice_get xs k ≡ Some w → (P w → ⊥) → All P xs → ⊥
not_all P xs k w lt at never all = let is : get_or xs k w ≡ w = (let r = get_of xs k w lt in cc) in never (subst P is (all k w lt))

pub filled_here : (xs : List (ℕ × ℕ)) (k i f : ℕ) → k < length xs → (get_or xs k (0, 0)).0 ≡ i → (get_or xs k (0, 0)).1 ≡ f → IsFilled xs i f
filled_here [] k i f lt e g = absurd (omega arith)
filled_here (x ∷ xs) zero i f lt e g = inl (e, g)
filled_here (x ∷ xs) (suc k) i f lt e g = inr (filled_here xs k i f (omega arith) e g)

pub filled_on : (xs : List (ℕ × ℕ)) (k i f : ℕ) → k < length xs → IsFilled (drop k xs) i f → (((get_or xs k (0, 0)).0 ≡ i) × ((get_or xs k (0, 0)).1 ≡ f) → ⊥) → IsFilled (drop (k + 1) xs) i f
filled_on xs k i f lt so never = ⊎_elim (λ t. absurd (never t)) (λ t. t) (rw (rest_cons xs k (0, 0) lt) at so)

pub checked_here : (z : Setup) (ks : List ℕ) (xs : List (ℕ × ℕ)) (i : ℕ) → i < length xs → all_checked z ks xs ≡ all_checked z ks (drop i xs) → has ks (lock_of z (get_or xs i (0, 0)).0) ≡ false → false ≡ all_checked z ks xs
checked_here z ks xs i lt so e = sym (so ∙ (rw (rest_cons xs i (0, 0) lt, e) refl))

pub checked_on : (z : Setup) (ks : List ℕ) (xs : List (ℕ × ℕ)) (i : ℕ) → i < length xs → all_checked z ks xs ≡ all_checked z ks (drop i xs) → has ks (lock_of z (get_or xs i (0, 0)).0) ≡ true → all_checked z ks xs ≡ all_checked z ks (drop (i + 1) xs)
checked_on z ks xs i lt so e = so ∙ (rw (rest_cons xs i (0, 0) lt, e) refl)

pub checked_end : (z : Setup) (ks : List ℕ) (xs : List (ℕ × ℕ)) (i : ℕ) → length xs ≤ i → all_checked z ks xs ≡ all_checked z ks (drop i xs) → true ≡ all_checked z ks xs
checked_end z ks xs i le so = sym (so ∙ (rw (rest_all xs i le) refl))

pub checked_all : (z : Setup) (ks : List ℕ) (xs : List (ℕ × ℕ)) → all_checked z ks xs ≡ true → All (λ r. has ks (lock_of z r.0) ≡ true) xs
checked_all z ks [] e k d lt = absurd (omega arith)
checked_all z ks (x ∷ xs) e zero d lt = grind (arith, common_steps)
checked_all z ks (x ∷ xs) e (suc k) d lt = checked_all z ks xs (grind (arith, common_steps)) k d (omega arith)

pub all_is_checked : (z : Setup) (ks : List ℕ) (xs : List (ℕ × ℕ)) → All (λ r. has ks (lock_of z r.0) ≡ true) xs → all_checked z ks xs ≡ true
all_is_checked z ks [] h = refl
all_is_checked z ks (x ∷ xs) h = let one : has ks (lock_of z x.0) ≡ true = h 0 x (omega arith) in rw one (all_is_checked z ks xs (λ k d lt. h (suc k) d (omega arith)))

pub lock_here : (z : Setup) (xs : List (ℕ × ℕ)) (n i : ℕ) → i < length xs → has (map (λ r. lock_of z r.0) xs) n ≡ has (map (λ r. lock_of z r.0) (drop i xs)) n → lock_of z (get_or xs i (0, 0)).0 ≡ n → true ≡ has (map (λ r. lock_of z r.0) xs) n
lock_here z xs n i lt so e = sym (so ∙ (rw (rest_cons xs i (0, 0) lt, eq-eqb (lock_of z (get_or xs i (0, 0)).0) n e) refl))

pub lock_on : (z : Setup) (xs : List (ℕ × ℕ)) (n i : ℕ) → i < length xs → has (map (λ r. lock_of z r.0) xs) n ≡ has (map (λ r. lock_of z r.0) (drop i xs)) n → (lock_of z (get_or xs i (0, 0)).0 ≡ n → ⊥) → has (map (λ r. lock_of z r.0) xs) n ≡ has (map (λ r. lock_of z r.0) (drop (i + 1) xs)) n
lock_on z xs n i lt so e = so ∙ (rw (rest_cons xs i (0, 0) lt, ne_eqb (lock_of z (get_or xs i (0, 0)).0) n e) refl)

pub lock_end : (z : Setup) (xs : List (ℕ × ℕ)) (n i : ℕ) → length xs ≤ i → has (map (λ r. lock_of z r.0) xs) n ≡ has (map (λ r. lock_of z r.0) (drop i xs)) n → false ≡ has (map (λ r. lock_of z r.0) xs) n
lock_end z xs n i le so = sym (so ∙ (rw (rest_all xs i le) refl))

module _ (xs : List (ℕ × ℕ)) (p f : ℕ) where
  pub page_more : (k : ℕ) → ((j : ℕ) → j < k → IsFilled xs (p * PAGE + j) f) → IsFilled xs (p * PAGE + k) f → (j : ℕ) → j < k + 1 → IsFilled xs (p * PAGE + j) f
  page_more k below here j lt = dite (ℕ_discrete j k) (λ same. subst (λ (i : ℕ). IsFilled xs (p * PAGE + i) f) (sym same) here) (λ apart. below j (omega arith))

  pub page_told : (k : ℕ) → PAGE ≤ k → ((j : ℕ) → j < k → IsFilled xs (p * PAGE + j) f) → (i : ℕ) → page_of i ≡ p → IsFilled xs i f
  page_told k le below i e =
      let at : p * PAGE + i % PAGE ≡ i = omega arith in
      subst (λ (n : ℕ). IsFilled xs n f) at (below (i % PAGE) (omega arith))

  pub not_page : (k : ℕ) → k < PAGE → (IsFilled xs (p * PAGE + k) f → ⊥) → ((i : ℕ) → page_of i ≡ p → IsFilled xs i f) → ⊥
  not_page k lt never all = never (all (p * PAGE + k) (omega arith))

pub checked_tells : (z : Setup) (ks : List ℕ) (xs : List (ℕ × ℕ)) (b : Bool) → b ≡ all_checked z ks xs → Tells b (All (λ r. has ks (lock_of z r.0) ≡ true) xs)
checked_tells z ks xs b e = cases_from_iff {P = All (λ r. has ks (lock_of z r.0) ≡ true) xs}
    ((λ t. checked_all z ks xs (sym e ∙ t)), (λ h. e ∙ all_is_checked z ks xs h))
