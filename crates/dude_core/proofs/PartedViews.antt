-- Views that are split and joined, by their places.
use Rattle.std.proofs.Common.{◌≡◌, ◌≢◌, ℕ, zero, suc, ◌<◌, List, [], ◌∷◌, ◌++◌, length, get_or, set, refl, sym, ap, ◌∙◌, arith}
use mathlib.Core.Option.{some, some-injective}
use lib.ListN.{get_elem?}
use Rattle.core_events.specs.Views.{View}
use Rattle.core_events.specs.Partings.{left_of, both_of}
use Rattle.core_events.proofs.Lists.{there, at_index, set_else, set_again}
use Rattle.core_events.proofs.Threads.{at_longer}
use Rattle.dude_core.specs.Small.{AreSmall}

module _ {A : Type 0} where
  -- a place within the first list of two
  set_within : (l m : List A) (i : ℕ) (a : A) → i < length l → set (l ++ m) i a ≡ set l i a ++ m
  set_within [] m i a lt = absurd (omega arith)
  set_within (x ∷ xs) m zero a lt = refl
  set_within (x ∷ xs) m (suc i) a lt = ap (λ (l : List A). x ∷ l) (set_within xs m i a (omega arith))

  -- two different places
  set_apart : (l : List A) (i j : ℕ) (a b : A) → i ≢ j → set (set l i a) j b ≡ set (set l j b) i a
  set_apart [] i j a b apart = refl
  set_apart (x ∷ xs) zero zero a b apart = absurd (apart refl)
  set_apart (x ∷ xs) zero (suc j) a b apart = refl
  set_apart (x ∷ xs) (suc i) zero a b apart = refl
  set_apart (x ∷ xs) (suc i) (suc j) a b apart = ap (λ (l : List A). x ∷ l) (set_apart xs i j a b (λ e. apart (ap suc e)))

  -- one place twice
  set_twice : (l : List A) (i : ℕ) (a b : A) → set (set l i a) i b ≡ set l i b
  set_twice [] i a b = refl
  set_twice (x ∷ xs) zero a b = refl
  set_twice (x ∷ xs) (suc i) a b = ap (λ (l : List A). x ∷ l) (set_twice xs i a b)

  length_set : (l : List A) (i : ℕ) (a : A) → length (set l i a) ≡ length l
  length_set [] i a = refl
  length_set (x ∷ xs) zero a = refl
  length_set (x ∷ xs) (suc i) a = let h = length_set xs i a in omega arith

  -- what was put in place of b is taken back, and what is read at the place i is put there again
  pub undone : (l : List A) (i j : ℕ) (s u a x b : A) → i < length l → j < length l → u ≡ get_or (set l j s) i u → a ≡ u → x ≡ get_or l j x → b ≡ x → set (set (set l j s) i a) j b ≡ l
  undone l i j s u a x b ilt jlt u_is a_is x_is b_is =
      let n = length_set l j s in
      let first : set (set l j s) i a ≡ set l j s = ap (set (set l j s) i) a_is ∙ set_again (set l j s) i u (at_index (set l j s) i u (omega arith) u_is) in
      ap (λ (m : List A). set m j b) first ∙ (set_twice l j s b ∙ (ap (set l j) b_is ∙ set_again l j x (at_index l j x jlt x_is)))

pub split_is : (l p : List View) (i draws : ℕ) (n v u w : View) → p ≡ l ++ n ∷ [] → get_elem? l i ≡ some v → u ≡ get_or p i u → w ≡ left_of draws u → set p i w ≡ set l i (left_of draws v) ++ n ∷ []
split_is l p i draws n v u w p_is at u_is w_is =
    let longer : get_elem? p i ≡ some v = ap (λ (m : List View). get_elem? m i) p_is ∙ at_longer l (n ∷ []) i v at in
    let same : u ≡ v = some-injective u v (sym (at_index p i u (there p i v longer) u_is) ∙ longer) in
    ap (λ (m : List View). set m i w) p_is ∙ (set_within l (n ∷ []) i w (there l i v at) ∙ ap (λ (x : View). set l i x ++ n ∷ []) (w_is ∙ ap (left_of draws) same))

-- what is read at a place that wasn't replaced
pub still_there : (l : List View) (i j : ℕ) (s v u : View) → i ≢ j → get_elem? l i ≡ some v → u ≡ get_or (set l j s) i u → u ≡ v
still_there l i j s v u apart at u_is =
    let n = length_set l j s in let lt = there l i v at in
    let here : get_elem? (set l j s) i ≡ some v = set_else l j i s apart ∙ at in
    some-injective u v (sym (at_index (set l j s) i u (omega arith) u_is) ∙ here)

pub join_is : (l : List View) (i j : ℕ) (s t v w u x y : View) → i ≢ j → get_elem? l i ≡ some v → get_elem? l j ≡ some w → t ≡ s → u ≡ get_or (set l j t) i u → x ≡ get_or l j x → y ≡ both_of u x
    → set (set l j t) i y ≡ set (set l i (both_of v w)) j s
join_is l i j s t v w u x y apart at other t_is u_is x_is y_is =
    let one : u ≡ v = still_there l i j t v u apart at u_is in
    let two : x ≡ w = some-injective x w (sym (at_index l j x (there l j w other) x_is) ∙ other) in
    ap (λ (q : View). set (set l j q) i y) t_is ∙ (sym (set_apart l i j y s apart)
    ∙ ap (λ (q : View). set (set l i q) j s) (y_is ∙ (ap (λ (q : View). both_of q x) one ∙ ap (both_of v) two)))

pub small_places : (l : List View) (i j : ℕ) (t u y x : View) → i ≢ j → i < length l → j < length l → u ≡ get_or (set l j t) i u → y ≡ x → x ≡ get_or l j x
    → ((v w : View) → get_elem? l i ≡ some v → get_elem? l j ≡ some w → AreSmall v w) → AreSmall u y
small_places l i j t u y x apart ilt jlt u_is y_is x_is small =
    let n = length_set l j t in
    let here : get_elem? l i ≡ some u = sym (set_else l j i t apart) ∙ at_index (set l j t) i u (omega arith) u_is in
    small u y here (at_index l j x jlt x_is ∙ ap some (sym y_is))
