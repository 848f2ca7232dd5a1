-- Lists whose elements stand in a relation, each with each later one.
use Rattle.std.proofs.Common.{◌≡◌, zero, suc, ◌<◌, Bool, false, List, [], ◌∷◌, ◌++◌, length, get_or, map, sym, ◌∙◌, subst, arith, inl, inr, ◌⊎◌}
use Rattle.std.specs.List.{All, AllPairs, Contains, IsDistinct}
use Rattle.std.specs.Prelude.{IsPermutation}
use Rattle.std.proofs.lemmas.List.{get_or-map, length-map}
use Rattle.std.proofs.lemmas.List.Elements.{All-nil, All-cons, All-head, All-tail, All-append, All-contains, All-from_recursion, recursion_from_All, Contains-get_or}
use Rattle.std.proofs.lemmas.List.Kept.{AllPairs-cons}
use Rattle.std.proofs.lemmas.Map.Keys.{IsDistinct-IsPermutation}

module _ {X : Type 0} (P : X → Type 0) where
  -- what holds of two lists in a row holds of each
  pub all_before : (xs ys : List X) → All P (xs ++ ys) → All P xs
  all_before [] ys all = All-nil P
  all_before (x ∷ xs) ys all = All-cons P x xs (All-head P x (xs ++ ys) all) (all_before xs ys (All-tail P x (xs ++ ys) all))

  pub all_behind : (xs ys : List X) → All P (xs ++ ys) → All P ys
  all_behind [] ys all = all
  all_behind (x ∷ xs) ys all = all_behind xs ys (All-tail P x (xs ++ ys) all)

module _ {X : Type 0} (R : X → X → Type 0) where
  pub pairs_nil : AllPairs R []
  pairs_nil = λ i j d before within. absurd (omega arith)

  pub pairs_head : (x : X) (xs : List X) → AllPairs R (x ∷ xs) → All (R x) xs
  pairs_head x xs pairs = λ k d within. pairs 0 (suc k) d (omega arith) (omega arith)

  pub pairs_tail : (x : X) (xs : List X) → AllPairs R (x ∷ xs) → AllPairs R xs
  pairs_tail x xs pairs = λ i j d before within. pairs (suc i) (suc j) d (omega arith) (omega arith)

  -- one list and then another, where each element of the first stands so to each of the second
  pub pairs_append : (P Q : X → Type 0) → ((x y : X) → P x → Q y → R x y) → (xs ys : List X) → All P xs → All Q ys → AllPairs R xs → AllPairs R ys → AllPairs R (xs ++ ys)
  pairs_append P Q across [] ys ps qs here there = there
  pairs_append P Q across (x ∷ xs) ys ps qs here there =
      AllPairs-cons R x (xs ++ ys)
      (All-append (R x) xs ys (pairs_head x xs here) (λ k d within. across x (get_or ys k d) (All-head P x xs ps) (qs k d within)))
      (pairs_append P Q across xs ys (All-tail P x xs ps) qs (pairs_tail x xs here) there)

  -- in such a list the elements before one stand so to it
  pub pairs_at : (xs : List X) (d : X) (ys : List X) → AllPairs R (xs ++ d ∷ ys) → All (λ x. R x d) xs
  pairs_at [] d ys pairs = All-nil (λ x. R x d)
  pairs_at (x ∷ xs) d ys pairs =
      All-cons (λ y. R y d) x xs (All-head (R x) d ys (all_behind (R x) xs (d ∷ ys) (pairs_head x (xs ++ d ∷ ys) pairs)))
      (pairs_at xs d ys (pairs_tail x (xs ++ d ∷ ys) pairs))

  -- one more element between two lists
  pub pairs_insert : (xs : List X) (d : X) (ys : List X) → AllPairs R (xs ++ ys) → All (λ x. R x d) xs → All (R d) ys → AllPairs R (xs ++ d ∷ ys)
  pairs_insert [] d ys pairs before behind = AllPairs-cons R d ys behind pairs
  pairs_insert (x ∷ xs) d ys pairs before behind =
      let all = pairs_head x (xs ++ ys) pairs in
      AllPairs-cons R x (xs ++ d ∷ ys)
      (All-append (R x) xs (d ∷ ys) (all_before (R x) xs ys all) (All-cons (R x) d ys (All-head (λ y. R y d) x xs before) (all_behind (R x) xs ys all)))
      (pairs_insert xs d ys (pairs_tail x (xs ++ ys) pairs) (All-tail (λ y. R y d) x xs before) behind)

  -- two elements of such a list are one, or stand so in one of the two orders
  pub one_or_other : (xs : List X) (x y : X) → AllPairs R xs → Contains xs x → Contains xs y → (x ≡ y) ⊎ (R x y ⊎ R y x)
  one_or_other [] x y pairs here there = absurd (omega (arith, here.1))
  one_or_other (z ∷ zs) x y pairs (zero, hw, hi) (zero, tw, ti) = inl (sym hi ∙ ti)
  one_or_other (z ∷ zs) x y pairs (zero, hw, hi) (suc k, tw, ti) =
      let all : All (R z) zs = pairs_head z zs pairs in
      inr (inl (subst (λ (w : X). R w y) hi (All-contains (R z) zs y all (k, omega (arith, tw), ti))))
  one_or_other (z ∷ zs) x y pairs (suc k, hw, hi) (zero, tw, ti) =
      let all : All (R z) zs = pairs_head z zs pairs in
      inr (inr (subst (λ (w : X). R w x) ti (All-contains (R z) zs x all (k, omega (arith, hw), hi))))
  one_or_other (z ∷ zs) x y pairs (suc k, hw, hi) (suc l, tw, ti) =
      one_or_other zs x y (pairs_tail z zs pairs) (k, omega (arith, hw), hi) (l, omega (arith, tw), ti)

module _ {X : Type 0} (R S : X → X → Type 0) where
  -- another relation, where it follows for each two elements of the list
  pub pairs_among : (xs : List X) → ((x y : X) → Contains xs x → Contains xs y → R x y → S x y) → AllPairs R xs → AllPairs S xs
  pairs_among xs follows pairs = λ i j d before within.
      let below : i < length xs = omega (arith, before, within) in
      follows (get_or xs i d) (get_or xs j d) (Contains-get_or xs i d below) (Contains-get_or xs j d within) (pairs i j d before within)

  pub pairs_weaker : (xs : List X) → ((x y : X) → R x y → S x y) → AllPairs R xs → AllPairs S xs
  pairs_weaker xs follows pairs = λ i j d before within. follows (get_or xs i d) (get_or xs j d) (pairs i j d before within)

module _ {X Y : Type 0} (R : Y → Y → Type 0) (f : X → Y) where
  -- a mapped list
  pub pairs_mapped : (xs : List X) → AllPairs (λ x y. R (f x) (f y)) xs → AllPairs R (map f xs)
  pairs_mapped [] pairs = pairs_nil R
  pairs_mapped (x ∷ xs) pairs =
      AllPairs-cons R (f x) (map f xs) (all_mapped xs (pairs_head (λ x y. R (f x) (f y)) x xs pairs)) (pairs_mapped xs (pairs_tail (λ x y. R (f x) (f y)) x xs pairs))
    where
      all_mapped : (ys : List X) → All (λ y. R (f x) (f y)) ys → All (R (f x)) (map f ys)
      all_mapped [] all = All-nil (R (f x))
      all_mapped (y ∷ ys) all = All-cons (R (f x)) (f y) (map f ys) (All-head (λ z. R (f x) (f z)) y ys all) (all_mapped ys (All-tail (λ z. R (f x) (f z)) y ys all))

  pub pairs_unmapped : (xs : List X) → AllPairs R (map f xs) → AllPairs (λ x y. R (f x) (f y)) xs
  pairs_unmapped xs pairs = λ i j d before within.
      let first : i < length xs = omega (arith, before, within) in
      let there : j < length (map f xs) = rw (length-map xs f) within in
      rw (← get_or-map f xs i d (f d) first, ← get_or-map f xs j d (f d) within) (pairs i j (f d) before there)

module _ {X : Type 0} (alike : X → X → Bool) where
  distinct_pairs : (xs : List X) → IsDistinct alike xs → AllPairs (λ x y. alike x y ≡ false) xs
  unfolding IsDistinct
  distinct_pairs [] distinct = pairs_nil (λ x y. alike x y ≡ false)
  distinct_pairs (x ∷ xs) distinct =
      AllPairs-cons (λ x y. alike x y ≡ false) x xs (All-from_recursion (λ y. alike x y ≡ false) xs distinct.0) (distinct_pairs xs distinct.1)

  pub pairs_distinct : (xs : List X) → AllPairs (λ x y. alike x y ≡ false) xs → IsDistinct alike xs
  unfolding IsDistinct
  pairs_distinct [] pairs = tt
  pairs_distinct (x ∷ xs) pairs =
      (recursion_from_All (λ y. alike x y ≡ false) xs (pairs_head (λ x y. alike x y ≡ false) x xs pairs), pairs_distinct xs (pairs_tail (λ x y. alike x y ≡ false) x xs pairs))

  -- elements that a test tells apart stay so when they change places
  pub pairs_permuted : ((x y : X) → alike x y ≡ alike y x) → (xs ys : List X) → IsPermutation xs ys → AllPairs (λ x y. alike x y ≡ false) xs → AllPairs (λ x y. alike x y ≡ false) ys
  pairs_permuted flips xs ys same pairs = distinct_pairs ys (IsDistinct-IsPermutation alike flips xs ys same (pairs_distinct xs pairs))
