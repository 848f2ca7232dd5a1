-- Rising lists of keys, and which of them are in a range.
use Rattle.std.proofs.Common.{◌≡◌, ℕ, suc, ◌+◌, ◌*◌, ◌/◌, ◌%◌, ◌^◌, ◌<◌, ◌≤◌, ◌⊎◌, inl, inr, Bool, true, false, ◌&&◌, List, [], ◌∷◌, ◌++◌, length, map, take, drop, set, get_or, All, Contains, Option, Some, None, refl, sym, ap, ap₂, ◌∙◌, subst, arith}
use Rattle.std.specs.Prelude.{AllPairs, nat_le, nat_lt}
use Rattle.std.specs.List.{filter, remove}
use Rattle.std.specs.List.Sorted.{IsPermutation}
use Rattle.std.proofs.lemmas.Bool.{cases_Bool, cases_lt, le-leb, le-ltb, lt-leb, lt-ltb}
use Rattle.std.proofs.lemmas.List.{set_split, set-get_or}
use Rattle.std.proofs.lemmas.List.Elements.{All-append, All-contains, All-filter, All-head, All-map, All-nil, All-tail, All-weaker, filter-append}
use Rattle.std.proofs.lemmas.List.Kept.{AllPairs-cons}
use Rattle.std.proofs.lemmas.List.Sorted.{IsPermutation-middle, IsPermutation-refl, IsPermutation-remove, IsPermutation-sym, IsPermutation-trans, IsPermutation-cons, length_permutation, Contains-permutation}
use Rattle.tree_index.specs.Shape.{Shape, Leaf, Fork, IsRadix, keys_in, keys_of}
use Rattle.tree_index.specs.declared.tree.Tree.{Tree}
use Rattle.tree_index.specs.Tree.{IsTree}
use Rattle.tree_index.proofs.Numbers.{below_from}
use Rattle.tatp_layout.proofs.Found.{first_among, first_or_other}
use Rattle.tatp_layout.proofs.Permuted.{permuted_rest}
use Rattle.tatp_core.specs.Located.{ComesBefore}

-- each key is below those after it
abbrev pub Rises : List ℕ → Type 0
Rises [] = Unit {0}
Rises (k ∷ ks) = All (λ x. k < x) ks × Rises ks

rises_append : (xs ys : List ℕ) → Rises xs → Rises ys → All (λ x. All (λ y. x < y) ys) xs → Rises (xs ++ ys)
rises_append [] ys left right below = right
rises_append (x ∷ xs) ys left right below = (All-append (λ y. x < y) xs ys left.0 (All-head (λ k. All (λ y. k < y) ys) x xs below), rises_append xs ys left.1 right (All-tail (λ k. All (λ y. k < y) ys) x xs below))

radix_rises : (most : ℕ) (shape : Shape) → IsRadix most shape → Rises (keys_of shape)
radix_rises most (Leaf at key) radix = (All-nil (λ x. key < x), tt)
radix_rises most (Fork at bit zeros ones) radix =
    rises_append (keys_of zeros) (keys_of ones) (radix_rises bit zeros radix.2) (radix_rises bit ones radix.3)
    (All-weaker (λ x. x / 2 ^ bit ≡ 2 * radix.1.0) (λ x. All (λ y. x < y) (keys_of ones)) (λ x low.
    All-weaker (λ y. y / 2 ^ bit ≡ 2 * radix.1.0 + 1) (λ y. x < y) (λ y high. below_from bit x y (omega (arith, low, high))) (keys_of ones) radix.1.2) (keys_of zeros) radix.1.1)

-- the keys of a tree rise
pub keys_rise : {tree : Tree} {array free_leaves free_inner : List ℕ} (shape : Option Shape) → IsTree tree array shape free_leaves free_inner → Rises (keys_in shape)
keys_rise None lawful = tt
keys_rise (Some shape) lawful = radix_rises 64 shape lawful.rooted.2

-- ---- keys in a range

-- from a on and below b
abbrev pub is_in : ℕ → ℕ → ℕ → Bool
is_in a b k = nat_le a k && nat_lt k b

pub in_range : (a b k : ℕ) → a ≤ k → k < b → is_in a b k ≡ true
in_range a b k from below = rw (le-leb a k from, lt-ltb k b below) refl

pub under_range : (a b k : ℕ) → k < a → is_in a b k ≡ false
under_range a b k under = rw (lt-leb a k under) refl

pub over_range : (a b k : ℕ) → b ≤ k → is_in a b k ≡ false
over_range a b k over = elim (cases_Bool (nat_le a k)) [
  | inl above ↦ rw (above, le-ltb k b over) refl
  | inr under ↦ rw under refl
]

filter_none : (p : ℕ → Bool) (xs : List ℕ) → All (λ k. p k ≡ false) xs → filter p xs ≡ []
filter_none p [] none = refl
filter_none p (x ∷ xs) none = rw (All-head (λ k. p k ≡ false) x xs none) (filter_none p xs (All-tail (λ k. p k ≡ false) x xs none))

-- a range of rising keys is its lower part and then its upper one
pub range_split : (a b c : ℕ) (xs : List ℕ) → a ≤ b → b ≤ c → Rises xs → filter (is_in a c) xs ≡ filter (is_in a b) xs ++ filter (is_in b c) xs
range_split a b c [] low high rises = refl
range_split a b c (x ∷ xs) low high rises =
    let rest = range_split a b c xs low high rises.1 in
    elim (cases_lt x b) [
      | inl under ↦ elim (cases_lt x a) [
        | inl none ↦ rw (under_range a c x none, under_range a b x none, under_range b c x under) rest
        | inr some ↦ rw (in_range a c x some (omega (arith, under, high)), in_range a b x some under, under_range b c x under) (ap (λ l. x ∷ l) rest)
      ]
      | inr over ↦
          let none : filter (is_in a b) xs ≡ [] = filter_none (is_in a b) xs (All-weaker (λ y. x < y) (λ y. is_in a b y ≡ false) (λ y more. over_range a b y (omega (arith, more, over))) xs rises.0) in
          let upper : filter (is_in a c) xs ≡ filter (is_in b c) xs = rest ∙ ap (λ l. l ++ filter (is_in b c) xs) none in
          elim (cases_lt x c) [
            | inl inside ↦ rw (in_range a c x (omega (arith, low, over)) inside, over_range a b x over, in_range b c x over inside, none) (ap (λ l. x ∷ l) upper)
            | inr above ↦ rw (over_range a c x above, over_range a b x over, over_range b c x above, none) upper
          ]
    ]

-- a range of no length
pub range_empty : (a : ℕ) (xs : List ℕ) → filter (is_in a a) xs ≡ []
range_empty a [] = refl
range_empty a (x ∷ xs) = elim (cases_lt x a) [
  | inl under ↦ rw (under_range a a x under) (range_empty a xs)
  | inr over ↦ rw (over_range a a x over) (range_empty a xs)
]

-- the same where the lower part is empty, wherever the range ends
pub range_parted : (a b c : ℕ) (xs : List ℕ) → a ≤ b → (b ≤ c) ⊎ (b ≡ a) → Rises xs → filter (is_in a c) xs ≡ filter (is_in a b) xs ++ filter (is_in b c) xs
range_parted a b c xs low (inl high) rises = range_split a b c xs low high rises
range_parted a b c xs low (inr is) rises = rw is (ap (λ l. l ++ filter (is_in a c) xs) (sym (range_empty a xs)))

-- no key is in the range
pub range_none : (from last : ℕ) (keys : List ℕ) → All (λ key. (key < from) ⊎ (last < key)) keys → filter (is_in from (last + 1)) keys ≡ []
range_none from last keys none =
    filter_none (is_in from (last + 1)) keys (All-weaker (λ key. (key < from) ⊎ (last < key)) (λ key. is_in from (last + 1) key ≡ false) (λ key out. elim out [
      | inl under ↦ under_range from (last + 1) key under
      | inr over ↦ over_range from (last + 1) key (omega (arith, over))
    ]) keys none)

-- the next key is the only one up to it
pub range_one : (from key : ℕ) (xs : List ℕ) → Rises xs → Contains xs key → from ≤ key → All (λ k. (k < from) ⊎ (key ≤ k)) xs → filter (is_in from (key + 1)) xs ≡ key ∷ []
range_one from key [] rises there le next = absurd (omega (arith, there.1))
range_one from key (x ∷ xs) rises there le next =
    elim (All-head (λ k. (k < from) ⊎ (key ≤ k)) x xs next) [
      | inl under ↦ rw (under_range from (key + 1) x under) (elim (first_or_other key x xs there) [
        | inl is ↦ absurd (omega (arith, is, under, le))
        | inr other ↦ range_one from key xs rises.1 other le (All-tail (λ k. (k < from) ⊎ (key ≤ k)) x xs next)
      ])
      | inr over ↦ elim (first_or_other key x xs there) [
        | inl is ↦ rw (in_range from (key + 1) x (omega (arith, le, is)) (omega (arith, is))) (ap₂ (λ k l. k ∷ l) is
            (filter_none (is_in from (key + 1)) xs (All-weaker (λ y. x < y) (λ y. is_in from (key + 1) y ≡ false) (λ y more. over_range from (key + 1) y (omega (arith, more, is))) xs rises.0)))
        | inr other ↦ absurd (let more = All-contains (λ y. x < y) xs key rises.0 other in omega (arith, more, over))
      ]
    ]

pub filter_rises : (p : ℕ → Bool) (xs : List ℕ) → Rises xs → Rises (filter p xs)
filter_rises p [] rises = tt
filter_rises p (x ∷ xs) rises = elim (cases_Bool (p x)) [
  | inl kept ↦ rw kept (All-filter p (λ y. x < y) xs rises.0, filter_rises p xs rises.1)
  | inr dropped ↦ rw dropped (filter_rises p xs rises.1)
]

-- ---- a filter of a list in another order

filter_removed : (p : ℕ → Bool) (xs : List ℕ) (i x : ℕ) → i < length xs → x ≡ get_or xs i x → IsPermutation (filter p xs) (filter p (x ∷ remove xs i))
filter_removed p xs i x inside is =
    let front = take i xs in
    let back = drop (suc i) xs in
    let whole : front ++ x ∷ back ≡ xs = sym (set_split xs i x inside) ∙ ap (λ (y : ℕ). set xs i y) is ∙ set-get_or xs i x in
    subst (λ l. IsPermutation (filter p l) (filter p (x ∷ (front ++ back)))) whole
    (rw (filter-append p front (x ∷ back)) (elim (cases_Bool (p x)) [
      | inl kept ↦ rw (kept, filter-append p front back) (IsPermutation-middle (filter p front) x (filter p back))
      | inr dropped ↦ rw (dropped, filter-append p front back) (IsPermutation-refl (filter p front ++ filter p back))
    ]))

pub permuted_filter : (p : ℕ → Bool) (xs ys : List ℕ) → IsPermutation xs ys → IsPermutation (filter p xs) (filter p ys)
permuted_filter p [] [] same = IsPermutation-refl []
permuted_filter p [] (y ∷ ys) same = absurd (omega (arith, length_permutation [] (y ∷ ys) same))
permuted_filter p (x ∷ xs) ys same =
    let at = Contains-permutation (x ∷ xs) ys x same (first_among x xs) in
    let moved : IsPermutation ys (x ∷ remove ys at.0) = IsPermutation-remove ys at.0 x at.1 (sym at.2) in
    let rest = permuted_filter p xs (remove ys at.0) (permuted_rest x xs (remove ys at.0) (IsPermutation-trans _ _ _ same moved)) in
    IsPermutation-trans _ _ _ (elim (cases_Bool (p x)) [
      | inl kept ↦ rw kept (IsPermutation-cons x _ _ rest)
      | inr dropped ↦ rw dropped rest
    ]) (IsPermutation-sym _ _ (filter_removed p ys at.0 x at.1 (sym at.2)))

-- ---- what keys say

-- the number and the location of a key
abbrev pub pair_of : ℕ → ℕ × ℕ
pair_of key = (key % 2 ^ 32, key / 2 ^ 32)

before : (x y : ℕ) → x < y → ComesBefore (pair_of x) (pair_of y)
before x y less = elim (cases_lt (x / 2 ^ 32) (y / 2 ^ 32)) [
  | inl under ↦ inl under
  | inr not ↦ inr (omega (arith, less, not), omega (arith, less, not))
]

-- rising keys have their pairs in order
pub pairs_in_order : (xs : List ℕ) → Rises xs → AllPairs ComesBefore (map pair_of xs)
pairs_in_order [] rises = λ i j d less inside. absurd (omega (arith, inside))
pairs_in_order (x ∷ xs) rises = AllPairs-cons ComesBefore (pair_of x) (map pair_of xs) (All-map (ComesBefore (pair_of x)) pair_of xs (All-weaker (λ y. x < y) (λ y. ComesBefore (pair_of x) (pair_of y)) (λ y less. before x y less) xs rises.0)) (pairs_in_order xs rises.1)
