-- Shapes: their keys in order, and what a walk by the bits of a key reaches.
use Rattle.std.proofs.Common.{◌≡◌, ◌≢◌, ℕ, zero, suc, ◌+◌, ◌*◌, ◌/◌, ◌^◌, ◌<◌, ◌≤◌, inl, inr, List, [], ◌∷◌, ◌++◌, All, Contains, get_or, refl, sym, ap, ◌∙◌, subst, arith}
use Rattle.std.proofs.lemmas.Bool.{cases_order, cases_eq}
use Rattle.std.proofs.lemmas.List.Elements.{All-contains, All-append, All-cons, All-nil, All-from_get_or, All-weaker, Contains-get_or, Contains-append_cases, Contains-append_left, Contains-append_right}
use Rattle.tree_index.specs.Shape.{Shape, Leaf, Fork, AgreeFrom, IsRadix, bit_of, keys_of, least_of}
use Rattle.tree_index.specs.Path.{Frame, OnZeros, OnOnes, plug, GoesBy}
use Rattle.tree_index.specs.Walk.{EndsBelow}
use Rattle.tree_index.proofs.Numbers.{agree_up, half, from_bit, below_from}

pub first_among : (x : ℕ) (xs : List ℕ) → Contains (x ∷ xs) x
first_among x xs = (0, omega arith, refl)

pub other_among : (x y : ℕ) (ys : List ℕ) → Contains ys x → Contains (y ∷ ys) x
other_among x y ys c = Contains-append_right (y ∷ []) ys x c

pub all_by : (P : ℕ → Type 0) (xs : List ℕ) → ((x : ℕ) → Contains xs x → P x) → All P xs
all_by P xs holds = All-from_get_or P xs 0 (λ i below. holds (get_or xs i 0) (Contains-get_or xs i 0 below))

-- the only element
pub only_key : (k key : ℕ) → Contains (key ∷ []) k → k ≡ key
only_key k key c = All-contains (λ x. x ≡ key) (key ∷ []) k (All-cons (λ x. x ≡ key) key [] refl (All-nil (λ x. x ≡ key))) c

-- ---- bits

pub radix_more : (m n : ℕ) (shape : Shape) → m ≤ n → IsRadix m shape → IsRadix n shape
radix_more m n (Leaf at key) le radix = tt
radix_more m n (Fork at bit zeros ones) le radix = (omega (arith, le, radix.0), radix.1, radix.2, radix.3)

-- above the bit of an inner record all its keys agree
pub agree_above : (most at bit : ℕ) (zeros ones : Shape) → IsRadix most (Fork at bit zeros ones) → (high : ℕ) × AgreeFrom (bit + 1) high (keys_of zeros ++ keys_of ones)
agree_above most at bit zeros ones radix =
    let high = radix.1.0 in (
      high,
      All-append (λ y. y / 2 ^ (bit + 1) ≡ high) (keys_of zeros) (keys_of ones)
          (All-weaker (λ y. y / 2 ^ bit ≡ 2 * high) (λ y. y / 2 ^ (bit + 1) ≡ high) (λ y e. omega (arith, half bit y, e)) (keys_of zeros) radix.1.1)
          (All-weaker (λ y. y / 2 ^ bit ≡ 2 * high + 1) (λ y. y / 2 ^ (bit + 1) ≡ high) (λ y e. omega (arith, half bit y, e)) (keys_of ones) radix.1.2),
    )

-- ---- the least key

pub least_in : (shape : Shape) → Contains (keys_of shape) (least_of shape)
least_in (Leaf at key) = first_among key []
least_in (Fork at bit zeros ones) = Contains-append_left (keys_of zeros) (keys_of ones) (least_of zeros) (least_in zeros)

pub least_is : (most : ℕ) (shape : Shape) → IsRadix most shape → All (λ y. least_of shape ≤ y) (keys_of shape)
least_is most (Leaf at key) radix = All-cons (λ y. key ≤ y) key [] (omega arith) (All-nil (λ y. key ≤ y))
least_is most (Fork at bit zeros ones) radix =
    let least = least_of zeros in
    let low = All-contains (λ y. y / 2 ^ bit ≡ 2 * radix.1.0) (keys_of zeros) least radix.1.1 (least_in zeros) in
    All-append (λ y. least ≤ y) (keys_of zeros) (keys_of ones) (least_is bit zeros radix.2)
    (All-weaker (λ y. y / 2 ^ bit ≡ 2 * radix.1.0 + 1) (λ y. least ≤ y) (λ y e. let lt = below_from bit least y (omega (arith, low, e)) in omega (arith, lt)) (keys_of ones) radix.1.2)

-- ---- the key that the bits of a key lead to

abbrev pub by_side : ℕ → ℕ → ℕ → ℕ
by_side zero a b = a
by_side (suc n) a b = b

abbrev pub reached_key : ℕ → Shape → ℕ
reached_key key (Leaf at k) = k
reached_key key (Fork at bit zeros ones) = by_side (bit_of key bit) (reached_key key zeros) (reached_key key ones)

by_side_among : (n : ℕ) (xs ys : List ℕ) (a b : ℕ) → Contains xs a → Contains ys b → Contains (xs ++ ys) (by_side n a b)
by_side_among zero xs ys a b ca cb = Contains-append_left xs ys a ca
by_side_among (suc n) xs ys a b ca cb = Contains-append_right xs ys b cb

pub reach_in : (key : ℕ) (shape : Shape) → Contains (keys_of shape) (reached_key key shape)
reach_in key (Leaf at k) = first_among k []
reach_in key (Fork at bit zeros ones) = by_side_among (bit_of key bit) (keys_of zeros) (keys_of ones) (reached_key key zeros) (reached_key key ones) (reach_in key zeros) (reach_in key ones)

-- a walk by the key leads to the same
pub reach_along : (key floor : ℕ) (path : List Frame) (shape : Shape) → GoesBy key floor path → reached_key key (plug path shape) ≡ reached_key key shape
reach_along key floor [] shape goes = refl
reach_along key floor (OnZeros at bit ones ∷ path) shape goes = reach_along key floor path (Fork at bit shape ones) goes.2 ∙ ap (λ n. by_side n (reached_key key shape) (reached_key key ones)) goes.1
reach_along key floor (OnOnes at bit zeros ∷ path) shape goes = reach_along key floor path (Fork at bit zeros shape) goes.2 ∙ ap (λ n. by_side n (reached_key key zeros) (reached_key key shape)) goes.1

side_agrees : (n high : ℕ) → n < 2 → (bit a b : ℕ) → a / 2 ^ bit ≡ 2 * high → b / 2 ^ bit ≡ 2 * high + 1 → by_side n a b / 2 ^ bit ≡ 2 * high + n
side_agrees zero high small bit a b ea eb = omega (arith, ea)
side_agrees (suc n) high small bit a b ea eb = omega (arith, eb, small)

pub bit_small : (key bit : ℕ) → bit_of key bit < 2
bit_small key bit = omega arith

-- the key reached goes with the key at the bit of an inner record, where they agree above
pub same_side : (key most at bit : ℕ) (zeros ones : Shape) → IsRadix most (Fork at bit zeros ones) → key / 2 ^ (bit + 1) ≡ reached_key key (Fork at bit zeros ones) / 2 ^ (bit + 1) → key / 2 ^ bit ≡ reached_key key (Fork at bit zeros ones) / 2 ^ bit
same_side key most at bit zeros ones radix above =
    let high = radix.1.0 in
    let zero_side = All-contains (λ y. y / 2 ^ bit ≡ 2 * high) (keys_of zeros) (reached_key key zeros) radix.1.1 (reach_in key zeros) in
    let one_side = All-contains (λ y. y / 2 ^ bit ≡ 2 * high + 1) (keys_of ones) (reached_key key ones) radix.1.2 (reach_in key ones) in
    let found = side_agrees (bit_of key bit) high (bit_small key bit) bit (reached_key key zeros) (reached_key key ones) zero_side one_side in
    omega (arith, found, from_bit bit key, above, half bit (reached_key key (Fork at bit zeros ones)), bit_small key bit)

-- Below the highest bit in which a key differs from the one that it leads to, all keys agree from that bit on.
pub agree_below : (key d most : ℕ) (shape : Shape) → IsRadix most shape → EndsBelow (d + 1) shape → key / 2 ^ (d + 1) ≡ reached_key key shape / 2 ^ (d + 1) → key / 2 ^ d ≢ reached_key key shape / 2 ^ d → All (λ y. y / 2 ^ d ≡ reached_key key shape / 2 ^ d) (keys_of shape)
agree_below key d most (Leaf at k) radix ends above differ = All-cons (λ y. y / 2 ^ d ≡ k / 2 ^ d) k [] refl (All-nil (λ y. y / 2 ^ d ≡ k / 2 ^ d))
agree_below key d most (Fork at bit zeros ones) radix ends above differ =
    elim (cases_eq bit d) [
      | inl same ↦ absurd (differ (subst (λ b. key / 2 ^ b ≡ reached_key key (Fork at bit zeros ones) / 2 ^ b) same
          (same_side key most at bit zeros ones radix (subst (λ b. key / 2 ^ (b + 1) ≡ reached_key key (Fork at bit zeros ones) / 2 ^ (b + 1)) (sym same) above))))
      | inr other ↦
          let agree = agree_above most at bit zeros ones radix in
          let found = All-contains (λ y. y / 2 ^ (bit + 1) ≡ agree.0) (keys_of zeros ++ keys_of ones) (reached_key key (Fork at bit zeros ones)) agree.1 (reach_in key (Fork at bit zeros ones)) in
          let higher : bit + 1 ≤ d = elim (cases_order bit d) [ inl e ↦ absurd (other e) | inr o ↦ elim o [ inl lt ↦ omega (arith, lt) | inr gt ↦ absurd (omega (arith, gt, ends)) ] ] in
          All-weaker (λ y. y / 2 ^ (bit + 1) ≡ agree.0) (λ y. y / 2 ^ d ≡ reached_key key (Fork at bit zeros ones) / 2 ^ d) (λ y e. agree_up (bit + 1) d y (reached_key key (Fork at bit zeros ones)) higher (e ∙ sym found)) (keys_of zeros ++ keys_of ones) agree.1
    ]

-- ---- the whole round what a walk reached

pub radix_inside : (most : ℕ) (path : List Frame) (shape : Shape) → IsRadix most (plug path shape) → IsRadix most shape
radix_inside most [] shape radix = radix
radix_inside most (OnZeros at bit ones ∷ path) shape radix = let inner = radix_inside most path (Fork at bit shape ones) radix in radix_more bit most shape (omega (arith, inner.0)) inner.2
radix_inside most (OnOnes at bit zeros ∷ path) shape radix = let inner = radix_inside most path (Fork at bit zeros shape) radix in radix_more bit most shape (omega (arith, inner.0)) inner.3

-- the key goes with what the walk reached at each inner record of the path
abbrev pub Follows : ℕ → List Frame → Shape → Type 0
Follows key [] shape = Unit {0}
Follows key (OnZeros at bit ones ∷ path) shape = ((high : ℕ) × (key / 2 ^ bit ≡ 2 * high) × AgreeFrom bit (2 * high) (keys_of shape) × AgreeFrom bit (2 * high + 1) (keys_of ones)) × Follows key path (Fork at bit shape ones)
Follows key (OnOnes at bit zeros ∷ path) shape = ((high : ℕ) × (key / 2 ^ bit ≡ 2 * high + 1) × AgreeFrom bit (2 * high) (keys_of zeros) × AgreeFrom bit (2 * high + 1) (keys_of shape)) × Follows key path (Fork at bit zeros shape)

pub follows : (key floor k most : ℕ) (path : List Frame) (shape : Shape) → IsRadix most (plug path shape) → GoesBy key floor path → Contains (keys_of shape) k → key / 2 ^ floor ≡ k / 2 ^ floor → Follows key path shape
follows key floor k most [] shape radix goes c same = tt
follows key floor k most (OnZeros at bit ones ∷ path) shape radix goes c same =
    let inner = radix_inside most path (Fork at bit shape ones) radix in
    let high = inner.1.0 in (
      (high, agree_up floor bit key k goes.0 same ∙ All-contains (λ y. y / 2 ^ bit ≡ 2 * high) (keys_of shape) k inner.1.1 c, inner.1.1, inner.1.2),
      follows key floor k most path (Fork at bit shape ones) radix goes.2 (Contains-append_left (keys_of shape) (keys_of ones) k c) same,
    )
follows key floor k most (OnOnes at bit zeros ∷ path) shape radix goes c same =
    let inner = radix_inside most path (Fork at bit zeros shape) radix in
    let high = inner.1.0 in (
      (high, agree_up floor bit key k goes.0 same ∙ All-contains (λ y. y / 2 ^ bit ≡ 2 * high + 1) (keys_of shape) k inner.1.2 c, inner.1.1, inner.1.2),
      follows key floor k most path (Fork at bit zeros shape) radix goes.2 (Contains-append_right (keys_of zeros) (keys_of shape) k c) same,
    )

-- a key that is there leads to itself
pub reach_there : (key most : ℕ) (shape : Shape) → IsRadix most shape → Contains (keys_of shape) key → reached_key key shape ≡ key
reach_there key most (Leaf at k) radix c = sym (only_key key k c)
reach_there key most (Fork at bit zeros ones) radix c =
    elim (Contains-append_cases (keys_of zeros) (keys_of ones) key c) [
      | inl low ↦
          let here = All-contains (λ y. y / 2 ^ bit ≡ 2 * radix.1.0) (keys_of zeros) key radix.1.1 low in
          let turn : bit_of key bit ≡ 0 = omega (arith, here) in
          ap (λ n. by_side n (reached_key key zeros) (reached_key key ones)) turn ∙ reach_there key bit zeros radix.2 low
      | inr high ↦
          let here = All-contains (λ y. y / 2 ^ bit ≡ 2 * radix.1.0 + 1) (keys_of ones) key radix.1.2 high in
          let turn : bit_of key bit ≡ 1 = omega (arith, here) in
          ap (λ n. by_side n (reached_key key zeros) (reached_key key ones)) turn ∙ reach_there key bit ones radix.3 high
    ]

-- what a walk down to the highest differing bit reached ends below that bit
pub ends_lower : (key d most : ℕ) (shape : Shape) → IsRadix most shape → EndsBelow (d + 1) shape → key / 2 ^ (d + 1) ≡ reached_key key shape / 2 ^ (d + 1) → key / 2 ^ d ≢ reached_key key shape / 2 ^ d → EndsBelow d shape
ends_lower key d most (Leaf at k) radix ends above differ = tt
ends_lower key d most (Fork at bit zeros ones) radix ends above differ =
    elim (cases_order bit d) [
      | inl same ↦ absurd (differ (subst (λ b. key / 2 ^ b ≡ reached_key key (Fork at bit zeros ones) / 2 ^ b) same
          (same_side key most at bit zeros ones radix (subst (λ b. key / 2 ^ (b + 1) ≡ reached_key key (Fork at bit zeros ones) / 2 ^ (b + 1)) (sym same) above))))
      | inr order ↦ elim order [ inl lt ↦ lt | inr gt ↦ absurd (omega (arith, gt, ends)) ]
    ]

pub radix_lower : (m d : ℕ) (shape : Shape) → IsRadix m shape → EndsBelow d shape → IsRadix d shape
radix_lower m d (Leaf at k) radix ends = tt
radix_lower m d (Fork at bit zeros ones) radix ends = (ends, radix.1, radix.2, radix.3)
