-- The least key that is at least another, by what a walk reached.
use Rattle.std.proofs.Common.{◌≡◌, ◌≢◌, ℕ, ◌+◌, ◌*◌, ◌/◌, ◌^◌, ◌<◌, ◌≤◌, ◌⊎◌, inl, inr, List, [], ◌∷◌, All, Contains, Option, Some, None, sym, subst, arith}
use Rattle.std.proofs.lemmas.Bool.{cases_lt}
use Rattle.std.proofs.lemmas.List.Elements.{All-contains, All-append, All-weaker, Contains-append_left, Contains-append_right}
use Rattle.tree_index.specs.Shape.{Shape, Fork, IsRadix, keys_of, least_of}
use Rattle.tree_index.specs.Tree.{IsNext}
use Rattle.tree_index.specs.Path.{Frame, OnZeros, OnOnes, plug, GoesBy}
use Rattle.tree_index.specs.Walk.{EndsBelow}
use Rattle.tree_index.proofs.Numbers.{below_from, from_below}
use Rattle.tree_index.proofs.Shapes.{Follows, follows, agree_below, all_by, least_in, least_is, radix_inside, reached_key, reach_in}

-- what is the next key below stays it round about
next_stays : (key k : ℕ) (path : List Frame) (shape : Shape) → Follows key path shape → IsNext (keys_of shape) key (Some k) → IsNext (keys_of (plug path shape)) key (Some k)
next_stays key k [] shape goes next = next
next_stays key k (OnZeros at bit ones ∷ path) shape goes next =
    let low = All-contains (λ y. y / 2 ^ bit ≡ 2 * goes.0.0) (keys_of shape) k goes.0.2 next.0 in
    next_stays key k path (Fork at bit shape ones) goes.1 (
      Contains-append_left (keys_of shape) (keys_of ones) k next.0,
      next.1,
      All-append (λ y. (y < key) ⊎ (k ≤ y)) (keys_of shape) (keys_of ones) next.2
          (All-weaker (λ y. y / 2 ^ bit ≡ 2 * goes.0.0 + 1) (λ y. (y < key) ⊎ (k ≤ y)) (λ y e. inr (let lt = below_from bit k y (omega (arith, low, e)) in omega (arith, lt))) (keys_of ones) goes.0.3),
    )
next_stays key k (OnOnes at bit zeros ∷ path) shape goes next =
    next_stays key k path (Fork at bit zeros shape) goes.1 (
      Contains-append_right (keys_of zeros) (keys_of shape) k next.0,
      next.1,
      All-append (λ y. (y < key) ⊎ (k ≤ y)) (keys_of zeros) (keys_of shape)
          (All-weaker (λ y. y / 2 ^ bit ≡ 2 * goes.0.0) (λ y. (y < key) ⊎ (k ≤ y)) (λ y e. inl (below_from bit y key (omega (arith, goes.0.1, e)))) (keys_of zeros) goes.0.2) next.2,
    )

-- the least key behind the last turn to the zeros
abbrev pub turn_key : List Frame → Option ℕ
turn_key [] = None
turn_key (OnZeros at bit ones ∷ path) = Some (least_of ones)
turn_key (OnOnes at bit zeros ∷ path) = turn_key path

next_turns : (key most : ℕ) (path : List Frame) (shape : Shape) → IsRadix most (plug path shape) → Follows key path shape → All (λ y. y < key) (keys_of shape) → IsNext (keys_of (plug path shape)) key (turn_key path)
next_turns key most [] shape radix goes less = less
next_turns key most (OnZeros at bit ones ∷ path) shape radix goes less =
    let inner = radix_inside most path (Fork at bit shape ones) radix in
    let k = least_of ones in
    let high = All-contains (λ y. y / 2 ^ bit ≡ 2 * goes.0.0 + 1) (keys_of ones) k goes.0.3 (least_in ones) in
    let lt = below_from bit key k (omega (arith, goes.0.1, high)) in
    next_stays key k path (Fork at bit shape ones) goes.1 (
      Contains-append_right (keys_of shape) (keys_of ones) k (least_in ones),
      omega (arith, lt),
      All-append (λ y. (y < key) ⊎ (k ≤ y)) (keys_of shape) (keys_of ones)
          (All-weaker (λ y. y < key) (λ y. (y < key) ⊎ (k ≤ y)) (λ y e. inl e) (keys_of shape) less)
          (All-weaker (λ y. k ≤ y) (λ y. (y < key) ⊎ (k ≤ y)) (λ y e. inr e) (keys_of ones) (least_is bit ones inner.3)),
    )
next_turns key most (OnOnes at bit zeros ∷ path) shape radix goes less =
    next_turns key most path (Fork at bit zeros shape) radix goes.1
    (All-append (λ y. y < key) (keys_of zeros) (keys_of shape)
    (All-weaker (λ y. y / 2 ^ bit ≡ 2 * goes.0.0) (λ y. y < key) (λ y e. below_from bit y key (omega (arith, goes.0.1, e))) (keys_of zeros) goes.0.2) less)

-- the key itself is there
pub next_here : (key : ℕ) (shape : Shape) → reached_key key shape ≡ key → IsNext (keys_of shape) key (Some key)
next_here key shape same = (
  subst (λ k. Contains (keys_of shape) k) same (reach_in key shape),
  omega arith,
  all_by (λ y. (y < key) ⊎ (key ≤ y)) (keys_of shape) (λ y c. cases_lt y key),
)

-- A walk down to the highest bit d in which the key differs from the one that it leads to: where the
-- key is the less, the next is the least of what was reached;
pub next_below : (key d most : ℕ) (path : List Frame) (shape : Shape) → IsRadix most (plug path shape) → GoesBy key (d + 1) path → EndsBelow (d + 1) shape → key / 2 ^ (d + 1) ≡ reached_key key shape / 2 ^ (d + 1) → key / 2 ^ d ≢ reached_key key shape / 2 ^ d → key < reached_key key shape → IsNext (keys_of (plug path shape)) key (Some (least_of shape))
next_below key d most path shape radix goes ends above differ less =
    let inner = radix_inside most path shape radix in
    let agree = agree_below key d most shape inner ends above differ in
    let under = from_below d key (reached_key key shape) less differ in
    let k = least_of shape in
    let lt = below_from d key k (omega (arith, under, All-contains (λ y. y / 2 ^ d ≡ reached_key key shape / 2 ^ d) (keys_of shape) k agree (least_in shape))) in
    next_stays key k path shape (follows key (d + 1) (reached_key key shape) most path shape radix goes (reach_in key shape) above)
    (least_in shape, omega (arith, lt), All-weaker (λ y. k ≤ y) (λ y. (y < key) ⊎ (k ≤ y)) (λ y e. inr e) (keys_of shape) (least_is most shape inner))

-- else it is the least behind the last turn to the zeros.
pub next_above : (key d most : ℕ) (path : List Frame) (shape : Shape) → IsRadix most (plug path shape) → GoesBy key (d + 1) path → EndsBelow (d + 1) shape → key / 2 ^ (d + 1) ≡ reached_key key shape / 2 ^ (d + 1) → key / 2 ^ d ≢ reached_key key shape / 2 ^ d → reached_key key shape < key → IsNext (keys_of (plug path shape)) key (turn_key path)
next_above key d most path shape radix goes ends above differ more =
    let inner = radix_inside most path shape radix in
    let agree = agree_below key d most shape inner ends above differ in
    let over = from_below d (reached_key key shape) key more (λ e. differ (sym e)) in
    next_turns key most path shape radix (follows key (d + 1) (reached_key key shape) most path shape radix goes (reach_in key shape) above)
    (All-weaker (λ y. y / 2 ^ d ≡ reached_key key shape / 2 ^ d) (λ y. y < key) (λ y e. below_from d y key (omega (arith, e, over))) (keys_of shape) agree)
