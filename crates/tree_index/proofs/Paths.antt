-- The whole round what a walk reached: its lists, its words and its bits.
use Rattle.std.proofs.Common.{◌≡◌, ◌≢◌, ℕ, ◌+◌, ◌*◌, ◌/◌, ◌^◌, ◌≤◌, ◌⊎◌, inl, inr, List, [], ◌∷◌, ◌++◌, Contains, slice_index, sym, ap, ◌∙◌, subst, append_assoc, eqb}
use Rattle.std.proofs.lemmas.Bool.{cases_eq, ne_eqb}
use Rattle.std.proofs.lemmas.List.{append-nil}
use Rattle.std.proofs.lemmas.List.Elements.{All-contains, All-from_recursion, Contains-append_cases, Contains-append_left, Contains-append_right}
use Rattle.std.proofs.lemmas.List.Sorted.{IsPermutation-refl, IsPermutation-sym, IsPermutation-trans, IsPermutation-cons, IsPermutation-append_left, IsPermutation-append_comm, IsPermutation-middle}
use Rattle.std.proofs.lemmas.Map.Keys.{IsDistinct-tail}
use Rattle.std.specs.List.{IsDistinct}
use Rattle.std.specs.List.Sorted.{IsPermutation}
use Rattle.record_heap.proofs.Records.{others_differ}
use Rattle.tree_index.specs.Shape.{Shape, Fork, AgreeFrom, Holds, IsRadix, forks_of, keys_of, leaves_of, link_of}
use Rattle.tree_index.specs.Path.{Frame, OnZeros, OnOnes, GoesBy, plug, slot_of}
use Rattle.tree_index.proofs.Shapes.{Follows, all_by}

-- ---- lists

abbrev pub keys_along : List Frame → List ℕ
keys_along [] = []
keys_along (OnZeros at bit ones ∷ path) = keys_of ones ++ keys_along path
keys_along (OnOnes at bit zeros ∷ path) = keys_of zeros ++ keys_along path

abbrev pub leaves_along : List Frame → List ℕ
leaves_along [] = []
leaves_along (OnZeros at bit ones ∷ path) = leaves_of ones ++ leaves_along path
leaves_along (OnOnes at bit zeros ∷ path) = leaves_of zeros ++ leaves_along path

abbrev pub forks_along : List Frame → List ℕ
forks_along [] = []
forks_along (OnZeros at bit ones ∷ path) = at ∷ (forks_of ones ++ forks_along path)
forks_along (OnOnes at bit zeros ∷ path) = at ∷ (forks_of zeros ++ forks_along path)

pub perm_same : (xs ys : List ℕ) → xs ≡ ys → IsPermutation xs ys
perm_same xs ys e = subst (λ l. IsPermutation xs l) e (IsPermutation-refl xs)

turn_left : (xs ys zs : List ℕ) → IsPermutation ((xs ++ ys) ++ zs) (xs ++ (ys ++ zs))
turn_left xs ys zs = perm_same ((xs ++ ys) ++ zs) (xs ++ (ys ++ zs)) (append_assoc xs ys zs)

turn_right : (xs ys zs : List ℕ) → IsPermutation ((ys ++ xs) ++ zs) (xs ++ (ys ++ zs))
turn_right xs ys zs = IsPermutation-trans _ _ _ (IsPermutation-append_left zs (ys ++ xs) (xs ++ ys) (IsPermutation-append_comm ys xs)) (turn_left xs ys zs)

pub plug_keys : (path : List Frame) (shape : Shape) → IsPermutation (keys_of (plug path shape)) (keys_of shape ++ keys_along path)
plug_keys [] shape = perm_same (keys_of shape) (keys_of shape ++ []) (sym (append-nil (keys_of shape)))
plug_keys (OnZeros at bit ones ∷ path) shape = IsPermutation-trans _ _ _ (plug_keys path (Fork at bit shape ones)) (turn_left (keys_of shape) (keys_of ones) (keys_along path))
plug_keys (OnOnes at bit zeros ∷ path) shape = IsPermutation-trans _ _ _ (plug_keys path (Fork at bit zeros shape)) (turn_right (keys_of shape) (keys_of zeros) (keys_along path))

pub plug_leaves : (path : List Frame) (shape : Shape) → IsPermutation (leaves_of (plug path shape)) (leaves_of shape ++ leaves_along path)
plug_leaves [] shape = perm_same (leaves_of shape) (leaves_of shape ++ []) (sym (append-nil (leaves_of shape)))
plug_leaves (OnZeros at bit ones ∷ path) shape = IsPermutation-trans _ _ _ (plug_leaves path (Fork at bit shape ones)) (turn_left (leaves_of shape) (leaves_of ones) (leaves_along path))
plug_leaves (OnOnes at bit zeros ∷ path) shape = IsPermutation-trans _ _ _ (plug_leaves path (Fork at bit zeros shape)) (turn_right (leaves_of shape) (leaves_of zeros) (leaves_along path))

pub plug_forks : (path : List Frame) (shape : Shape) → IsPermutation (forks_of (plug path shape)) (forks_of shape ++ forks_along path)
plug_forks [] shape = perm_same (forks_of shape) (forks_of shape ++ []) (sym (append-nil (forks_of shape)))
plug_forks (OnZeros at bit ones ∷ path) shape =
    IsPermutation-trans _ _ _ (plug_forks path (Fork at bit shape ones))
    (IsPermutation-trans _ _ _ (IsPermutation-cons at _ _ (turn_left (forks_of shape) (forks_of ones) (forks_along path))) (IsPermutation-sym _ _ (IsPermutation-middle (forks_of shape) at (forks_of ones ++ forks_along path))))
plug_forks (OnOnes at bit zeros ∷ path) shape =
    IsPermutation-trans _ _ _ (plug_forks path (Fork at bit zeros shape))
    (IsPermutation-trans _ _ _ (IsPermutation-cons at _ _ (turn_right (forks_of shape) (forks_of zeros) (forks_along path))) (IsPermutation-sym _ _ (IsPermutation-middle (forks_of shape) at (forks_of zeros ++ forks_along path))))

-- ---- words

-- what the words hold of the path, all but the word that links what was reached
abbrev pub Along : List ℕ → ℕ → List Frame → Type 0
Along words root [] = Unit {0}
Along words root (OnZeros at bit ones ∷ path) = (slice_index words at ≡ bit) × (slice_index words (at + 3) ≡ link_of ones) × Holds words ones × (slice_index words (slot_of root path) ≡ at) × Along words root path
Along words root (OnOnes at bit zeros ∷ path) = (slice_index words at ≡ bit) × (slice_index words (at + 2) ≡ link_of zeros) × Holds words zeros × (slice_index words (slot_of root path) ≡ at) × Along words root path

pub opened : (words : List ℕ) (root : ℕ) (path : List Frame) (shape : Shape) → slice_index words root ≡ link_of (plug path shape) → Holds words (plug path shape) → Along words root path × (slice_index words (slot_of root path) ≡ link_of shape) × Holds words shape
opened words root [] shape link holds = (tt, link, holds)
opened words root (OnZeros at bit ones ∷ path) shape link holds = let r = opened words root path (Fork at bit shape ones) link holds in ((r.2.0, r.2.2, r.2.4, r.1, r.0), r.2.1, r.2.3)
opened words root (OnOnes at bit zeros ∷ path) shape link holds = let r = opened words root path (Fork at bit zeros shape) link holds in ((r.2.0, r.2.1, r.2.3, r.1, r.0), r.2.2, r.2.4)

pub closed : (words : List ℕ) (root : ℕ) (path : List Frame) (shape : Shape) → Along words root path → slice_index words (slot_of root path) ≡ link_of shape → Holds words shape → (slice_index words root ≡ link_of (plug path shape)) × Holds words (plug path shape)
closed words root [] shape along link holds = (link, holds)
closed words root (OnZeros at bit ones ∷ path) shape along link holds = closed words root path (Fork at bit shape ones) along.4 along.3 (along.0, link, along.1, holds, along.2)
closed words root (OnOnes at bit zeros ∷ path) shape along link holds = closed words root path (Fork at bit zeros shape) along.4 along.3 (along.0, along.1, link, along.2, holds)

-- ---- bits

-- What a walk reached may be exchanged for what has no other keys but one with which the path goes, and whose
-- bits fall from wherever those of the old one did.
pub radix_plug : (key floor most : ℕ) (path : List Frame) (old new : Shape) → Follows key path old → GoesBy key floor path → floor ≤ most → ((y : ℕ) → Contains (keys_of new) y → (y ≡ key) ⊎ Contains (keys_of old) y) → ((m : ℕ) → floor ≤ m → IsRadix m old → IsRadix m new) → IsRadix most (plug path old) → IsRadix most (plug path new)
radix_plug key floor most [] old new goes steps low among grows radix = grows most low radix
radix_plug key floor most (OnZeros at bit ones ∷ path) old new goes steps low among grows radix =
    let high = goes.0.0 in
    let sides : AgreeFrom bit (2 * high) (keys_of new) = all_by (λ y. y / 2 ^ bit ≡ 2 * high) (keys_of new) (λ y c. elim (among y c) [ inl same ↦ ap (λ x. x / 2 ^ bit) same ∙ goes.0.1 | inr old_one ↦ All-contains (λ x. x / 2 ^ bit ≡ 2 * high) (keys_of old) y goes.0.2 old_one ]) in
    radix_plug key floor most path (Fork at bit old ones) (Fork at bit new ones) goes.1 steps.2 low
    (λ y c. elim (Contains-append_cases (keys_of new) (keys_of ones) y c) [
      | inl here ↦ elim (among y here) [ inl same ↦ inl same | inr old_one ↦ inr (Contains-append_left (keys_of old) (keys_of ones) y old_one) ]
      | inr there ↦ inr (Contains-append_right (keys_of old) (keys_of ones) y there)
    ])
    (λ m le r. (r.0, (high, sides, goes.0.3), grows bit steps.0 r.2, r.3)) radix
radix_plug key floor most (OnOnes at bit zeros ∷ path) old new goes steps low among grows radix =
    let high = goes.0.0 in
    let sides : AgreeFrom bit (2 * high + 1) (keys_of new) = all_by (λ y. y / 2 ^ bit ≡ 2 * high + 1) (keys_of new) (λ y c. elim (among y c) [ inl same ↦ ap (λ x. x / 2 ^ bit) same ∙ goes.0.1 | inr old_one ↦ All-contains (λ x. x / 2 ^ bit ≡ 2 * high + 1) (keys_of old) y goes.0.3 old_one ]) in
    radix_plug key floor most path (Fork at bit zeros old) (Fork at bit zeros new) goes.1 steps.2 low
    (λ y c. elim (Contains-append_cases (keys_of zeros) (keys_of new) y c) [
      | inl there ↦ inr (Contains-append_left (keys_of zeros) (keys_of old) y there)
      | inr here ↦ elim (among y here) [ inl same ↦ inl same | inr old_one ↦ inr (Contains-append_right (keys_of zeros) (keys_of old) y old_one) ]
    ])
    (λ m le r. (r.0, (high, goes.0.2, sides), r.2, grows bit steps.0 r.3)) radix

-- ---- lists without repetition

pub distinct_behind : (xs ys : List ℕ) → IsDistinct eqb (xs ++ ys) → IsDistinct eqb ys
distinct_behind [] ys distinct = distinct
distinct_behind (x ∷ xs) ys distinct = distinct_behind xs ys (IsDistinct-tail eqb x (xs ++ ys) distinct)

-- an element differs from all others
pub first_differs : (x : ℕ) (xs : List ℕ) → IsDistinct eqb (x ∷ xs) → (y : ℕ) → Contains xs y → y ≢ x
first_differs x xs distinct y c = All-contains (λ z. z ≢ x) xs y (All-from_recursion (λ z. z ≢ x) xs (others_differ x xs distinct)) c

pub flips : (x y : ℕ) → eqb x y ≡ eqb y x
flips x y = elim (cases_eq x y) [
  | inl same ↦ ap (λ z. eqb z y) same ∙ ap (λ z. eqb y z) (sym same)
  | inr differ ↦ ne_eqb x y differ ∙ sym (ne_eqb y x (λ e. differ (sym e)))
]
