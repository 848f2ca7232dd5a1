-- The words that a shape doesn't read.
use Rattle.std.proofs.Common.{◌≡◌, ◌≢◌, ℕ, ◌+◌, ◌<◌, ◌⊎◌, inl, inr, List, [], ◌∷◌, ◌++◌, Option, Some, None, slice_index, refl, sym, ap, ◌∙◌, subst, arith}
use Rattle.std.proofs.lemmas.List.Elements.{Contains-append_left, Contains-append_right}
use Rattle.std.proofs.lemmas.Bool.{cases_eq}
use Rattle.record_heap.specs.Pool.{IsRecord}
use Rattle.record_heap.proofs.Frames.{IsOutsidePool}
use Rattle.tree_index.specs.declared.tree.Tree.{Tree}
use Rattle.tree_index.specs.Shape.{Shape, Leaf, Fork, Holds, IsUnread, IsUnreadIn, forks_of, leaves_of}
use Rattle.tree_index.specs.Tree.{FitsTree, IsRooted, IsTree, IsUnreadBy}
use Rattle.tree_index.specs.Path.{Frame, OnZeros, OnOnes, GrowsBy, HasLeafMore, plug, slot_of}
use Rattle.tree_index.proofs.Apart.{IsOf, of_more, own_outside_inner, own_outside_leaves}
use Rattle.tree_index.proofs.Found.{taken_record}
use Rattle.tree_index.proofs.Shapes.{first_among, other_among}

-- a word that the whole doesn't read is not the one that links a part, and is read by no part
pub unread_part : (root : ℕ) (path : List Frame) (part : Shape) (i : ℕ) → i ≢ root → IsUnread (plug path part) i → (i ≢ slot_of root path) × IsUnread part i
unread_part root [] part i not_root unread = (not_root, unread)
unread_part root (OnZeros at bit ones ∷ path) part i not_root unread = let over = unread_part root path (Fork at bit part ones) i not_root unread in (over.1.1, over.1.3)
unread_part root (OnOnes at bit zeros ∷ path) part i not_root unread = let over = unread_part root path (Fork at bit zeros part) i not_root unread in (over.1.2, over.1.4)

-- nor by the whole round a part in whose place something stands that reads no more
unread_along : (path : List Frame) (part more : Shape) (i : ℕ) → (IsUnread more i → IsUnread part i) → IsUnread (plug path more) i → IsUnread (plug path part) i
unread_along [] part more i fewer unread = fewer unread
unread_along (OnZeros at bit ones ∷ path) part more i fewer unread =
    unread_along path (Fork at bit part ones) (Fork at bit more ones) i (λ u. (u.0, u.1, u.2, fewer u.3, u.4)) unread
unread_along (OnOnes at bit zeros ∷ path) part more i fewer unread =
    unread_along path (Fork at bit zeros part) (Fork at bit zeros more) i (λ u. (u.0, u.1, u.2, u.3, fewer u.4)) unread

-- nor by a shape with a leaf less
unread_fewer : {key leaf fork : ℕ} {fewer more : Shape} → HasLeafMore key leaf fork fewer more → (i : ℕ) → IsUnread more i → IsUnread fewer i
unread_fewer {key} {leaf} {fork} {fewer} {more} h i unread =
    let back : IsUnread (plug h.path h.part) i → IsUnread fewer i = subst (λ s. IsUnread s i) (sym h.without) in
    elim h.with_leaf [
      | inl left ↦ back (unread_along h.path h.part (Fork fork h.bit (Leaf leaf key) h.part) i (λ u. u.4) (subst (λ s. IsUnread s i) left unread))
      | inr right ↦ back (unread_along h.path h.part (Fork fork h.bit h.part (Leaf leaf key)) i (λ u. u.3) (subst (λ s. IsUnread s i) right unread))
    ]

unread_grown : (key leaf : ℕ) (free left : List ℕ) (before : Option Shape) (after : Shape) (i : ℕ) → GrowsBy key leaf before free left after → IsUnread after i → IsUnreadIn before i
unread_grown key leaf free left None after i grows unread = tt
unread_grown key leaf free left (Some fewer) after i grows unread = unread_fewer grows.2 i unread

-- nor by a tree before it grew
pub unread_before : (key leaf : ℕ) (free left : List ℕ) {tree : Tree} {i : ℕ} (before : Option Shape) (after : Shape) → GrowsBy key leaf before free left after → IsUnreadBy tree (Some after) i → IsUnreadBy tree before i
unread_before key leaf free left {tree} {i} before after grows unread = record {
  leaves = unread.leaves;
  inner = unread.inner;
  root = unread.root;
  below = unread_grown key leaf free left before after i grows unread.below;
}

-- a word is the same in two arrays that hold the shape, or the shape doesn't read it
told_or_unread : (a b : List ℕ) (shape : Shape) (i : ℕ) → Holds a shape → Holds b shape → (slice_index a i ≡ slice_index b i) ⊎ IsUnread shape i
told_or_unread a b (Leaf at key) i ha hb = elim (cases_eq i at) [
  | inl same ↦ inl (ap (slice_index a) same ∙ ha ∙ sym hb ∙ ap (slice_index b) (sym same))
  | inr other ↦ inr other
]
told_or_unread a b (Fork at bit zeros ones) i ha hb =
    elim (cases_eq i at) [
      | inl same ↦ inl (ap (slice_index a) same ∙ ha.0 ∙ sym hb.0 ∙ ap (slice_index b) (sym same))
      | inr no_bit ↦ elim (cases_eq i (at + 2)) [
        | inl same ↦ inl (ap (slice_index a) same ∙ ha.1 ∙ sym hb.1 ∙ ap (slice_index b) (sym same))
        | inr no_zeros ↦ elim (cases_eq i (at + 3)) [
          | inl same ↦ inl (ap (slice_index a) same ∙ ha.2 ∙ sym hb.2 ∙ ap (slice_index b) (sym same))
          | inr no_ones ↦ elim (told_or_unread a b zeros i ha.3 hb.3) [
            | inl told ↦ inl told
            | inr left ↦ elim (told_or_unread a b ones i ha.4 hb.4) [ inl told ↦ inl told | inr right ↦ inr (no_bit, no_zeros, no_ones, left, right) ]
          ]
        ]
      ]
    ]

-- the same of the words of a rooted tree, the root's among them
pub rooted_or_unread : (a b : List ℕ) (root : ℕ) (shape : Option Shape) (i : ℕ) → IsRooted a root shape → IsRooted b root shape → (slice_index a i ≡ slice_index b i) ⊎ ((i ≢ root) × IsUnreadIn shape i)
rooted_or_unread a b root None i ra rb = elim (cases_eq i root) [
  | inl same ↦ inl (ap (slice_index a) same ∙ ra ∙ sym rb ∙ ap (slice_index b) (sym same))
  | inr other ↦ inr (other, tt)
]
rooted_or_unread a b root (Some shape) i ra rb = elim (cases_eq i root) [
  | inl same ↦ inl (ap (slice_index a) same ∙ ra.0 ∙ sym rb.0 ∙ ap (slice_index b) (sym same))
  | inr other ↦ elim (told_or_unread a b shape i ra.1 rb.1) [ inl told ↦ inl told | inr unread ↦ inr (other, unread) ]
]

-- ---- links of records

-- none of the words that a shape reads
unread_from : (shape : Shape) (i : ℕ) → ((j : ℕ) → IsOf (leaves_of shape) (forks_of shape) j → i ≢ j) → IsUnread shape i
unread_from (Leaf at key) i differ = differ at (inl (first_among at []))
unread_from (Fork at bit zeros ones) i differ =
    let forks = forks_of zeros ++ forks_of ones in
    let leaves = leaves_of zeros ++ leaves_of ones in
    let word : (j : ℕ) → j ≢ 1 → j < 4 → i ≢ at + j = λ j other small. differ (at + j) (inr (at, first_among at forks, j, other, small, refl)) in (
      (λ same. word 0 (omega arith) (omega arith) (omega (arith, same))),
      word 2 (omega arith) (omega arith),
      word 3 (omega arith) (omega arith),
      unread_from zeros i (λ j own. differ j (of_more j (leaves_of zeros) (forks_of zeros) leaves (at ∷ forks) (λ x c. Contains-append_left (leaves_of zeros) (leaves_of ones) x c) (λ x c. other_among x at forks (Contains-append_left (forks_of zeros) (forks_of ones) x c)) own)),
      unread_from ones i (λ j own. differ j (of_more j (leaves_of ones) (forks_of ones) leaves (at ∷ forks) (λ x c. Contains-append_right (leaves_of zeros) (leaves_of ones) x c) (λ x c. other_among x at forks (Contains-append_right (forks_of zeros) (forks_of ones) x c)) own)),
    )

-- the links of free records are read by no shape
module _ {tree : Tree} {n : ℕ} {array free_leaves free_inner : List ℕ} (fits : FitsTree tree n) (shape : Shape) (lawful : IsTree tree array (Some shape) free_leaves free_inner) where
  pub leaf_link_unread : (x : ℕ) → IsRecord tree.leaves x → IsUnreadBy tree (Some shape) (x + 1)
  leaf_link_unread x r = record {
    leaves = elim (fits.leaves.apart x r) [ inl before ↦ inl (omega (arith, before)) | inr behind ↦ inr (omega (arith, behind, fits.leaf_size)) ];
    inner = elim (fits.headers.records x r) [ inl before ↦ inr (omega (arith, before, fits.leaf_size)) | inr behind ↦ inl (omega (arith, behind)) ];
    root = omega (arith, fits.root_leaves.records x r, fits.leaf_size);
    below = unread_from shape (x + 1) (λ j own same.
        let outside : IsOutsidePool tree.leaves j = own_outside_leaves fits (leaves_of shape) (forks_of shape) j (taken_record lawful.leaves) (taken_record lawful.inner) (inr own) in
        outside.links x r (sym same));
  }

  pub inner_link_unread : (x : ℕ) → IsRecord tree.inner x → IsUnreadBy tree (Some shape) (x + 1)
  inner_link_unread x r = record {
    leaves = elim (fits.records x r).header [ inl before ↦ inl (omega (arith, before)) | inr behind ↦ inr (omega (arith, behind, fits.inner_size)) ];
    inner = elim (fits.inner.apart x r) [ inl before ↦ inl (omega (arith, before)) | inr behind ↦ inr (omega (arith, behind, fits.inner_size)) ];
    root = omega (arith, fits.root_inner.records x r, fits.inner_size);
    below = unread_from shape (x + 1) (λ j own same.
        let outside : IsOutsidePool tree.inner j = own_outside_inner fits (leaves_of shape) (forks_of shape) j (taken_record lawful.leaves) (taken_record lawful.inner) (inr own) in
        outside.links x r (sym same));
  }
