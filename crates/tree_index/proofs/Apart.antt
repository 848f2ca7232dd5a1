-- The words that a tree reads, and words apart from them.
use Rattle.std.proofs.Common.{◌≡◌, ◌≢◌, ℕ, ◌+◌, ◌<◌, ◌⊎◌, inl, inr, List, [], ◌∷◌, ◌++◌, Contains, slice_index, refl, ◌∙◌, arith, eqb}
use Rattle.std.proofs.lemmas.List.Elements.{Contains-append_left, Contains-append_right}
use Rattle.std.proofs.lemmas.List.Sorted.{IsPermutation-middle}
use Rattle.std.proofs.lemmas.Map.Keys.{IsDistinct-tail, IsDistinct-IsPermutation}
use Rattle.std.specs.List.{IsDistinct}
use Rattle.record_heap.specs.Pool.{IsRecord}
use Rattle.record_heap.proofs.Frames.{IsOutsidePool}
use Rattle.record_heap.proofs.Records.{records_apart}
use Rattle.tree_index.specs.declared.tree.Tree.{Tree}
use Rattle.tree_index.specs.Shape.{Shape, Leaf, Fork, Holds, forks_of, leaves_of}
use Rattle.tree_index.specs.Tree.{FitsTree, IsOutside}
use Rattle.tree_index.specs.Path.{Frame, OnZeros, OnOnes, slot_of}
use Rattle.tree_index.proofs.Frees.{beside_outside, leaf_beside, record_outside}
use Rattle.tree_index.proofs.Paths.{Along, distinct_behind, first_differs, flips, forks_along, leaves_along}
use Rattle.tree_index.proofs.Shapes.{first_among, other_among}

-- word 0 of one of these leaves, or word 0, 2 or 3 of one of these inner records
abbrev pub IsOf : List ℕ → List ℕ → ℕ → Type 0
IsOf leaves forks i = Contains leaves i ⊎ ((y : ℕ) × Contains forks y × (j : ℕ) × (j ≢ 1) × (j < 4) × (i ≡ y + j))

-- or the word of the root
abbrev pub IsOwn : ℕ → List ℕ → List ℕ → ℕ → Type 0
IsOwn root leaves forks i = (i ≡ root) ⊎ IsOf leaves forks i

of_fork : (leaves forks : List ℕ) (y j i : ℕ) → Contains forks y → j ≢ 1 → j < 4 → i ≡ y + j → IsOf leaves forks i
of_fork leaves forks y j i c other small is = inr (y, c, j, other, small, is)

own_fork : (root : ℕ) (leaves forks : List ℕ) (y j i : ℕ) → Contains forks y → j ≢ 1 → j < 4 → i ≡ y + j → IsOwn root leaves forks i
own_fork root leaves forks y j i c other small is = inr (of_fork leaves forks y j i c other small is)

pub of_more : (i : ℕ) (ls fs more_ls more_fs : List ℕ) → ((x : ℕ) → Contains ls x → Contains more_ls x) → ((x : ℕ) → Contains fs x → Contains more_fs x) → IsOf ls fs i → IsOf more_ls more_fs i
of_more i ls fs more_ls more_fs on_leaves on_forks (inl leaf) = inl (on_leaves i leaf)
of_more i ls fs more_ls more_fs on_leaves on_forks (inr fork) = inr (fork.0, on_forks fork.0 fork.1, fork.2, fork.3, fork.4, fork.5)

pub own_more : (root i : ℕ) (ls fs more_ls more_fs : List ℕ) → ((x : ℕ) → Contains ls x → Contains more_ls x) → ((x : ℕ) → Contains fs x → Contains more_fs x) → IsOwn root ls fs i → IsOwn root more_ls more_fs i
own_more root i ls fs more_ls more_fs on_leaves on_forks (inl is) = inl is
own_more root i ls fs more_ls more_fs on_leaves on_forks (inr own) = inr (of_more i ls fs more_ls more_fs on_leaves on_forks own)

-- what holds of a shape stays where its words do
pub holds_same : (old new : List ℕ) (shape : Shape) → ((i : ℕ) → IsOf (leaves_of shape) (forks_of shape) i → slice_index new i ≡ slice_index old i) → Holds old shape → Holds new shape
holds_same old new (Leaf at key) same holds = same at (inl (first_among at [])) ∙ holds
holds_same old new (Fork at bit zeros ones) same holds =
    let forks = forks_of zeros ++ forks_of ones in
    let leaves = leaves_of zeros ++ leaves_of ones in (
      same at (of_fork leaves (at ∷ forks) at 0 at (first_among at forks) (omega arith) (omega arith) (omega arith)) ∙ holds.0,
      same (at + 2) (of_fork leaves (at ∷ forks) at 2 (at + 2) (first_among at forks) (omega arith) (omega arith) refl) ∙ holds.1,
      same (at + 3) (of_fork leaves (at ∷ forks) at 3 (at + 3) (first_among at forks) (omega arith) (omega arith) refl) ∙ holds.2,
      holds_same old new zeros (λ i own. same i (of_more i (leaves_of zeros) (forks_of zeros) leaves (at ∷ forks) (λ x c. Contains-append_left (leaves_of zeros) (leaves_of ones) x c) (λ x c. other_among x at forks (Contains-append_left (forks_of zeros) (forks_of ones) x c)) own)) holds.3,
      holds_same old new ones (λ i own. same i (of_more i (leaves_of ones) (forks_of ones) leaves (at ∷ forks) (λ x c. Contains-append_right (leaves_of zeros) (leaves_of ones) x c) (λ x c. other_among x at forks (Contains-append_right (forks_of zeros) (forks_of ones) x c)) own)) holds.4,
    )

-- the word that links what was reached is one of the path
pub slot_own : (root : ℕ) (path : List Frame) → IsOwn root (leaves_along path) (forks_along path) (slot_of root path)
slot_own root [] = inl refl
slot_own root (OnZeros at bit ones ∷ path) = own_fork root (leaves_of ones ++ leaves_along path) (at ∷ (forks_of ones ++ forks_along path)) at 2 (at + 2) (first_among at (forks_of ones ++ forks_along path)) (omega arith) (omega arith) refl
slot_own root (OnOnes at bit zeros ∷ path) = own_fork root (leaves_of zeros ++ leaves_along path) (at ∷ (forks_of zeros ++ forks_along path)) at 3 (at + 3) (first_among at (forks_of zeros ++ forks_along path)) (omega arith) (omega arith) refl

-- What stays of an inner record of a path and of the path behind it: the record's bit, its link to the shape beside the path, that
-- shape, and all words behind; with what is known of the records behind
record StaysBeside (tree : Tree) (old new : List ℕ) (at o : ℕ) (beside : Shape) (path : List Frame) : Type 0 where
  bit : slice_index new at ≡ slice_index old at
  link : slice_index new (at + o) ≡ slice_index old (at + o)
  holds : Holds old beside → Holds new beside
  behind : (i : ℕ) → IsOwn tree.root (leaves_along path) (forks_along path) i → slice_index new i ≡ slice_index old i
  leaves : (x : ℕ) → Contains (leaves_along path) x → IsRecord tree.leaves x
  forks : (x : ℕ) → Contains (forks_along path) x → IsRecord tree.inner x
  distinct : IsDistinct eqb (forks_along path)

-- Where a tree fits:
module _ {tree : Tree} {n : ℕ} (fits : FitsTree tree n) where
  -- words of other inner records, of leaves and of the root are none of an inner record's
  pub own_apart : (ls fs : List ℕ) (at k i : ℕ) → IsRecord tree.inner at → k < 4 → ((x : ℕ) → Contains ls x → IsRecord tree.leaves x) → ((x : ℕ) → Contains fs x → IsRecord tree.inner x) → ((x : ℕ) → Contains fs x → x ≢ at) → IsOwn tree.root ls fs i → i ≢ at + k
  own_apart ls fs at k i there small leaf inner differ (inl is) = λ same. omega (arith, fits.root_inner.records at there, fits.inner_size, small, is, same)
  own_apart ls fs at k i there small leaf inner differ (inr (inl c)) = λ same. omega (arith, (fits.records at there).records i (leaf i c), fits.leaf_size, fits.inner_size, small, same)
  own_apart ls fs at k i there small leaf inner differ (inr (inr fork)) = λ same. omega (arith, records_apart (inner fork.0 fork.1) there (differ fork.0 fork.1), fits.inner_size, small, fork.4, fork.5, same)

  -- an inner record, what stands beside the path there, and the words behind it stay where all do but the one that links what was reached
  stays_beside : (old new : List ℕ) (at k o : ℕ) (beside : Shape) (path : List Frame) → o + k ≡ 5 → 1 < o → 1 < k → ((x : ℕ) → Contains (leaves_of beside ++ leaves_along path) x → IsRecord tree.leaves x) → ((x : ℕ) → Contains (at ∷ (forks_of beside ++ forks_along path)) x → IsRecord tree.inner x) → IsDistinct eqb (at ∷ (forks_of beside ++ forks_along path)) → ((i : ℕ) → IsOwn tree.root (leaves_of beside ++ leaves_along path) (at ∷ (forks_of beside ++ forks_along path)) i → i ≢ at + k → slice_index new i ≡ slice_index old i) → StaysBeside tree old new at o beside path
  stays_beside old new at k o beside path sum o_high k_high leaf inner distinct same =
      let forks = forks_of beside ++ forks_along path in
      let leaves = leaves_of beside ++ leaves_along path in
      let apart : (i : ℕ) → IsOwn tree.root leaves forks i → i ≢ at + k = λ i own. own_apart leaves forks at k i (inner at (first_among at forks)) (omega (arith, sum, o_high)) leaf (λ x c. inner x (other_among x at forks c)) (first_differs at forks distinct) own in
      let keep : (i : ℕ) → IsOwn tree.root leaves forks i → slice_index new i ≡ slice_index old i = λ i own. same i (own_more tree.root i leaves forks leaves (at ∷ forks) (λ x c. c) (λ x c. other_among x at forks c) own) (apart i own) in
      record {
        bit = same at (own_fork tree.root leaves (at ∷ forks) at 0 at (first_among at forks) (omega arith) (omega arith) (omega arith)) (omega (arith, k_high));
        link = same (at + o) (own_fork tree.root leaves (at ∷ forks) at o (at + o) (first_among at forks) (omega (arith, o_high)) (omega (arith, sum, k_high)) refl) (omega (arith, sum));
        holds = holds_same old new beside (λ i own. keep i (inr (of_more i (leaves_of beside) (forks_of beside) leaves forks (λ x c. Contains-append_left (leaves_of beside) (leaves_along path) x c) (λ x c. Contains-append_left (forks_of beside) (forks_along path) x c) own)));
        behind = λ i own. keep i (own_more tree.root i (leaves_along path) (forks_along path) leaves forks (λ x c. Contains-append_right (leaves_of beside) (leaves_along path) x c) (λ x c. Contains-append_right (forks_of beside) (forks_along path) x c) own);
        leaves = λ x c. leaf x (Contains-append_right (leaves_of beside) (leaves_along path) x c);
        forks = λ x c. inner x (other_among x at forks (Contains-append_right (forks_of beside) (forks_along path) x c));
        distinct = distinct_behind (forks_of beside) (forks_along path) (IsDistinct-tail eqb at forks distinct);
      }

  -- what holds of the path stays where its words do, all but that one
  pub along_same : (old new : List ℕ) (path : List Frame) → ((x : ℕ) → Contains (leaves_along path) x → IsRecord tree.leaves x) → ((x : ℕ) → Contains (forks_along path) x → IsRecord tree.inner x) → IsDistinct eqb (forks_along path) → ((i : ℕ) → IsOwn tree.root (leaves_along path) (forks_along path) i → i ≢ slot_of tree.root path → slice_index new i ≡ slice_index old i) → Along old tree.root path → Along new tree.root path
  along_same old new [] leaf inner distinct same along = tt
  along_same old new (OnZeros at bit ones ∷ path) leaf inner distinct same along =
      let stays = stays_beside old new at 2 3 ones path (omega arith) (omega arith) (omega arith) leaf inner distinct same in
      (stays.bit ∙ along.0, stays.link ∙ along.1, stays.holds along.2, stays.behind (slot_of tree.root path) (slot_own tree.root path) ∙ along.3, along_same old new path stays.leaves stays.forks stays.distinct (λ i own ne. stays.behind i own) along.4)
  along_same old new (OnOnes at bit zeros ∷ path) leaf inner distinct same along =
      let stays = stays_beside old new at 3 2 zeros path (omega arith) (omega arith) (omega arith) leaf inner distinct same in
      (stays.bit ∙ along.0, stays.link ∙ along.1, stays.holds along.2, stays.behind (slot_of tree.root path) (slot_own tree.root path) ∙ along.3, along_same old new path stays.leaves stays.forks stays.distinct (λ i own ne. stays.behind i own) along.4)

  -- nor are they a leaf that is none of these
  pub own_apart_leaf : (ls fs : List ℕ) (at i : ℕ) → IsRecord tree.leaves at → ((x : ℕ) → Contains fs x → IsRecord tree.inner x) → ((x : ℕ) → Contains ls x → x ≢ at) → IsOwn tree.root ls fs i → i ≢ at
  own_apart_leaf ls fs at i there inner differ (inl is) = λ same. omega (arith, fits.root_leaves.records at there, fits.leaf_size, is, same)
  own_apart_leaf ls fs at i there inner differ (inr (inl c)) = differ i c
  own_apart_leaf ls fs at i there inner differ (inr (inr fork)) = λ same. omega (arith, (fits.records fork.0 (inner fork.0 fork.1)).records at there, fits.leaf_size, fits.inner_size, fork.4, fork.5, same)

  -- the words that a tree reads are none that its pools use
  pub own_outside_leaves : (ls fs : List ℕ) (i : ℕ) → ((x : ℕ) → Contains ls x → IsRecord tree.leaves x) → ((x : ℕ) → Contains fs x → IsRecord tree.inner x) → IsOwn tree.root ls fs i → IsOutsidePool tree.leaves i
  own_outside_leaves ls fs i leaf inner (inl is) = beside_outside fits.root_leaves fits.leaves.size 0 (omega arith) (omega (arith, is))
  own_outside_leaves ls fs i leaf inner (inr (inl c)) = record_outside fits.leaves (leaf i c) 0 (omega (arith, fits.leaf_size)) (omega arith) (omega arith)
  own_outside_leaves ls fs i leaf inner (inr (inr fork)) = beside_outside (fits.records fork.0 (inner fork.0 fork.1)) fits.leaves.size fork.2 (omega (arith, fork.4, fits.inner_size)) fork.5

  pub own_outside_inner : (ls fs : List ℕ) (i : ℕ) → ((x : ℕ) → Contains ls x → IsRecord tree.leaves x) → ((x : ℕ) → Contains fs x → IsRecord tree.inner x) → IsOwn tree.root ls fs i → IsOutsidePool tree.inner i
  own_outside_inner ls fs i leaf inner (inl is) = beside_outside fits.root_inner fits.inner.size 0 (omega arith) (omega (arith, is))
  own_outside_inner ls fs i leaf inner (inr (inl c)) = beside_outside (leaf_beside fits i (leaf i c)) fits.inner.size 0 (omega (arith, fits.leaf_size)) (omega arith)
  own_outside_inner ls fs i leaf inner (inr (inr fork)) = record_outside fits.inner (inner fork.0 fork.1) fork.2 (omega (arith, fork.4, fits.inner_size)) fork.3 fork.5

  -- a word outside the tree is none of them
  pub own_not_outside : (ls fs : List ℕ) (i j : ℕ) → ((x : ℕ) → Contains ls x → IsRecord tree.leaves x) → ((x : ℕ) → Contains fs x → IsRecord tree.inner x) → IsOwn tree.root ls fs j → IsOutside tree i → i ≢ j
  own_not_outside ls fs i j leaf inner (inl is) out = λ same. out.root (same ∙ is)
  own_not_outside ls fs i j leaf inner (inr (inl c)) out = λ same. omega (arith, out.leaves.records j (leaf j c), fits.leaf_size, same)
  own_not_outside ls fs i j leaf inner (inr (inr fork)) out = λ same. omega (arith, out.inner.records fork.0 (inner fork.0 fork.1), fits.inner_size, fork.4, fork.5, same)

  -- what was reached doesn't read the word that links it
  pub rest_apart : (path : List Frame) (rest : Shape) (i : ℕ) → ((x : ℕ) → Contains (leaves_of rest) x → IsRecord tree.leaves x) → ((x : ℕ) → Contains (forks_of rest ++ forks_along path) x → IsRecord tree.inner x) → IsDistinct eqb (forks_of rest ++ forks_along path) → IsOf (leaves_of rest) (forks_of rest) i → i ≢ slot_of tree.root path
  rest_apart [] rest i leaf inner distinct (inl c) = λ same. omega (arith, fits.root_leaves.records i (leaf i c), fits.leaf_size, same)
  rest_apart [] rest i leaf inner distinct (inr fork) = λ same. omega (arith, fits.root_inner.records fork.0 (inner fork.0 (Contains-append_left (forks_of rest) [] fork.0 fork.1)), fits.inner_size, fork.4, fork.5, same)
  rest_apart (OnZeros at bit ones ∷ path) rest i leaf inner distinct own =
      let more = forks_of ones ++ forks_along path in
      own_apart (leaves_of rest) (forks_of rest) at 2 i (inner at (Contains-append_right (forks_of rest) (at ∷ more) at (first_among at more))) (omega arith) leaf (λ x c. inner x (Contains-append_left (forks_of rest) (at ∷ more) x c))
      (λ x c. first_differs at (forks_of rest ++ more) (IsDistinct-IsPermutation eqb flips (forks_of rest ++ at ∷ more) (at ∷ (forks_of rest ++ more)) (IsPermutation-middle (forks_of rest) at more) distinct) x (Contains-append_left (forks_of rest) more x c)) (inr own)
  rest_apart (OnOnes at bit zeros ∷ path) rest i leaf inner distinct own =
      let more = forks_of zeros ++ forks_along path in
      own_apart (leaves_of rest) (forks_of rest) at 3 i (inner at (Contains-append_right (forks_of rest) (at ∷ more) at (first_among at more))) (omega arith) leaf (λ x c. inner x (Contains-append_left (forks_of rest) (at ∷ more) x c))
      (λ x c. first_differs at (forks_of rest ++ more) (IsDistinct-IsPermutation eqb flips (forks_of rest ++ at ∷ more) (at ∷ (forks_of rest ++ more)) (IsPermutation-middle (forks_of rest) at more) distinct) x (Contains-append_left (forks_of rest) more x c)) (inr own)
