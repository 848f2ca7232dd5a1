-- A tree stays where none of the words that it uses changes.
use Rattle.std.proofs.Common.{◌≡◌, ℕ, ◌+◌, ◌<◌, ◌≤◌, inl, inr, List, [], ◌∷◌, Contains, Option, Some, None, slice_index, sym, ap, ◌∙◌, arith}
use Rattle.std.specs.List.{AllByRecursion}
use Rattle.record_heap.specs.declared.pool.Pool.{Pool}
use Rattle.record_heap.specs.Changes.{ChangesOnly}
use Rattle.record_heap.specs.Pool.{IsRecord}
use Rattle.record_heap.proofs.Frames.{IsOutsidePool, SamePool, none_of, pool_stays, same_pool, same_pool-then}
use Rattle.tree_index.specs.declared.tree.Tree.{Tree}
use Rattle.tree_index.specs.Shape.{Shape, forks_of, leaves_of}
use Rattle.tree_index.specs.Tree.{FitsTree, IsBeside, IsOutside, IsTree}
use Rattle.tree_index.proofs.Apart.{IsOf, holds_same}
use Rattle.tree_index.proofs.Found.{taken_record}
use Rattle.tree_index.proofs.Frees.{beside_outside}

-- the words that a tree uses are the same in both arrays: those of the two pools, the root's, and those of the records
pub record SameTree (tree : Tree) (a b : List ℕ) : Type 0 where
  pub leaves : SamePool tree.leaves a b
  pub inner : SamePool tree.inner a b
  pub root : slice_index b tree.root ≡ slice_index a tree.root
  pub keys : (x : ℕ) → IsRecord tree.leaves x → slice_index b x ≡ slice_index a x
  pub forks : (x j : ℕ) → IsRecord tree.inner x → j < 4 → slice_index b (x + j) ≡ slice_index a (x + j)

pub same_tree-then : {tree : Tree} {a b c : List ℕ} → SameTree tree a b → SameTree tree b c → SameTree tree a c
same_tree-then s t = record {
  leaves = same_pool-then s.leaves t.leaves;
  inner = same_pool-then s.inner t.inner;
  root = t.root ∙ s.root;
  keys = λ x r. t.keys x r ∙ s.keys x r;
  forks = λ x j r small. t.forks x j r small ∙ s.forks x j r small;
}

word_same : (tree : Tree) (a b ls fs : List ℕ) (i : ℕ) → SameTree tree a b → ((x : ℕ) → Contains ls x → IsRecord tree.leaves x) → ((x : ℕ) → Contains fs x → IsRecord tree.inner x) → IsOf ls fs i → slice_index b i ≡ slice_index a i
word_same tree a b ls fs i same leaf inner (inl c) = same.keys i (leaf i c)
word_same tree a b ls fs i same leaf inner (inr fork) =
    ap (λ k. slice_index b k) fork.5 ∙ same.forks fork.0 fork.2 (inner fork.0 fork.1) fork.4 ∙ ap (λ k. slice_index a k) (sym fork.5)

-- the shape and the free records are the same
pub tree_stays : {tree : Tree} {a b free_leaves free_inner : List ℕ} (shape : Option Shape) → SameTree tree a b → IsTree tree a shape free_leaves free_inner → IsTree tree b shape free_leaves free_inner
tree_stays None same lawful = record { leaves = pool_stays same.leaves lawful.leaves; inner = pool_stays same.inner lawful.inner; rooted = same.root ∙ lawful.rooted }
tree_stays {tree} {a} {b} (Some shape) same lawful = record {
  leaves = pool_stays same.leaves lawful.leaves;
  inner = pool_stays same.inner lawful.inner;
  rooted = (
    same.root ∙ lawful.rooted.0,
    holds_same a b shape (λ i own. word_same tree a b (leaves_of shape) (forks_of shape) i same (taken_record lawful.leaves) (taken_record lawful.inner) own) lawful.rooted.1,
    lawful.rooted.2,
  );
}

-- words beside a pool are outside it
all_outside : {tree : Tree} (pool : Pool) → 2 ≤ pool.size → ((w : ℕ) → IsOutside tree w → IsBeside pool w 1) → (words : List ℕ) → AllByRecursion (IsOutside tree) words → AllByRecursion (IsOutsidePool pool) words
all_outside pool wide beside [] all = tt
all_outside pool wide beside (w ∷ words) all = (beside_outside (beside w all.0) wide 0 (omega arith) (omega arith), all_outside pool wide beside words all.1)

-- only words change that the tree doesn't use
pub same_tree : {tree : Tree} {n : ℕ} {words a b : List ℕ} → FitsTree tree n → AllByRecursion (IsOutside tree) words → ChangesOnly words a b → SameTree tree a b
same_tree {tree} {n} {words} fits outside changes = record {
  leaves = same_pool (all_outside tree.leaves fits.leaves.size (λ w o. o.leaves) words outside) changes;
  inner = same_pool (all_outside tree.inner fits.inner.size (λ w o. o.inner) words outside) changes;
  root = changes.others tree.root (none_of words tree.root (λ w (o : IsOutside tree w). o.root) outside);
  keys = λ x r. changes.others x (none_of words x (λ w (o : IsOutside tree w). omega (arith, o.leaves.records x r, fits.leaf_size)) outside);
  forks = λ x j r small. changes.others (x + j) (none_of words (x + j) (λ w (o : IsOutside tree w). omega (arith, o.inner.records x r, fits.inner_size, small)) outside);
}
