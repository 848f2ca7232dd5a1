-- An index whose keys were inserted one after another into an empty tree.
use Rattle.std.specs.Prelude.{◌≡◌, ◌≢◌, ℕ, zero, suc, ◌+◌, ◌-◌, ◌<◌, ◌≤◌, List, Option, Some, None, slice_index}
use Rattle.record_heap.specs.declared.pool.Pool.{Pool}
use Rattle.tree_index.specs.declared.tree.Tree.{Tree}
use Rattle.tree_index.specs.Path.{GrowsBy}
use Rattle.tree_index.specs.Shape.{Shape, IsRadix}
use Rattle.tree_index.specs.Tree.{IsTree, IsUnreadBy}
use Rattle.tatp_rows.specs.Filled.{free_from, record_at}
use Rattle.tatp_rows.specs.Filling.{free_link}

-- The shape that an empty tree has after the insertion of the first n keys, one after another: the k-th of them, from 0 on, has
-- the k-th leaf, and each but the first takes the next inner record.
abbrev pub IsGrown : Tree → (ℕ → ℕ) → ℕ → Option Shape → Type 0
IsGrown tree key_at zero shape = shape ≡ None
IsGrown tree key_at (suc n) shape = (before : Option Shape) × IsGrown tree key_at n before × (after : Shape) × GrowsBy (key_at n) (record_at tree.leaves n) before (free_from tree.inner (n - 1)) (free_from tree.inner n) after × IsRadix 64 after × (shape ≡ Some after)

-- word 1 of each record links the next one, as in the free list of all records; it stays when a record is taken
abbrev pub LinksNext : Pool → List ℕ → Type 0
LinksNext pool array = (k : ℕ) → k < pool.count → slice_index array (record_at pool k + 1) ≡ free_link pool (k + 1)

-- a word that is word 1 of no record
abbrev pub IsNoLink : Pool → ℕ → Type 0
IsNoLink pool i = (k : ℕ) → k < pool.count → i ≢ record_at pool k + 1

-- a word from the tree's first one on that the tree doesn't read, and that is word 1 of no record
pub record IsUnusedFrom (tree : Tree) (shape : Option Shape) (i : ℕ) : Type 0 where
  pub from : tree.leaves.base ≤ i
  pub unread : IsUnreadBy tree shape i
  pub leaf_links : IsNoLink tree.leaves i
  pub inner_links : IsNoLink tree.inner i

-- The tree has the first n keys, inserted one after another. The free records of its pools are the later ones, in rising order;
-- each record still links the next one; and all other words from the tree's first one on are 0.
pub record IsIndexed (tree : Tree) (key_at : ℕ → ℕ) (n : ℕ) (array : List ℕ) : Type 0 where
  pub shape : Option Shape
  pub grown : IsGrown tree key_at n shape
  pub lawful : IsTree tree array shape (free_from tree.leaves n) (free_from tree.inner (n - 1))
  pub leaf_links : LinksNext tree.leaves array
  pub inner_links : LinksNext tree.inner array
  pub zeros : (i : ℕ) → IsUnusedFrom tree shape i → slice_index array i ≡ 0
