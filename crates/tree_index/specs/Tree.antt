-- A tree over an array of words, and the ordered set of keys that it is.
use Rattle.std.specs.Prelude.{◌≡◌, ◌≢◌, ℕ, ◌<◌, ◌≤◌, ◌⊎◌, List, [], ◌∷◌, length, Bool, true, false, All, Contains, Option, Some, None, slice_index}
use Rattle.std.specs.List.Sorted.{IsPermutation}
use Rattle.record_heap.specs.declared.pool.Pool.{Pool}
use Rattle.record_heap.specs.Pool.{AreApart, FitsPool, IsPool, IsRecord}
use Rattle.tree_index.specs.declared.tree.Tree.{Tree}
use Rattle.tree_index.specs.declared.tree_put.TreePut.{TreePut}
use Rattle.tree_index.specs.declared.tree_put.TreePut.TheVariants.{There, Full, Stored}
use Rattle.tree_index.specs.Path.{GrowsBy}
use Rattle.tree_index.specs.Shape.{Shape, Holds, IsRadix, IsUnreadIn, forks_in, keys_in, keys_of, leaves_in, link_of}

-- n words from p on are apart from the header and from the records of a pool
pub record IsBeside (pool : Pool) (p n : ℕ) : Type 0 where
  pub header : AreApart pool.base 2 p n
  pub records : (at : ℕ) → IsRecord pool at → AreApart at pool.size p n

-- The tree may be used over n words: so may its pools, whose records have four words, and their headers,
-- their records and the word of the root lie apart.
pub record FitsTree (tree : Tree) (n : ℕ) : Type 0 where
  pub leaves : FitsPool tree.leaves n
  pub inner : FitsPool tree.inner n
  pub leaf_size : 4 ≤ tree.leaves.size
  pub inner_size : 4 ≤ tree.inner.size
  pub root : tree.root < n
  pub root_leaves : IsBeside tree.leaves tree.root 1
  pub root_inner : IsBeside tree.inner tree.root 1
  pub headers : IsBeside tree.leaves tree.inner.base 2
  pub records : (at : ℕ) → IsRecord tree.inner at → IsBeside tree.leaves at tree.inner.size

-- the word of the root links a whole shape, whose bits are 63 at most, or is 0
abbrev pub IsRooted : List ℕ → ℕ → Option Shape → Type 0
IsRooted array root None = slice_index array root ≡ 0
IsRooted array root (Some shape) = (slice_index array root ≡ link_of shape) × Holds array shape × IsRadix 64 shape

-- The tree of this array has this shape and these free records: the leaves and inner records of the shape
-- are the taken ones of the two pools, each once, and the words hold it.
pub record IsTree (tree : Tree) (array : List ℕ) (shape : Option Shape) (free_leaves free_inner : List ℕ) : Type 0 where
  pub leaves : IsPool tree.leaves array free_leaves (leaves_in shape)
  pub inner : IsPool tree.inner array free_inner (forks_in shape)
  pub rooted : IsRooted array tree.root shape

-- the least of these keys that is at least `from`, or None where all are less
abbrev pub IsNext : List ℕ → ℕ → Option ℕ → Type 0
IsNext keys from None = All (λ key. key < from) keys
IsNext keys from (Some next) = Contains keys next × (from ≤ next) × All (λ key. (key < from) ⊎ (next ≤ key)) keys

-- a word that the tree doesn't use
pub record IsOutside (tree : Tree) (i : ℕ) : Type 0 where
  pub leaves : IsBeside tree.leaves i 1
  pub inner : IsBeside tree.inner i 1
  pub root : i ≢ tree.root

-- the words that the tree doesn't use stay
pub record StaysOutside (tree : Tree) (old new : List ℕ) : Type 0 where
  pub size : length new ≡ length old
  pub others : (i : ℕ) → IsOutside tree i → slice_index new i ≡ slice_index old i

-- a word that neither says how a tree of this shape stands nor what its headers count: none of the headers' two words each,
-- not the root's, and none that the shape reads
pub record IsUnreadBy (tree : Tree) (shape : Option Shape) (i : ℕ) : Type 0 where
  pub leaves : AreApart tree.leaves.base 2 i 1
  pub inner : AreApart tree.inner.base 2 i 1
  pub root : i ≢ tree.root
  pub below : IsUnreadIn shape i

-- The key was not there, and is one of the keys now. The first free leaf is taken, and the first free inner
-- record where there was a key. Words that the grown tree doesn't read stay.
pub record Stores (tree : Tree) (key : ℕ) (shape : Option Shape) (free_leaves free_inner : List ℕ) (old new : List ℕ) : Type 0 where
  pub absent : ¬ Contains (keys_in shape) key
  pub leaf : ℕ
  pub left_leaves : List ℕ
  pub left_inner : List ℕ
  pub took_leaf : free_leaves ≡ leaf ∷ left_leaves
  pub after : Shape
  pub grows : GrowsBy key leaf shape free_inner left_inner after
  pub keys : IsPermutation (key ∷ keys_in shape) (keys_of after)
  pub lawful : IsTree tree new (Some after) left_leaves left_inner
  pub others : StaysOutside tree old new
  pub unread : (i : ℕ) → IsUnreadBy tree (Some after) i → slice_index new i ≡ slice_index old i

-- no leaf is free or, with a key there, no inner record
abbrev pub HasNoRoom : Option Shape → List ℕ → List ℕ → Type 0
HasNoRoom shape free_leaves free_inner = (free_leaves ≡ []) ⊎ ((shape ≢ None) × (free_inner ≡ []))

-- what `insert` of a key answers and does, of a tree with this shape and these free records
abbrev pub Inserts : Tree → ℕ → Option Shape → List ℕ → List ℕ → TreePut → List ℕ → List ℕ → Type 0
Inserts tree key shape free_leaves free_inner There old new = Contains (keys_in shape) key × (new ≡ old)
Inserts tree key shape free_leaves free_inner Full old new = (¬ Contains (keys_in shape) key) × HasNoRoom shape free_leaves free_inner × (new ≡ old)
Inserts tree key shape free_leaves free_inner Stored old new = Stores tree key shape free_leaves free_inner old new

-- The key was there, and is none of the keys now. Its leaf is the first free one, and the inner record over it
-- the first free one of its pool: with both taken again for the key, the shape is as it was.
pub record Drops (tree : Tree) (key : ℕ) (shape : Option Shape) (free_leaves free_inner : List ℕ) (old new : List ℕ) : Type 0 where
  pub before : Shape
  pub was : shape ≡ Some before
  pub leaf : ℕ
  pub left_inner : List ℕ
  pub after : Option Shape
  pub grows : GrowsBy key leaf after left_inner free_inner before
  pub keys : IsPermutation (keys_of before) (key ∷ keys_in after)
  pub lawful : IsTree tree new after (leaf ∷ free_leaves) left_inner
  pub others : StaysOutside tree old new

-- what `remove` of a key answers and does, of a tree with this shape and these free records
abbrev pub Removes : Tree → ℕ → Option Shape → List ℕ → List ℕ → Bool → List ℕ → List ℕ → Type 0
Removes tree key shape free_leaves free_inner false old new = (¬ Contains (keys_in shape) key) × (new ≡ old)
Removes tree key shape free_leaves free_inner true old new = Drops tree key shape free_leaves free_inner old new

-- The key `from` was there, and `to` is there in its place. The other keys stay, and so do the free records: those of `from` are
-- linked anew.
pub record Replaces (tree : Tree) (from to : ℕ) (shape : Option Shape) (free_leaves free_inner : List ℕ) (old new : List ℕ) : Type 0 where
  pub rest : List ℕ
  pub were : IsPermutation (keys_in shape) (from ∷ rest)
  pub after : Shape
  pub keys : IsPermutation (to ∷ rest) (keys_of after)
  pub lawful : IsTree tree new (Some after) free_leaves free_inner
  pub others : StaysOutside tree old new

-- in every way in which the array is this tree, the answer is the next of its keys
abbrev pub FindsNext : Tree → ℕ → List ℕ → Option ℕ → Type 0
FindsNext tree from array r = (shape : Option Shape) (free_leaves free_inner : List ℕ) → IsTree tree array shape free_leaves free_inner → IsNext (keys_in shape) from r

-- in every way in which the array is this tree, `insert` does so
abbrev pub InsertsAll : Tree → ℕ → List ℕ → List ℕ → TreePut → Type 0
InsertsAll tree key old new put = (shape : Option Shape) (free_leaves free_inner : List ℕ) → IsTree tree old shape free_leaves free_inner → Inserts tree key shape free_leaves free_inner put old new

-- in every way in which the array is this tree, `remove` does so
abbrev pub RemovesAll : Tree → ℕ → List ℕ → List ℕ → Bool → Type 0
RemovesAll tree key old new was = (shape : Option Shape) (free_leaves free_inner : List ℕ) → IsTree tree old shape free_leaves free_inner → Removes tree key shape free_leaves free_inner was old new

-- In every way in which the array is this tree, `replace` does so where the first key is there and the second is not. Without the
-- first nothing is changed.
abbrev pub ReplacesAll : Tree → ℕ → ℕ → List ℕ → List ℕ → Unit {0} → Type 0
ReplacesAll tree from to old new done = (shape : Option Shape) (free_leaves free_inner : List ℕ) → IsTree tree old shape free_leaves free_inner
    → ((¬ Contains (keys_in shape) from) → new ≡ old)
    × (Contains (keys_in shape) from → ¬ Contains (keys_in shape) to → Replaces tree from to shape free_leaves free_inner old new)
