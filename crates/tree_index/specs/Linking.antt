-- What the parts of `insert` and `remove` write.
use Rattle.std.specs.Prelude.{◌≡◌, ℕ, ◌+◌, ◌-◌, ◌⊎◌, List, [], ◌∷◌, Contains, Option, Some, None, slice_index, slice_set}
use Rattle.std.specs.List.Sorted.{IsPermutation}
use Rattle.record_heap.specs.Pool.{Gives, IsPool, Takes}
use Rattle.tree_index.specs.declared.tree.PassedRecord.{PassedRecord}
use Rattle.tree_index.specs.declared.tree.TreePosition.{TreePosition}
use Rattle.tree_index.specs.declared.tree.Tree.{Tree}
use Rattle.tree_index.specs.declared.tree_put.TreePut.{TreePut}
use Rattle.tree_index.specs.declared.tree_put.TreePut.TheVariants.{There, Full, Stored}
use Rattle.tree_index.specs.Shape.{Shape, bit_of, forks_of, keys_of, leaves_of}
use Rattle.tree_index.specs.Tree.{IsRooted, IsTree, StaysOutside}

-- the first free leaf gets the key, and the root links it
pub record StoresFirst (tree : Tree) (key : ℕ) (free taken : List ℕ) (old new : List ℕ) : Type 0 where
  pub leaf : ℕ
  pub middle : List ℕ
  pub takes : Takes tree.leaves free taken (Some leaf) old middle
  pub wrote : new ≡ slice_set (slice_set middle leaf key) tree.root leaf

-- what `put_first` answers and does, of a pool of leaves with these free and taken ones
abbrev pub PutsFirst : Tree → ℕ → List ℕ → List ℕ → TreePut → List ℕ → List ℕ → Type 0
PutsFirst tree key free taken There old new = ⊥
PutsFirst tree key free taken Full old new = (free ≡ []) × (new ≡ old)
PutsFirst tree key free taken Stored old new = StoresFirst tree key free taken old new

-- the array with the key in the leaf and the bit in the inner record, which links the leaf on the key's side and
-- what stood at the position on the other, and is linked there
abbrev pub linked_beside : ℕ → ℕ → ℕ → ℕ → TreePosition → List ℕ → List ℕ
linked_beside key bit leaf fork position array = slice_set (slice_set (slice_set (slice_set (slice_set array leaf key) fork bit) (fork + 2 + bit_of key bit) leaf) (fork + 3 - bit_of key bit) position.link) position.slot fork

-- the first free leaf and the first free inner record are so linked
pub record StoresBeside (tree : Tree) (key bit : ℕ) (position : TreePosition) (free_leaves leaves free_inner inner : List ℕ) (old new : List ℕ) : Type 0 where
  pub leaf : ℕ
  pub first : List ℕ
  pub takes_leaf : Takes tree.leaves free_leaves leaves (Some leaf) old first
  pub fork : ℕ
  pub second : List ℕ
  pub takes_inner : IsPool tree.inner first free_inner inner → Takes tree.inner free_inner inner (Some fork) first second
  pub wrote : new ≡ linked_beside key bit leaf fork position second

-- what `put_beside` answers and does, of pools with these free and taken records
abbrev pub PutsBeside : Tree → ℕ → ℕ → TreePosition → List ℕ → List ℕ → List ℕ → List ℕ → TreePut → List ℕ → List ℕ → Type 0
PutsBeside tree key bit position free_leaves leaves free_inner inner There old new = ⊥
PutsBeside tree key bit position free_leaves leaves free_inner inner Full old new = ((free_leaves ≡ []) ⊎ (free_inner ≡ [])) × (new ≡ old)
PutsBeside tree key bit position free_leaves leaves free_inner inner Stored old new = StoresBeside tree key bit position free_leaves leaves free_inner inner old new

-- in every way in which the array has the pool of the leaves, `put_first` does so
abbrev pub PutsFirstAll : Tree → ℕ → List ℕ → List ℕ → TreePut → Type 0
PutsFirstAll tree key old new put = (free taken : List ℕ) → IsPool tree.leaves old free taken → PutsFirst tree key free taken put old new

-- in every way in which the array has both pools, `put_beside` does so
abbrev pub PutsBesideAll : Tree → ℕ → ℕ → TreePosition → List ℕ → List ℕ → TreePut → Type 0
PutsBesideAll tree key bit position old new put =
    (free_leaves leaves free_inner inner : List ℕ) → IsPool tree.leaves old free_leaves leaves → IsPool tree.inner old free_inner inner
    → PutsBeside tree key bit position free_leaves leaves free_inner inner put old new

-- the array with the other side of this inner record linked in its place
abbrev pub relinked : PassedRecord → List ℕ → List ℕ
relinked passed array = slice_set array passed.slot (slice_index array (passed.at + 3 - passed.side))

-- `cut` leaves the array so
abbrev pub Relinks : PassedRecord → List ℕ → List ℕ → Unit {0} → Type 0
Relinks passed old new done = new ≡ relinked passed old

-- the last inner record passed is so unlinked and given back; without one the tree is emptied
abbrev pub Unlinks : Tree → Option PassedRecord → List ℕ → List ℕ → Unit {0} → Type 0
Unlinks tree None old new done = new ≡ slice_set old tree.root 0
Unlinks tree (Some passed) old new done = (free taken : List ℕ) → IsPool tree.inner (relinked passed old) free taken → ¬ Contains free passed.at → Gives tree.inner passed.at free taken (relinked passed old) new

-- The tree of this array has this shape, and beside it one leaf and one inner record are taken, which it doesn't link.
pub record HasSpare (tree : Tree) (array : List ℕ) (leaf fork : ℕ) (shape : Shape) (free_leaves free_inner : List ℕ) : Type 0 where
  pub leaves : IsPool tree.leaves array free_leaves (leaf ∷ leaves_of shape)
  pub inner : IsPool tree.inner array free_inner (fork ∷ forks_of shape)
  pub rooted : IsRooted array tree.root (Some shape)

-- the tree has the key beside those that it had
pub record HasKeyMore (tree : Tree) (key : ℕ) (shape : Shape) (free_leaves free_inner : List ℕ) (old new : List ℕ) : Type 0 where
  pub after : Shape
  pub lawful : IsTree tree new (Some after) free_leaves free_inner
  pub keys : IsPermutation (key ∷ keys_of shape) (keys_of after)
  pub others : StaysOutside tree old new

-- in every way in which the array has a tree with these records beside it, and without the key, it has the key afterwards
abbrev pub LinksSpare : Tree → ℕ → ℕ → ℕ → List ℕ → List ℕ → Unit {0} → Type 0
LinksSpare tree key leaf fork old new done = (shape : Shape) (free_leaves free_inner : List ℕ) → HasSpare tree old leaf fork shape free_leaves free_inner
    → ¬ Contains (keys_of shape) key → HasKeyMore tree key shape free_leaves free_inner old new
