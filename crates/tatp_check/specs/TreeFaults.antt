-- The word at which the check of a tree first finds something wrong: on the walk, and then in the pools.
use Rattle.std.specs.Prelude.{◌≡◌, ℕ, ◌≤◌, ◌⊎◌, List, Contains, Option, None, slice_index}
use Rattle.tree_index.specs.declared.tree.Tree.{Tree}
use Rattle.tree_index.specs.Shape.{Shape, forks_in, leaves_in}
use Rattle.tatp_check.specs.Marks.{IsNew}
use Rattle.tatp_check.specs.Pools.{HasWholePool, IsWrongPool}
use Rattle.tatp_check.specs.TreeWalk.{GoesByTurns, HasWalked, HasWalkedAll, IsBareTree, Turn, bit_limit, forks_met, leaves_met, next_slot}

-- a link to no leaf and to no inner record, or to one that was met before
pub record IsStrayLink (tree : Tree) (array : List ℕ) (turns : List Turn) (link : ℕ) : Type 0 where
  pub no_leaf : ¬ IsNew tree.leaves (leaves_met turns) (slice_index array link)
  pub no_fork : ¬ IsNew tree.inner (forks_met turns) (slice_index array link)

-- a new inner record whose bit is over 63, or not below that of the last turn
pub record IsWrongFork (tree : Tree) (array : List ℕ) (turns : List Turn) (at : ℕ) : Type 0 where
  pub new : IsNew tree.inner (forks_met turns) at
  pub high : bit_limit turns ≤ slice_index array at

-- a new leaf whose key is none of these, or doesn't go by the turns
pub record IsWrongLeaf (tree : Tree) (array keys : List ℕ) (turns : List Turn) (at : ℕ) : Type 0 where
  pub new : IsNew tree.leaves (leaves_met turns) at
  pub wrong : ¬ (Contains keys (slice_index array at) × GoesByTurns (slice_index array at) None turns)

-- what comes next behind these turns is wrong, and this is the word: that of the link, or the first one of the record
abbrev pub IsWrongBehind : Tree → List ℕ → List ℕ → List Turn → ℕ → ℕ → Type 0
IsWrongBehind tree array keys turns link word =
    (IsStrayLink tree array turns link × (word ≡ link))
    ⊎ ((IsWrongFork tree array turns (slice_index array link) × (word ≡ slice_index array link))
    ⊎ (IsWrongLeaf tree array keys turns (slice_index array link) × (word ≡ slice_index array link)))

-- the wrong word is found on a walk from the root
pub record IsWrongOnWalk (tree : Tree) (array keys : List ℕ) (word : ℕ) : Type 0 where
  pub turns : List Turn
  pub walked : HasWalked tree array keys turns
  pub next : IsWrongBehind tree array keys turns (next_slot tree.root turns) word

-- the tree isn't a bare one, and the wrong word is found on the walk
abbrev pub IsWrongInTree : Tree → List ℕ → List ℕ → ℕ → Type 0
IsWrongInTree tree array keys word = (¬ IsBareTree tree array keys) × IsWrongOnWalk tree array keys word

-- the wrong word is found behind the walk, in the pool of the leaves
pub record IsInLeaves (tree : Tree) (array keys : List ℕ) (word : ℕ) : Type 0 where
  pub shape : Option Shape
  pub walked : HasWalkedAll tree array keys shape
  pub wrong : IsWrongPool tree.leaves array (leaves_in shape) word

-- nothing is wrong in the pool of the leaves, and the wrong word is found in that of the inner records
pub record IsInForks (tree : Tree) (array keys : List ℕ) (word : ℕ) : Type 0 where
  pub shape : Option Shape
  pub walked : HasWalkedAll tree array keys shape
  pub leaves : HasWholePool tree.leaves array (leaves_in shape)
  pub wrong : IsWrongPool tree.inner array (forks_in shape) word

-- the first word at which something is wrong in the tree
abbrev pub IsWrongTree : Tree → List ℕ → List ℕ → ℕ → Type 0
IsWrongTree tree array keys word = IsWrongInTree tree array keys word ⊎ (IsInLeaves tree array keys word ⊎ IsInForks tree array keys word)

-- nothing is wrong in the tree, which has this shape
pub record IsWholeTree (tree : Tree) (array keys : List ℕ) (shape : Option Shape) : Type 0 where
  pub walked : HasWalkedAll tree array keys shape
  pub leaves : HasWholePool tree.leaves array (leaves_in shape)
  pub inner : HasWholePool tree.inner array (forks_in shape)
