-- The word at which the index of an array is first wrong: one of its tree, or that of a subscriber whose key no leaf has.
use Rattle.std.specs.Prelude.{◌≡◌, ◌≢◌, ℕ, ◌+◌, ◌^◌, ◌<◌, ◌⊎◌, ◌↔◌, IsTrue, Bool, List, ◌∷◌, ◌++◌, length, All, Any, Option, MatchOption, map, slice_index}
use Rattle.dude_base.specs.declared.sizes.Sizes.{Sizes}
use Rattle.tatp_layout.specs.Decoding.{subscriber_in}
use Rattle.tatp_layout.specs.Index.{location_key}
use Rattle.tatp_layout.specs.Layout.{index_tree}
use Rattle.tree_index.specs.declared.tree.Tree.{Tree}
use Rattle.tree_index.specs.Shape.{Shape, leaves_in}
use Rattle.tatp_check.specs.declared.taken.Taken.{Taken}
use Rattle.tatp_check.specs.Taken.{AreTaken}
use Rattle.tatp_check.specs.TreeFaults.{IsWholeTree, IsWrongTree}

-- the keys of the subscribers that have these records
abbrev pub location_keys : List ℕ → List ℕ → List ℕ
location_keys array subscribers = map (λ at. location_key (subscriber_in array at)) subscribers

-- the words of the record's key lie in the array, and are below 2^32
pub record HasSmallKey (array : List ℕ) (at : ℕ) : Type 0 where
  pub inside : at + 7 < length array
  pub s_id : slice_index array at < 2 ^ 32
  pub vlr : slice_index array (at + 6) < 2 ^ 32

-- one of these leaves has the key of the subscriber whose record is at this word
abbrev pub HasLeaf : List ℕ → List ℕ → ℕ → Type 0
HasLeaf array leaves at = Any (λ leaf. slice_index array leaf ≡ location_key (subscriber_in array at)) leaves

-- the first of these subscribers whose key none of the leaves has
pub record IsLeafless (array leaves subscribers : List ℕ) (at : ℕ) : Type 0 where
  pub before : List ℕ
  pub behind : List ℕ
  pub split : subscribers ≡ before ++ at ∷ behind
  pub others : All (HasLeaf array leaves) before
  pub missing : ¬ HasLeaf array leaves at

-- whatever leaves were taken: the answer says whether one of them has the subscriber's key
abbrev pub TestsLeaf : List ℕ → Taken → ℕ → Bool → Type 0
TestsLeaf array taken at has = (leaves : List ℕ) → AreTaken array leaves taken → IsTrue has ↔ HasLeaf array leaves at

-- whatever leaves were taken: the first of these subscribers whose key none of them has, or none where each has one
abbrev pub FindsLeafless : List ℕ → List ℕ → Taken → Option ℕ → Type 0
FindsLeafless array subscribers taken found = (leaves : List ℕ) → AreTaken array leaves taken → MatchOption found (All (HasLeaf array leaves) subscribers) (IsLeafless array leaves subscribers)

-- nothing is wrong in the tree, and this is the word of the location of the first subscriber whose key no leaf has
pub record IsWithoutLeaf (tree : Tree) (array subscribers : List ℕ) (word : ℕ) : Type 0 where
  pub shape : Option Shape
  pub whole : IsWholeTree tree array (location_keys array subscribers) shape
  pub at : ℕ
  pub leafless : IsLeafless array (leaves_in shape) subscribers at
  pub word_is : word ≡ at + 6

-- the first wrong word of an index over the subscribers that have these records
abbrev pub IsWrongIndex : Tree → List ℕ → List ℕ → ℕ → Type 0
IsWrongIndex tree array subscribers word = IsWrongTree tree array (location_keys array subscribers) word ⊎ IsWithoutLeaf tree array subscribers word

-- nothing is wrong in the index
pub record IsWholeIndex (tree : Tree) (array subscribers : List ℕ) : Type 0 where
  pub shape : Option Shape
  pub whole : IsWholeTree tree array (location_keys array subscribers) shape
  pub each : All (HasLeaf array (leaves_in shape)) subscribers

-- nothing is wrong in the index of an array of these sizes, where they have one
abbrev pub StandsWhere : Sizes → List ℕ → List ℕ → Type 0
StandsWhere s array subscribers = s.index ≢ 0 → IsWholeIndex (index_tree s) array subscribers

-- the sizes have an index, and this is its first wrong word
abbrev pub IsWrongWhere : Sizes → List ℕ → List ℕ → ℕ → Type 0
IsWrongWhere s array subscribers word = (s.index ≢ 0) × IsWrongIndex (index_tree s) array subscribers word
