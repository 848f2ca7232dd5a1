-- A walk through a tree, depth first: the zeros of an inner record before its ones. `keys` are those that its leaves may have.
use Rattle.std.specs.Prelude.{◌≡◌, ℕ, ◌+◌, ◌/◌, ◌^◌, ◌<◌, List, [], ◌∷◌, ◌++◌, Contains, Option, Some, None, IfSome, slice_index}
use Rattle.tree_index.specs.declared.tree.Tree.{Tree}
use Rattle.tree_index.specs.Shape.{Shape, Leaf, Fork, bit_of, forks_of, least_of, leaves_of, link_of}
use Rattle.tatp_check.specs.Marks.{IsNew}

-- an inner record that the walk is below: its place and its bit, and on the way through its ones the whole shape of its zeros
pub data Turn : Type 0 where
  ToZeros : ℕ → ℕ → Turn
  ToOnes : ℕ → ℕ → Shape → Turn

-- the word that comes next behind these turns, of which the last stands first in the list
abbrev pub next_slot : ℕ → List Turn → ℕ
next_slot root [] = root
next_slot root (ToZeros at bit ∷ turns) = at + 2
next_slot root (ToOnes at bit zeros ∷ turns) = at + 3

-- the bits behind these turns are less than this
abbrev pub bit_limit : List Turn → ℕ
bit_limit [] = 64
bit_limit (ToZeros at bit ∷ turns) = bit
bit_limit (ToOnes at bit zeros ∷ turns) = bit

-- the leaves met, in the order of the walk
abbrev pub leaves_met : List Turn → List ℕ
leaves_met [] = []
leaves_met (ToZeros at bit ∷ turns) = leaves_met turns
leaves_met (ToOnes at bit zeros ∷ turns) = leaves_met turns ++ leaves_of zeros

-- the inner records met, in the order of the walk
abbrev pub forks_met : List Turn → List ℕ
forks_met [] = []
forks_met (ToZeros at bit ∷ turns) = forks_met turns ++ at ∷ []
forks_met (ToOnes at bit zeros ∷ turns) = forks_met turns ++ at ∷ forks_of zeros

-- A key goes by these turns: its bit is 0 or 1 as the walk turned, and above that bit it agrees with the first key met below the
-- same record. `first` is the first key met behind the turns, if one was met there.
abbrev pub GoesByTurns : ℕ → Option ℕ → List Turn → Type 0
GoesByTurns key first [] = Unit {0}
GoesByTurns key first (ToZeros at bit ∷ turns) = (bit_of key bit ≡ 0) × IfSome first (λ other. key / 2 ^ (bit + 1) ≡ other / 2 ^ (bit + 1)) × GoesByTurns key first turns
GoesByTurns key first (ToOnes at bit zeros ∷ turns) = (bit_of key bit ≡ 1) × (key / 2 ^ (bit + 1) ≡ least_of zeros / 2 ^ (bit + 1)) × GoesByTurns key (Some (least_of zeros)) turns

-- a new leaf whose key is one of these and goes by the turns
pub record IsSoundLeaf (tree : Tree) (array keys : List ℕ) (turns : List Turn) (at : ℕ) : Type 0 where
  pub new : IsNew tree.leaves (leaves_met turns) at
  pub known : Contains keys (slice_index array at)
  pub goes : GoesByTurns (slice_index array at) None turns

-- a new inner record whose bit is below that of the last turn, or below 64 where there is none
pub record IsSoundFork (tree : Tree) (array : List ℕ) (turns : List Turn) (at : ℕ) : Type 0 where
  pub new : IsNew tree.inner (forks_met turns) at
  pub falls : slice_index array at < bit_limit turns

-- the words hold this shape, and each of its records is sound where the walk comes to it behind these turns
abbrev pub IsSoundShape : Tree → List ℕ → List ℕ → List Turn → Shape → Type 0
IsSoundShape tree array keys turns (Leaf at key) = (slice_index array at ≡ key) × IsSoundLeaf tree array keys turns at
IsSoundShape tree array keys turns (Fork at bit zeros ones) =
    (slice_index array at ≡ bit) × IsSoundFork tree array turns at
    × (slice_index array (at + 2) ≡ link_of zeros) × IsSoundShape tree array keys (ToZeros at bit ∷ turns) zeros
    × (slice_index array (at + 3) ≡ link_of ones) × IsSoundShape tree array keys (ToOnes at bit zeros ∷ turns) ones

-- the word behind these turns links an inner record with this bit, which is sound
pub record IsSoundTurn (tree : Tree) (array : List ℕ) (turns : List Turn) (at bit : ℕ) : Type 0 where
  pub link : slice_index array (next_slot tree.root turns) ≡ at
  pub bit_is : slice_index array at ≡ bit
  pub sound : IsSoundFork tree array turns at

-- The walk has made these turns: each is at a sound inner record that the one before links, and the zeros that lie behind are sound.
abbrev pub HasWalked : Tree → List ℕ → List ℕ → List Turn → Type 0
HasWalked tree array keys [] = Unit {0}
HasWalked tree array keys (ToZeros at bit ∷ turns) = HasWalked tree array keys turns × IsSoundTurn tree array turns at bit
HasWalked tree array keys (ToOnes at bit zeros ∷ turns) =
    HasWalked tree array keys turns × IsSoundTurn tree array turns at bit
    × (slice_index array (at + 2) ≡ link_of zeros) × IsSoundShape tree array keys (ToZeros at bit ∷ turns) zeros

-- there is no tree where there is no key
abbrev pub IsBareTree : Tree → List ℕ → List ℕ → Type 0
IsBareTree tree array keys = (slice_index array tree.root ≡ 0) × (keys ≡ [])

-- the walk has met the whole tree, which has this shape
abbrev pub HasWalkedAll : Tree → List ℕ → List ℕ → Option Shape → Type 0
HasWalkedAll tree array keys None = IsBareTree tree array keys
HasWalkedAll tree array keys (Some shape) = (slice_index array tree.root ≡ link_of shape) × IsSoundShape tree array keys [] shape
