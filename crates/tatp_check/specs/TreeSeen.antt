-- What is known on the way through a tree.
use Rattle.std.specs.Prelude.{◌≡◌, ℕ, ◌+◌, ◌/◌, ◌^◌, ◌<◌, ◌↔◌, IsTrue, Bool, List, [], ◌∷◌, ◌++◌, Option, Some, None, IfSome, MatchOption, Result, IfErr, IfOk}
use Rattle.tree_index.specs.declared.tree.Tree.{Tree}
use Rattle.tree_index.specs.Shape.{Shape, Fork, bit_of, forks_in, leaves_in, least_of}
use Rattle.tatp_check.specs.declared.check_fault.CheckFault.{CheckFault}
use Rattle.tatp_check.specs.declared.taken.Taken.{Taken}
use Rattle.tatp_check.specs.declared.tree_seen.OpenFork.{OpenFork}
use Rattle.tatp_check.specs.declared.tree_seen.TreeSeen.{TreeSeen}
use Rattle.tatp_check.specs.Faults.{IsCause}
use Rattle.tatp_check.specs.Marks.{AreMarked, unmarked}
use Rattle.tatp_check.specs.Taken.{AreTaken}
use Rattle.tatp_check.specs.TreeFaults.{IsWholeTree, IsWrongOnWalk}
use Rattle.tatp_check.specs.TreeWalk.{GoesByTurns, HasWalked, HasWalkedAll, ToOnes, ToZeros, Turn, bit_limit, forks_met, leaves_met, next_slot}

-- ---- turns

-- where a walk is: behind these turns, or at its end, with the whole shape
pub data Progress : Type 0 where
  Going : List Turn → Progress
  Ended : Shape → Progress

-- where it is when a shape behind these turns is done: at the ones of the last record of which it is the zeros
abbrev pub turned : Shape → List Turn → Progress
turned shape [] = Ended shape
turned shape (ToZeros at bit ∷ turns) = Going (ToOnes at bit shape ∷ turns)
turned shape (ToOnes at bit zeros ∷ turns) = turned (Fork at bit zeros shape) turns

-- a turn as it is kept
abbrev pub kept_fork : Turn → OpenFork
kept_fork (ToZeros at bit) = record { at = at; bit = bit; first = None }
kept_fork (ToOnes at bit zeros) = record { at = at; bit = bit; first = Some (least_of zeros) }

-- these turns as they are kept, the last one last
abbrev pub kept_forks : List Turn → List OpenFork
kept_forks [] = []
kept_forks (turn ∷ turns) = kept_forks turns ++ kept_fork turn ∷ []

-- A key passes an inner record that the walk is below: it has the bit of the walk's side, and agrees above that bit with the first
-- key met there, which is `first` where the walk is on the zeros.
abbrev pub PassesFork : ℕ → OpenFork → Option ℕ → Type 0
PassesFork key fork first = MatchOption fork.first
    ((bit_of key fork.bit ≡ 0) × IfSome first (λ other. key / 2 ^ (fork.bit + 1) ≡ other / 2 ^ (fork.bit + 1)))
    (λ other. (bit_of key fork.bit ≡ 1) × (key / 2 ^ (fork.bit + 1) ≡ other / 2 ^ (fork.bit + 1)))

-- whatever turns are kept: the bits behind them are less than this
abbrev pub LimitsBits : List OpenFork → ℕ → Type 0
LimitsBits above limit = (turns : List Turn) → above ≡ kept_forks turns → limit ≡ bit_limit turns

-- whatever turns are kept: the answer says whether the key goes by them
abbrev pub TestsKey : ℕ → List OpenFork → Bool → Type 0
TestsKey key above goes = (turns : List Turn) → above ≡ kept_forks turns → IsTrue goes ↔ GoesByTurns key None turns

-- this word comes next, and these turns are kept; or the walk is at its end
abbrev pub IsTurned : ℕ → Progress → Option ℕ → List OpenFork → Type 0
IsTurned root (Going turns) next above = (next ≡ Some (next_slot root turns)) × (above ≡ kept_forks turns)
IsTurned root (Ended shape) next above = next ≡ None

-- whatever turns were kept, and whatever shape with this least key is done behind them: the walk goes on behind it
abbrev pub TurnsBack : ℕ → List OpenFork → List OpenFork → Option ℕ → Type 0
TurnsBack key old new next = (root : ℕ) (turns : List Turn) (shape : Shape) → old ≡ kept_forks turns → key ≡ least_of shape → IsTurned root (turned shape turns) next new

-- ---- records

-- nothing was met yet
pub record HasMetNone (tree : Tree) (seen : TreeSeen) : Type 0 where
  pub leaves : AreMarked tree.leaves [] seen.leaves.marks.marks.items
  pub taken : (array : List ℕ) → AreTaken array [] seen.leaves.taken
  pub inner : AreMarked tree.inner [] seen.inner.marks.items
  pub forks : seen.forks.items ≡ []
  pub above : seen.above.items ≡ []

-- an inner record was taken in, and the walk is below it
pub record OpensFork (at bit : ℕ) (old new : TreeSeen) : Type 0 where
  pub forks : new.forks.items ≡ old.forks.items ++ at ∷ []
  pub above : new.above.items ≡ old.above.items ++ (record { at = at; bit = bit; first = None }) ∷ []
  pub leaves : new.leaves ≡ old.leaves
  pub inner : new.inner ≡ old.inner

-- these leaves and these inner records were met: they are marked and kept
pub record KnowsRecords (tree : Tree) (array leaves forks : List ℕ) (seen : TreeSeen) : Type 0 where
  pub leaves_marked : AreMarked tree.leaves leaves seen.leaves.marks.marks.items
  pub leaves_taken : AreTaken array leaves seen.leaves.taken
  pub forks_marked : AreMarked tree.inner forks seen.inner.marks.items
  pub forks_kept : seen.forks.items ≡ forks

-- how many records of the two pools were not met
abbrev pub records_left : TreeSeen → ℕ
records_left seen = unmarked seen.leaves.marks.marks.items + unmarked seen.inner.marks.items

-- fewer records were not met than before
abbrev pub MeetsMore : TreeSeen → TreeSeen → Type 0
MeetsMore old new = records_left new < records_left old

-- ---- the walk

-- behind the turns that were made the word `slot` comes next
pub record KnowsTurns (tree : Tree) (array keys : List ℕ) (slot : ℕ) (seen : TreeSeen) : Type 0 where
  pub turns : List Turn
  pub walked : HasWalked tree array keys turns
  pub slot_is : slot ≡ next_slot tree.root turns
  pub above : seen.above.items ≡ kept_forks turns
  pub records : KnowsRecords tree array (leaves_met turns) (forks_met turns) seen

-- the whole tree was met
pub record KnowsTree (tree : Tree) (array keys : List ℕ) (seen : TreeSeen) : Type 0 where
  pub shape : Option Shape
  pub walked : HasWalkedAll tree array keys shape
  pub records : KnowsRecords tree array (leaves_in shape) (forks_in shape) seen

-- a word comes next, or the whole tree was met
abbrev pub KnowsNext : Tree → List ℕ → List ℕ → TreeSeen → Option ℕ → Type 0
KnowsNext tree array keys seen next = MatchOption next (KnowsTree tree array keys seen) (λ slot. KnowsTurns tree array keys slot seen)

-- where the inner record is accepted, the walk goes on to its zeros, whatever keys there are
abbrev pub GoesDown : Tree → List ℕ → ℕ → TreeSeen → Result ℕ CheckFault → TreeSeen → Type 0
GoesDown tree array slot old r new = (keys : List ℕ) → KnowsTurns tree array keys slot old → IfOk r (λ next. KnowsTurns tree array keys next new)

-- where the inner record is refused, the answer is a wrong word, or memory is wanting, whatever keys there are
abbrev pub RefusesFork : {T : Type 0} → Tree → List ℕ → ℕ → TreeSeen → Result T CheckFault → Type 0
RefusesFork tree array slot old r = (keys : List ℕ) → KnowsTurns tree array keys slot old → IfErr r (IsCause (IsWrongOnWalk tree array keys))

-- nothing is wrong in the tree, and its leaves are found by their keys
pub record KeepsTree (tree : Tree) (array keys : List ℕ) (taken : Taken) : Type 0 where
  pub shape : Option Shape
  pub whole : IsWholeTree tree array keys shape
  pub keeps : AreTaken array (leaves_in shape) taken
