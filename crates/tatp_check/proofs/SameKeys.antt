-- What is said of a tree with some keys holds with other lists of the same keys.
use Rattle.std.proofs.Common.{◌≡◌, inl, inr, ℕ, List, [], ◌∷◌, Contains, Option, Some, None, refl, arith}
use Rattle.tree_index.specs.declared.tree.Tree.{Tree}
use Rattle.tree_index.specs.Shape.{Shape, Leaf, Fork}
use Rattle.tatp_check.specs.TreeFaults.{IsWholeTree, IsWrongBehind, IsWrongTree}
use Rattle.tatp_check.specs.TreeWalk.{HasWalked, HasWalkedAll, IsBareTree, IsSoundShape, ToOnes, ToZeros, Turn}

module _ (tree : Tree) (array : List ℕ) where
  sound_same : (keys others : List ℕ) → ((k : ℕ) → Contains keys k → Contains others k) → (turns : List Turn) (shape : Shape) → IsSoundShape tree array keys turns shape → IsSoundShape tree array others turns shape
  sound_same keys others there turns (Leaf at key) sound = (sound.0, record { new = sound.1.new; known = there _ sound.1.known; goes = sound.1.goes })
  sound_same keys others there turns (Fork at bit zeros ones) sound = (
    sound.0,
    sound.1,
    sound.2,
    sound_same keys others there (ToZeros at bit ∷ turns) zeros sound.3,
    sound.4,
    sound_same keys others there (ToOnes at bit zeros ∷ turns) ones sound.5,
  )

  walked_same : (keys others : List ℕ) → ((k : ℕ) → Contains keys k → Contains others k) → (turns : List Turn) → HasWalked tree array keys turns → HasWalked tree array others turns
  walked_same keys others there [] walked = tt
  walked_same keys others there (ToZeros at bit ∷ turns) walked = (walked_same keys others there turns walked.0, walked.1)
  walked_same keys others there (ToOnes at bit zeros ∷ turns) walked =
      (walked_same keys others there turns walked.0, walked.1, walked.2, sound_same keys others there (ToZeros at bit ∷ turns) zeros walked.3)

  -- a list whose elements are none is empty
  none_there : (others : List ℕ) → ((k : ℕ) → Contains others k → Contains [] k) → others ≡ []
  none_there [] back = refl
  none_there (k ∷ others) back = absurd (omega (arith, (back k (0, omega arith, refl)).1))

  bare_same : (keys others : List ℕ) → ((k : ℕ) → Contains others k → Contains keys k) → IsBareTree tree array keys → IsBareTree tree array others
  bare_same [] others back bare = (bare.0, none_there others back)
  bare_same (k ∷ keys) others back bare = let no : k ∷ keys ≡ [] = bare.1 in absurd (cc)

  module _ (keys others : List ℕ) (there : (k : ℕ) → Contains keys k → Contains others k) (back : (k : ℕ) → Contains others k → Contains keys k) where
    all_same : (shape : Option Shape) → HasWalkedAll tree array keys shape → HasWalkedAll tree array others shape
    all_same None bare = bare_same keys others back bare
    all_same (Some shape) walked = (walked.0, sound_same keys others there [] shape walked.1)

    behind_same : (turns : List Turn) (link word : ℕ) → IsWrongBehind tree array keys turns link word → IsWrongBehind tree array others turns link word
    behind_same turns link word (inl stray) = inl stray
    behind_same turns link word (inr (inl fork)) = inr (inl fork)
    behind_same turns link word (inr (inr leaf)) = inr (inr (record { new = leaf.0.new; wrong = λ both. leaf.0.wrong (back _ both.0, both.1) }, leaf.1))

    -- the first wrong word
    pub wrong_same : (word : ℕ) → IsWrongTree tree array keys word → IsWrongTree tree array others word
    wrong_same word (inl a) = inl (
      (λ bare. a.0 (bare_same others keys there bare)),
      record { turns = a.1.turns; walked = walked_same keys others there a.1.turns a.1.walked; next = behind_same a.1.turns _ word a.1.next },
    )
    wrong_same word (inr (inl a)) = inr (inl (record { shape = a.shape; walked = all_same a.shape a.walked; wrong = a.wrong }))
    wrong_same word (inr (inr a)) = inr (inr (record { shape = a.shape; walked = all_same a.shape a.walked; leaves = a.leaves; wrong = a.wrong }))

    -- a tree in which nothing is wrong
    pub whole_same : (shape : Option Shape) → IsWholeTree tree array keys shape → IsWholeTree tree array others shape
    whole_same shape whole = record { walked = all_same shape whole.walked; leaves = whole.leaves; inner = whole.inner }
