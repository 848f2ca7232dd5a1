-- The steps of a walk through a tree: each leads to one place, and each walk is made of them.
use Rattle.std.proofs.Common.{◌≡◌, ◌⊎◌, inl, inr, ℕ, zero, suc, ◌<◌, List, [], ◌∷◌, slice_index, refl, sym, ap, ◌∙◌, subst, arith}
use Rattle.std.proofs.lemmas.Bool.{cases_eq}
use Rattle.record_heap.specs.Pool.{IsRecord}
use Rattle.tree_index.specs.declared.tree.Tree.{Tree}
use Rattle.tree_index.specs.Shape.{Shape, Leaf, Fork, link_of}
use Rattle.tatp_check.specs.TreeSeen.{Going, Progress, turned}
use Rattle.tatp_check.specs.TreeWalk.{HasWalked, IsSoundFork, IsSoundLeaf, IsSoundShape, IsSoundTurn, ToOnes, ToZeros, Turn, next_slot}

-- no word is the front of a leaf and of an inner record
abbrev pub AreParted : Tree → Type 0
AreParted tree = (at : ℕ) → IsRecord tree.leaves at → ¬ IsRecord tree.inner at

pub one_going : (a b : List Turn) → Going a ≡ Going b → a ≡ b
one_going a b same = cc

module _ (tree : Tree) (array keys : List ℕ) where
  -- the record that comes next
  abbrev pub at_next : List Turn → ℕ
  at_next turns = slice_index array (next_slot tree.root turns)

  -- a sound inner record comes next, or a sound leaf
  abbrev pub StepsTo : List Turn → Progress → Type 0
  StepsTo turns after =
      (IsSoundFork tree array turns (at_next turns) × (after ≡ Going (ToZeros (at_next turns) (slice_index array (at_next turns)) ∷ turns)))
      ⊎ (IsSoundLeaf tree array keys turns (at_next turns) × (after ≡ turned (Leaf (at_next turns) (slice_index array (at_next turns))) turns))

  -- where a walk is after so many steps
  abbrev pub StepsIn : ℕ → Progress → Type 0
  StepsIn zero after = after ≡ Going []
  StepsIn (suc n) after = (turns : List Turn) × StepsIn n (Going turns) × StepsTo turns after

  -- ---- each walk is made of steps

  -- a sound shape that comes next is walked through
  pub through_shape : (turns : List Turn) (shape : Shape) (n : ℕ) → StepsIn n (Going turns) → at_next turns ≡ link_of shape → IsSoundShape tree array keys turns shape → (m : ℕ) × StepsIn m (turned shape turns)
  through_shape turns (Leaf at key) n there link sound = (
    suc n,
    (
      turns,
      there,
      inr (
        subst (IsSoundLeaf tree array keys turns) (sym link) sound.1,
        ap (λ k. turned (Leaf at k) turns) (sym sound.0) ∙ ap (λ x. turned (Leaf x (slice_index array x)) turns) (sym link),
      ),
    ),
  )
  through_shape turns (Fork at bit zeros ones) n there link sound =
      let down : StepsTo turns (Going (ToZeros at bit ∷ turns)) = inl (
        subst (IsSoundFork tree array turns) (sym link) sound.1,
        ap (λ b. Going (ToZeros at b ∷ turns)) (sym sound.0) ∙ ap (λ x. Going (ToZeros x (slice_index array x) ∷ turns)) (sym link),
      ) in
      let left = through_shape (ToZeros at bit ∷ turns) zeros (suc n) (turns, there, down) sound.2 sound.3 in
      through_shape (ToOnes at bit zeros ∷ turns) ones left.0 left.1 sound.4 sound.5

  through_turn : (turns : List Turn) (at bit n : ℕ) → StepsIn n (Going turns) → IsSoundTurn tree array turns at bit → StepsIn (suc n) (Going (ToZeros at bit ∷ turns))
  through_turn turns at bit n there turn = (
    turns,
    there,
    inl (
      subst (IsSoundFork tree array turns) (sym turn.link) turn.sound,
      ap (λ b. Going (ToZeros at b ∷ turns)) (sym turn.bit_is) ∙ ap (λ x. Going (ToZeros x (slice_index array x) ∷ turns)) (sym turn.link),
    ),
  )

  pub through_turns : (turns : List Turn) → HasWalked tree array keys turns → (n : ℕ) × StepsIn n (Going turns)
  through_turns [] walked = (0, refl)
  through_turns (ToZeros at bit ∷ turns) walked =
      let before = through_turns turns walked.0 in (suc before.0, through_turn turns at bit before.0 before.1 walked.1)
  through_turns (ToOnes at bit zeros ∷ turns) walked =
      let before = through_turns turns walked.0 in
      through_shape (ToZeros at bit ∷ turns) zeros (suc before.0) (through_turn turns at bit before.0 before.1 walked.1) walked.2 walked.3

  -- ---- a step leads to one place

  module _ (parted : AreParted tree) where
    one_step : (turns : List Turn) (a b : Progress) → StepsTo turns a → StepsTo turns b → a ≡ b
    one_step turns a b (inl p) (inl q) = p.1 ∙ sym q.1
    one_step turns a b (inl p) (inr q) = absurd (parted (at_next turns) q.0.new.place p.0.new.place)
    one_step turns a b (inr p) (inl q) = absurd (parted (at_next turns) p.0.new.place q.0.new.place)
    one_step turns a b (inr p) (inr q) = p.1 ∙ sym q.1

    pub one_place : (n : ℕ) (a b : Progress) → StepsIn n a → StepsIn n b → a ≡ b
    one_place zero a b p q = p ∙ sym q
    one_place (suc n) a b p q =
        let same : p.0 ≡ q.0 = one_going p.0 q.0 (one_place n (Going p.0) (Going q.0) p.1 q.1) in
        one_step q.0 a b (subst (λ t. StepsTo t a) same p.2) q.2

    -- a walk that goes further is one that makes a step
    pub goes_on : (m n : ℕ) (a b : Progress) → m < n → StepsIn m a → StepsIn n b → (turns : List Turn) × (a ≡ Going turns) × ((c : Progress) × StepsTo turns c)
    goes_on m zero a b less p q = absurd (omega (arith, less))
    goes_on m (suc n) a b less p q = elim (cases_eq m n) [
      | inl same ↦ (q.0, one_place n a (Going q.0) (subst (λ k. StepsIn k a) same p) q.1, (b, q.2))
      | inr other ↦ goes_on m n a (Going q.0) (omega (arith, less, other)) p q.1
    ]
