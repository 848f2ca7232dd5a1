-- The first wrong word of a tree is one, and there is none where nothing is wrong.
use Rattle.std.proofs.Common.{◌≡◌, inl, inr, ℕ, ◌<◌, List, [], Option, Some, None, refl, sym, ap, ◌∙◌, subst, arith}
use Rattle.std.proofs.lemmas.Bool.{cases_order}
use Rattle.record_heap.specs.Pool.{IsRecord}
use Rattle.tree_index.specs.declared.tree.Tree.{Tree}
use Rattle.tree_index.specs.Shape.{Shape, Leaf, Fork, forks_in, leaves_in, link_of}
use Rattle.tatp_check.specs.Pools.{HasWholePool, IsWrongPool}
use Rattle.tatp_check.specs.TreeFaults.{IsWholeTree, IsWrongBehind, IsWrongInTree, IsWrongOnWalk, IsWrongTree}
use Rattle.tatp_check.specs.TreeSeen.{Ended, Going, Progress}
use Rattle.tatp_check.specs.TreeWalk.{HasWalkedAll, IsSoundShape, Turn, next_slot}
use Rattle.tatp_check.proofs.OnePool.{one_in_pool, right_pool}
use Rattle.tatp_check.proofs.TreeSteps.{AreParted, StepsIn, StepsTo, at_next, goes_on, one_going, one_place, through_shape, through_turns}

module _ (tree : Tree) (array keys : List ℕ) (parted : AreParted tree) (no_leaf : ¬ IsRecord tree.leaves 0) (no_fork : ¬ IsRecord tree.inner 0) where
  -- ---- the walk

  -- where a walk makes a step, nothing is wrong
  not_wrong : (turns : List Turn) (after : Progress) (word : ℕ) → StepsTo tree array keys turns after → ¬ IsWrongBehind tree array keys turns (next_slot tree.root turns) word
  not_wrong turns after word (inl fork) (inl stray) = stray.0.no_fork fork.0.new
  not_wrong turns after word (inr leaf) (inl stray) = stray.0.no_leaf leaf.0.new
  not_wrong turns after word (inl fork) (inr (inl wrong)) = omega (arith, fork.0.falls, wrong.0.high)
  not_wrong turns after word (inr leaf) (inr (inl wrong)) = parted (at_next tree array keys turns) leaf.0.new.place wrong.0.new.place
  not_wrong turns after word (inl fork) (inr (inr wrong)) = parted (at_next tree array keys turns) wrong.0.new.place fork.0.new.place
  not_wrong turns after word (inr leaf) (inr (inr wrong)) = wrong.0.wrong (leaf.0.known, leaf.0.goes)

  -- what is wrong next is one word
  one_next : (turns : List Turn) (link v w : ℕ) → IsWrongBehind tree array keys turns link v → IsWrongBehind tree array keys turns link w → v ≡ w
  one_next turns link v w (inl a) (inl b) = a.1 ∙ sym b.1
  one_next turns link v w (inl a) (inr (inl b)) = absurd (a.0.no_fork b.0.new)
  one_next turns link v w (inl a) (inr (inr b)) = absurd (a.0.no_leaf b.0.new)
  one_next turns link v w (inr (inl a)) (inl b) = absurd (b.0.no_fork a.0.new)
  one_next turns link v w (inr (inl a)) (inr (inl b)) = a.1 ∙ sym b.1
  one_next turns link v w (inr (inl a)) (inr (inr b)) = a.1 ∙ sym b.1
  one_next turns link v w (inr (inr a)) (inl b) = absurd (b.0.no_leaf a.0.new)
  one_next turns link v w (inr (inr a)) (inr (inl b)) = a.1 ∙ sym b.1
  one_next turns link v w (inr (inr a)) (inr (inr b)) = a.1 ∙ sym b.1

  -- a walk that goes further than to these turns finds nothing wrong there
  stuck : (turns : List Turn) (m n : ℕ) (after : Progress) (word : ℕ) → m < n → StepsIn tree array keys m (Going turns) → StepsIn tree array keys n after → ¬ IsWrongBehind tree array keys turns (next_slot tree.root turns) word
  stuck turns m n after word less here there wrong =
      let on = goes_on tree array keys parted m n (Going turns) after less here there in
      let same : turns ≡ on.0 = one_going turns on.0 on.1 in
      not_wrong on.0 on.2.0 word on.2.1 (subst (λ t. IsWrongBehind tree array keys t (next_slot tree.root t) word) same wrong)

  one_in_tree : (v w : ℕ) → IsWrongOnWalk tree array keys v → IsWrongOnWalk tree array keys w → v ≡ w
  one_in_tree v w a b =
      let p = through_turns tree array keys a.turns a.walked in
      let q = through_turns tree array keys b.turns b.walked in
      elim (cases_order p.0 q.0) [
        | inl same ↦
            let turns : a.turns ≡ b.turns = one_going a.turns b.turns (one_place tree array keys parted q.0 (Going a.turns) (Going b.turns) (subst (λ n. StepsIn tree array keys n (Going a.turns)) same p.1) q.1) in
            one_next b.turns (next_slot tree.root b.turns) v w (subst (λ t. IsWrongBehind tree array keys t (next_slot tree.root t) v) turns a.next) b.next
        | inr order ↦ elim order [
          | inl sooner ↦ absurd (stuck a.turns p.0 q.0 (Going b.turns) v sooner p.1 q.1 a.next)
          | inr later ↦ absurd (stuck b.turns q.0 p.0 (Going a.turns) w later q.1 p.1 b.next)
        ]
      ]

  -- a walk through the whole
  to_end : (shape : Shape) → HasWalkedAll tree array keys (Some shape) → (n : ℕ) × StepsIn tree array keys n (Ended shape)
  to_end shape walked = through_shape tree array keys [] shape 0 refl walked.0 walked.1

  never_ends : (shape : Shape) (turns : List Turn) → Ended shape ≡ Going turns → ⊥
  never_ends shape turns same = cc

  -- where the whole was walked through, nothing is wrong on the way
  right_walk : (shape : Option Shape) → HasWalkedAll tree array keys shape → (w : ℕ) → ¬ IsWrongInTree tree array keys w
  right_walk None bare w b = b.0 bare
  right_walk (Some shape) walked w (some, b) =
      let p = to_end shape walked in
      let q = through_turns tree array keys b.turns b.walked in
      elim (cases_order p.0 q.0) [
        | inl same ↦ never_ends shape b.turns (one_place tree array keys parted q.0 (Ended shape) (Going b.turns) (subst (λ n. StepsIn tree array keys n (Ended shape)) same p.1) q.1)
        | inr order ↦ elim order [
          | inl sooner ↦ let on = goes_on tree array keys parted p.0 q.0 (Ended shape) (Going b.turns) sooner p.1 q.1 in never_ends shape on.0 on.1
          | inr later ↦ stuck b.turns q.0 p.0 (Ended shape) w later q.1 p.1 b.next
        ]
      ]

  some_link : (shape : Shape) (turns : List Turn) → IsSoundShape tree array keys turns shape → link_of shape ≡ 0 → ⊥
  some_link (Leaf at key) turns sound none = no_leaf (subst (IsRecord tree.leaves) none sound.1.new.place)
  some_link (Fork at bit zeros ones) turns sound none = no_fork (subst (IsRecord tree.inner) none sound.1.new.place)

  one_end : (a b : Shape) → Ended a ≡ Ended b → a ≡ b
  one_end a b same = cc

  -- the whole is one shape
  pub one_shape : (a b : Option Shape) → HasWalkedAll tree array keys a → HasWalkedAll tree array keys b → a ≡ b
  one_shape None None p q = refl
  one_shape None (Some b) p q = absurd (some_link b [] q.1 (sym q.0 ∙ p.0))
  one_shape (Some a) None p q = absurd (some_link a [] p.1 (sym p.0 ∙ q.0))
  one_shape (Some a) (Some b) p q =
      let m = to_end a p in
      let n = to_end b q in
      elim (cases_order m.0 n.0) [
        | inl same ↦ ap Some (one_end a b (one_place tree array keys parted n.0 (Ended a) (Ended b) (subst (λ k. StepsIn tree array keys k (Ended a)) same m.1) n.1))
        | inr order ↦ elim order [
          | inl sooner ↦ let on = goes_on tree array keys parted m.0 n.0 (Ended a) (Ended b) sooner m.1 n.1 in absurd (never_ends a on.0 on.1)
          | inr later ↦ let on = goes_on tree array keys parted n.0 m.0 (Ended b) (Ended a) later n.1 m.1 in absurd (never_ends b on.0 on.1)
        ]
      ]

  -- ---- the pools

  right_leaves : (a b : Option Shape) (w : ℕ) → HasWalkedAll tree array keys a → HasWalkedAll tree array keys b → HasWholePool tree.leaves array (leaves_in a) → ¬ IsWrongPool tree.leaves array (leaves_in b) w
  right_leaves a b w p q whole wrong =
      right_pool tree.leaves array no_leaf (leaves_in a) whole.free whole.whole w (subst (λ s. IsWrongPool tree.leaves array (leaves_in s) w) (one_shape b a q p) wrong)

  -- the first wrong word is one
  pub one_wrong_tree : (v w : ℕ) → IsWrongTree tree array keys v → IsWrongTree tree array keys w → v ≡ w
  one_wrong_tree v w (inl a) (inl b) = one_in_tree v w a.1 b.1
  one_wrong_tree v w (inl a) (inr (inl b)) = absurd (right_walk b.shape b.walked v a)
  one_wrong_tree v w (inl a) (inr (inr b)) = absurd (right_walk b.shape b.walked v a)
  one_wrong_tree v w (inr (inl a)) (inl b) = absurd (right_walk a.shape a.walked w b)
  one_wrong_tree v w (inr (inl a)) (inr (inl b)) =
      one_in_pool tree.leaves array no_leaf (leaves_in b.shape) v w (subst (λ s. IsWrongPool tree.leaves array (leaves_in s) v) (one_shape a.shape b.shape a.walked b.walked) a.wrong) b.wrong
  one_wrong_tree v w (inr (inl a)) (inr (inr b)) = absurd (right_leaves b.shape a.shape v b.walked a.walked b.leaves a.wrong)
  one_wrong_tree v w (inr (inr a)) (inl b) = absurd (right_walk a.shape a.walked w b)
  one_wrong_tree v w (inr (inr a)) (inr (inl b)) = absurd (right_leaves a.shape b.shape w a.walked b.walked a.leaves b.wrong)
  one_wrong_tree v w (inr (inr a)) (inr (inr b)) =
      one_in_pool tree.inner array no_fork (forks_in b.shape) v w (subst (λ s. IsWrongPool tree.inner array (forks_in s) v) (one_shape a.shape b.shape a.walked b.walked) a.wrong) b.wrong

  -- where nothing is wrong there is none
  pub none_wrong_tree : (shape : Option Shape) → IsWholeTree tree array keys shape → (w : ℕ) → ¬ IsWrongTree tree array keys w
  none_wrong_tree shape whole w (inl b) = right_walk shape whole.walked w b
  none_wrong_tree shape whole w (inr (inl b)) = right_leaves shape b.shape w whole.walked b.walked whole.leaves b.wrong
  none_wrong_tree shape whole w (inr (inr b)) =
      right_pool tree.inner array no_fork (forks_in shape) whole.inner.free whole.inner.whole w (subst (λ s. IsWrongPool tree.inner array (forks_in s) w) (one_shape b.shape shape b.walked whole.walked) b.wrong)
