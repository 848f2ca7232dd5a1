-- An index in which nothing is wrong has just the subscribers' keys, and the other way round.
use Rattle.std.proofs.Common.{◌≡◌, ◌≢◌, inl, inr, ℕ, ◌+◌, ◌<◌, List, [], ◌∷◌, ◌++◌, length, map, take, drop, All, AllPairs, Any, Contains, Option, Some, None, slice_index, get_or, refl, sym, ap, ap₂, ◌∙◌, subst, arith}
use Rattle.std.proofs.lemmas.Bool.{cases_order}
use Rattle.std.proofs.lemmas.List.{drop_more, get_or_at, get_or_append_left, take-append-drop}
use Rattle.std.proofs.lemmas.List.Elements.{All-contains, All-get_or, Contains-append_right, Contains-get_or}
use Rattle.std.proofs.lemmas.List.Sorted.{Contains-permutation, IsPermutation-sym, length_permutation}
use Rattle.std.specs.List.Sorted.{IsPermutation}
use Rattle.record_heap.specs.Pool.{IsRecord}
use Rattle.tatp_layout.specs.Decoding.{subscriber_in}
use Rattle.tatp_layout.specs.Index.{HasKeys, location_key}
use Rattle.tree_index.specs.declared.tree.Tree.{Tree}
use Rattle.tree_index.specs.Shape.{Shape, Leaf, Fork, Holds, keys_in, keys_of, leaves_in, leaves_of}
use Rattle.tree_index.specs.Tree.{FitsTree}
use Rattle.tatp_check.specs.IndexFaults.{HasLeaf, IsLeafless, IsWholeIndex, IsWrongIndex, location_keys}
use Rattle.tatp_check.specs.TreeWalk.{HasWalkedAll}
use Rattle.tatp_check.proofs.LawfulTable.{distinct_from_pairs, same_elements}
use Rattle.tatp_check.proofs.Mapped.{contains_map, contains_mapped}
use Rattle.tatp_check.proofs.OneTree.{none_wrong_tree, one_shape, one_wrong_tree}
use Rattle.tatp_check.proofs.SoundTrees.{lawful_whole_tree, sound_holds, whole_differ, whole_known, whole_lawful}
use Rattle.tatp_check.proofs.TreeSteps.{AreParted}

-- ---- the keys of leaves

map_append : {X Y : Type 0} (f : X → Y) (xs ys : List X) → map f (xs ++ ys) ≡ map f xs ++ map f ys
map_append f [] ys = refl
map_append f (x ∷ xs) ys = ap (λ l. f x ∷ l) (map_append f xs ys)

keys_of_leaves : (array : List ℕ) (shape : Shape) → Holds array shape → keys_of shape ≡ map (λ x. slice_index array x) (leaves_of shape)
keys_of_leaves array (Leaf at key) holds = ap (λ k. k ∷ []) (sym holds)
keys_of_leaves array (Fork at bit zeros ones) holds =
    ap₂ (λ a b. a ++ b) (keys_of_leaves array zeros holds.3) (keys_of_leaves array ones holds.4) ∙ sym (map_append (λ x. slice_index array x) (leaves_of zeros) (leaves_of ones))

module _ (tree : Tree) (array keys : List ℕ) where
  keys_walked : (shape : Option Shape) → HasWalkedAll tree array keys shape → keys_in shape ≡ map (λ x. slice_index array x) (leaves_in shape)
  keys_walked None walked = refl
  keys_walked (Some shape) walked = keys_of_leaves array shape (sound_holds tree array keys [] shape walked.1)

  -- a leaf has the key where it is one of the tree's
  pub leaf_with : (shape : Option Shape) → HasWalkedAll tree array keys shape → (key : ℕ) → Contains (keys_in shape) key → Any (λ x. slice_index array x ≡ key) (leaves_in shape)
  leaf_with shape walked key c =
      let there = contains_mapped (λ x. slice_index array x) (leaves_in shape) key (subst (λ l. Contains l key) (keys_walked shape walked) c) in
      (there.1.0, there.0, there.1.1, there.1.2, there.2)

  pub with_leaf : (shape : Option Shape) → HasWalkedAll tree array keys shape → (key : ℕ) → Any (λ x. slice_index array x ≡ key) (leaves_in shape) → Contains (keys_in shape) key
  with_leaf shape walked key any =
      subst (λ l. Contains l key) (sym (keys_walked shape walked))
      (subst (Contains (map (λ x. slice_index array x) (leaves_in shape))) any.4 (contains_map (λ x. slice_index array x) (leaves_in shape) any.1 (any.0, any.2, any.3)))

-- ---- the first subscriber without a leaf

module _ (array leaves subscribers : List ℕ) where
  -- the one at this place
  pub leafless_at : (i at : ℕ) → i < length subscribers → at ≡ get_or subscribers i 0 → All (HasLeaf array leaves) (take i subscribers) → ¬ HasLeaf array leaves at → IsLeafless array leaves subscribers at
  leafless_at i at inside is others missing = record {
    before = take i subscribers;
    behind = drop (i + 1) subscribers;
    split = sym (take-append-drop i subscribers) ∙ ap (λ l. take i subscribers ++ l) (drop_more subscribers i 0 inside ∙ ap (λ x. x ∷ drop (i + 1) subscribers) (sym is));
    others = others;
    missing = missing;
  }

  -- it is one of them
  pub leafless_there : (at : ℕ) → IsLeafless array leaves subscribers at → Contains subscribers at
  leafless_there at a = subst (λ l. Contains l at) (sym a.split) (Contains-append_right a.before (at ∷ a.behind) at (0, omega arith, refl))

  -- there is none where each has one
  pub none_leafless : All (HasLeaf array leaves) subscribers → (at : ℕ) → ¬ IsLeafless array leaves subscribers at
  none_leafless each at a = a.missing (All-contains (HasLeaf array leaves) subscribers at each (leafless_there at a))

  before_there : (x y : ℕ) (a : IsLeafless array leaves subscribers x) (b : IsLeafless array leaves subscribers y) → length a.before < length b.before → ⊥
  before_there x y a b sooner =
      let lists : a.before ++ x ∷ a.behind ≡ b.before ++ y ∷ b.behind = sym a.split ∙ b.split in
      let is : get_or b.before (length a.before) 0 ≡ x =
      sym (get_or_append_left b.before (y ∷ b.behind) 0 (length a.before) sooner) ∙ sym (ap (λ l. get_or l (length a.before) 0) lists) ∙ get_or_at a.before x a.behind 0 (length a.before) refl in
      a.missing (subst (HasLeaf array leaves) is (All-get_or (HasLeaf array leaves) b.before (length a.before) 0 sooner b.others))

  -- it is one
  pub one_leafless : (x y : ℕ) → IsLeafless array leaves subscribers x → IsLeafless array leaves subscribers y → x ≡ y
  one_leafless x y a b = elim (cases_order (length a.before) (length b.before)) [
    | inl level ↦ sym (get_or_at a.before x a.behind 0 (length a.before) refl) ∙ ap (λ l. get_or l (length a.before) 0) (sym a.split ∙ b.split) ∙ get_or_at b.before y b.behind 0 (length a.before) (sym level)
    | inr order ↦ elim order [ inl sooner ↦ absurd (before_there x y a b sooner) | inr later ↦ absurd (before_there y x b a later) ]
  ]

-- ---- the first wrong word of an index

module _ (tree : Tree) (array subscribers : List ℕ) (parted : AreParted tree) (no_leaf : ¬ IsRecord tree.leaves 0) (no_fork : ¬ IsRecord tree.inner 0) where
  -- it is one
  pub one_in_index : (v w : ℕ) → IsWrongIndex tree array subscribers v → IsWrongIndex tree array subscribers w → v ≡ w
  one_in_index v w (inl a) (inl b) = one_wrong_tree tree array (location_keys array subscribers) parted no_leaf no_fork v w a b
  one_in_index v w (inl a) (inr b) = absurd (none_wrong_tree tree array (location_keys array subscribers) parted no_leaf no_fork b.shape b.whole v a)
  one_in_index v w (inr a) (inl b) = absurd (none_wrong_tree tree array (location_keys array subscribers) parted no_leaf no_fork a.shape a.whole w b)
  one_in_index v w (inr a) (inr b) =
      let same = one_shape tree array (location_keys array subscribers) parted no_leaf no_fork a.shape b.shape a.whole.walked b.whole.walked in
      let at = one_leafless array (leaves_in b.shape) subscribers a.at b.at (subst (λ s. IsLeafless array (leaves_in s) subscribers a.at) same a.leafless) b.leafless in
      a.word_is ∙ ap (λ x. x + 6) at ∙ sym b.word_is

  -- and there is none where nothing is wrong
  pub none_in_index : IsWholeIndex tree array subscribers → (w : ℕ) → ¬ IsWrongIndex tree array subscribers w
  none_in_index whole w (inl b) = none_wrong_tree tree array (location_keys array subscribers) parted no_leaf no_fork whole.shape whole.whole w b
  none_in_index whole w (inr b) =
      let same = one_shape tree array (location_keys array subscribers) parted no_leaf no_fork whole.shape b.shape whole.whole.walked b.whole.walked in
      none_leafless array (leaves_in b.shape) subscribers (subst (λ s. All (HasLeaf array (leaves_in s)) subscribers) same whole.each) b.at b.leafless

-- ---- an index and its keys

-- of which `row_keys` is another list
module _ (tree : Tree) (array subscribers row_keys : List ℕ) {n : ℕ} (fits : FitsTree tree n) (there : (k : ℕ) → Contains (location_keys array subscribers) k → Contains row_keys k) (back : (k : ℕ) → Contains row_keys k → Contains (location_keys array subscribers) k) where
  -- where nothing is wrong the tree has them, each once
  pub index_has : AllPairs (λ x y. x ≢ y) row_keys → IsWholeIndex tree array subscribers → HasKeys tree array row_keys
  index_has differ whole =
      let walked = whole.whole.walked in
      let all = location_keys array subscribers in
      record {
        shape = whole.shape;
        free_leaves = whole.whole.leaves.free;
        free_inner = whole.whole.inner.free;
        lawful = whole_lawful tree array all fits whole.shape whole.whole;
        same = same_elements (keys_in whole.shape) row_keys
            (distinct_from_pairs (keys_in whole.shape) (whole_differ tree array all whole.shape walked)) (distinct_from_pairs row_keys differ)
            (λ k c. there k (whole_known tree array all whole.shape walked k c))
            (λ k c.
            let from = contains_mapped (λ at. location_key (subscriber_in array at)) subscribers k (back k c) in
            subst (Contains (keys_in whole.shape)) from.2 (with_leaf tree array all whole.shape walked (location_key (subscriber_in array from.0)) (All-contains (HasLeaf array (leaves_in whole.shape)) subscribers from.0 whole.each from.1)));
      }

  no_keys : (keys others : List ℕ) → IsPermutation [] keys → ((k : ℕ) → Contains others k → Contains keys k) → others ≡ []
  no_keys keys [] same known = refl
  no_keys keys (k ∷ others) same known = let c = known k (0, omega arith, refl) in absurd (omega (arith, c.1, length_permutation [] keys same))

  -- where the tree has them, each once, nothing is wrong
  pub keys_whole : HasKeys tree array row_keys → IsWholeIndex tree array subscribers
  keys_whole has =
      let all = location_keys array subscribers in
      let whole = lawful_whole_tree tree array all fits has.shape has.free_leaves has.free_inner has.lawful
      (λ k c. back k (Contains-permutation (keys_in has.shape) row_keys k has.same c))
      (λ none. no_keys row_keys all (subst (λ s. IsPermutation (keys_in s) row_keys) none has.same) there) in
      record {
        shape = has.shape;
        whole = whole;
        each = λ k d below.
            let at = get_or subscribers k d in
            let key = there (location_key (subscriber_in array at)) (contains_map (λ x. location_key (subscriber_in array x)) subscribers at (Contains-get_or subscribers k d below)) in
            leaf_with tree array all has.shape whole.walked (location_key (subscriber_in array at)) (Contains-permutation row_keys (keys_in has.shape) (location_key (subscriber_in array at)) (IsPermutation-sym (keys_in has.shape) row_keys has.same) key);
      }
