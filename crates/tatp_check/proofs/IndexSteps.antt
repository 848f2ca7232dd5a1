-- What is known of an index behind the walk through its tree.
use Rattle.std.proofs.Common.{◌≡◌, inl, inr, ℕ, ◌+◌, List, Contains, Some, None, refl, sym, subst}
use Rattle.std.proofs.lemmas.List.Sorted.{Contains-permutation, IsPermutation-sym}
use Rattle.std.specs.List.Sorted.{IsPermutation}
use Rattle.dude_base.specs.declared.sizes.Sizes.{Sizes}
use Rattle.tatp_layout.specs.Layout.{index_tree, tree_where}
use Rattle.tatp_layout.proofs.Indexes.{no_tree, with_tree}
use Rattle.tree_index.specs.declared.tree.Tree.{Tree}
use Rattle.tree_index.specs.Shape.{leaves_in}
use Rattle.tatp_check.specs.declared.taken.Taken.{Taken}
use Rattle.tatp_check.specs.IndexFaults.{FindsLeafless, IsWholeIndex, IsWrongIndex, IsWrongWhere, StandsWhere, location_keys}
use Rattle.tatp_check.specs.TreeFaults.{IsWrongTree}
use Rattle.tatp_check.specs.TreeSeen.{KeepsTree}
use Rattle.tatp_check.proofs.SameKeys.{whole_same, wrong_same}

-- the subscribers' keys in another order
pub sorted_keys : (array subscribers : List ℕ) {keys sorted slice : List ℕ} → keys ≡ location_keys array subscribers → IsPermutation keys sorted → slice ≡ sorted → IsPermutation (location_keys array subscribers) slice
sorted_keys array subscribers {keys = keys} {slice = slice} are moved is = subst (λ l. IsPermutation l slice) are (subst (λ l. IsPermutation keys l) (sym is) moved)

module _ (tree : Tree) (array subscribers sorted : List ℕ) (same : IsPermutation (location_keys array subscribers) sorted) where
  there : (k : ℕ) → Contains sorted k → Contains (location_keys array subscribers) k
  there k c = Contains-permutation sorted (location_keys array subscribers) k (IsPermutation-sym (location_keys array subscribers) sorted same) c

  back : (k : ℕ) → Contains (location_keys array subscribers) k → Contains sorted k
  back k c = Contains-permutation (location_keys array subscribers) sorted k same c

  -- found in the tree
  pub wrong_in_tree : (word : ℕ) → IsWrongTree tree array sorted word → IsWrongIndex tree array subscribers word
  wrong_in_tree word wrong = inl (wrong_same tree array sorted (location_keys array subscribers) there back word wrong)

  module _ {taken : Taken} (kept : KeepsTree tree array sorted taken) where
    -- a subscriber's key has no leaf
    pub without_leaf : (at : ℕ) → FindsLeafless array subscribers taken (Some at) → IsWrongIndex tree array subscribers (at + 6)
    without_leaf at finds = inr (record {
      shape = kept.shape;
      whole = whole_same tree array sorted (location_keys array subscribers) there back kept.shape kept.whole;
      at = at;
      leafless = finds (leaves_in kept.shape) kept.keeps;
      word_is = refl;
    })

    -- nothing is wrong
    pub whole_index : FindsLeafless array subscribers taken None → IsWholeIndex tree array subscribers
    whole_index finds = record {
      shape = kept.shape;
      whole = whole_same tree array sorted (location_keys array subscribers) there back kept.shape kept.whole;
      each = finds (leaves_in kept.shape) kept.keeps;
    }

module _ (s : Sizes) (array subscribers : List ℕ) where
  -- there is no index
  pub stands_bare : tree_where s.index (index_tree s) ≡ None → StandsWhere s array subscribers
  stands_bare none some = absurd (some (no_tree s.index (index_tree s) none))

  module _ {tree : Tree} (is : tree_where s.index (index_tree s) ≡ Some tree) where
    tree_is : index_tree s ≡ tree
    tree_is = (with_tree s.index 0 0 is).2

    -- there is one
    pub stands_indexed : IsWholeIndex tree array subscribers → StandsWhere s array subscribers
    stands_indexed whole some = subst (λ t. IsWholeIndex t array subscribers) (sym tree_is) whole

    pub wrong_indexed : (word : ℕ) → IsWrongIndex tree array subscribers word → IsWrongWhere s array subscribers word
    wrong_indexed word wrong = ((with_tree s.index 0 0 is).0, subst (λ t. IsWrongIndex t array subscribers word) (sym tree_is) wrong)
