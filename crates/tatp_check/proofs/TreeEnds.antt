-- What is known behind the walk through a tree, and behind its pools.
use Rattle.std.proofs.Common.{◌≡◌, ◌≢◌, inl, inr, ℕ, List, [], AllPairs, Option, Some, None, sym, subst, arith}
use Rattle.tree_index.specs.declared.tree.Tree.{Tree}
use Rattle.tree_index.specs.Shape.{Shape, forks_in, leaves_in}
use Rattle.tatp_check.specs.declared.tree_seen.TreeSeen.{TreeSeen}
use Rattle.tatp_check.specs.PoolWalk.{AreApartMarked}
use Rattle.tatp_check.specs.Pools.{HasWholePool, IsWrongPool}
use Rattle.tatp_check.specs.Taken.{records_taken}
use Rattle.tatp_check.specs.TreeFaults.{IsWrongTree}
use Rattle.tatp_check.specs.TreeSeen.{KeepsTree, KnowsTree}
use Rattle.tatp_check.specs.TreeWalk.{HasWalkedAll}
use Rattle.tatp_check.proofs.SoundTrees.{sound_apart}

no_pairs : AllPairs (λ (x : ℕ) (y : ℕ). x ≢ y) []
no_pairs i j d less below = absurd (omega (arith, below))

module _ (tree : Tree) (array keys : List ℕ) where
  leaves_differ : (shape : Option Shape) → HasWalkedAll tree array keys shape → AllPairs (λ x y. x ≢ y) (leaves_in shape)
  leaves_differ None walked = no_pairs
  leaves_differ (Some shape) walked = (sound_apart tree array keys [] shape walked.1 no_pairs no_pairs).leaves

  forks_differ : (shape : Option Shape) → HasWalkedAll tree array keys shape → AllPairs (λ x y. x ≢ y) (forks_in shape)
  forks_differ None walked = no_pairs
  forks_differ (Some shape) walked = (sound_apart tree array keys [] shape walked.1 no_pairs no_pairs).forks

  module _ {seen : TreeSeen} (known : KnowsTree tree array keys seen) where
    leaves_are : records_taken seen.leaves.taken ≡ leaves_in known.shape
    leaves_are = known.records.leaves_taken.records_are

    forks_are : seen.forks.items ≡ forks_in known.shape
    forks_are = known.records.forks_kept

    pub leaves_apart : AreApartMarked tree.leaves (records_taken seen.leaves.taken) seen.leaves.marks
    leaves_apart = subst (λ l. AreApartMarked tree.leaves l seen.leaves.marks) (sym leaves_are) (record { marked = known.records.leaves_marked; differ = leaves_differ known.shape known.walked })

    pub forks_apart : AreApartMarked tree.inner seen.forks.items seen.inner
    forks_apart = subst (λ l. AreApartMarked tree.inner l seen.inner) (sym forks_are) (record { marked = known.records.forks_marked; differ = forks_differ known.shape known.walked })

    -- found in the leaves
    pub in_leaves : (word : ℕ) → IsWrongPool tree.leaves array (records_taken seen.leaves.taken) word → IsWrongTree tree array keys word
    in_leaves word wrong = inr (inl (record { shape = known.shape; walked = known.walked; wrong = subst (λ l. IsWrongPool tree.leaves array l word) leaves_are wrong }))

    -- nothing is wrong in the leaves, and it is found in the inner records
    pub in_forks : HasWholePool tree.leaves array (records_taken seen.leaves.taken) → (word : ℕ) → IsWrongPool tree.inner array seen.forks.items word → IsWrongTree tree array keys word
    in_forks leaves word wrong = inr (inr (record {
      shape = known.shape;
      walked = known.walked;
      leaves = subst (HasWholePool tree.leaves array) leaves_are leaves;
      wrong = subst (λ l. IsWrongPool tree.inner array l word) forks_are wrong;
    }))

    -- nothing is wrong
    pub keeps_tree : HasWholePool tree.leaves array (records_taken seen.leaves.taken) → HasWholePool tree.inner array seen.forks.items → KeepsTree tree array keys seen.leaves.taken
    keeps_tree leaves inner = record {
      shape = known.shape;
      whole = record { walked = known.walked; leaves = subst (HasWholePool tree.leaves array) leaves_are leaves; inner = subst (HasWholePool tree.inner array) forks_are inner };
      keeps = known.records.leaves_taken;
    }
