-- Trees that may be used, by the runs of their words.
use Rattle.std.proofs.Common.{ℕ, ◌+◌, ◌*◌, ◌<◌, ◌≤◌, inl, inr, arith}
use Rattle.std.proofs.Math.Nat.{mul-le-mul_left}
use Rattle.record_heap.specs.declared.pool.Pool.{Pool}
use Rattle.record_heap.specs.Pool.{IsRecord}
use Rattle.record_heap.proofs.Pools.{fits_behind}
use Rattle.tree_index.specs.declared.tree.Tree.{Tree}
use Rattle.tree_index.specs.Tree.{FitsTree}

-- a record lies within the run of all records
run_of : {pool : Pool} {at : ℕ} → IsRecord pool at → (pool.first ≤ at) × (at + pool.size ≤ pool.first + pool.size * pool.count)
run_of {pool} r =
    let step : pool.size * (r.index + 1) ≤ pool.size * pool.count = mul-le-mul_left pool.size (omega (arith, r.below)) in
    (omega (arith, r.is), omega (arith, r.is, step))

-- The word of the root lies between the leaves' header and their records, the inner records' header behind these, and the
-- inner records behind it.
pub tree_fits : (tree : Tree) (n : ℕ) → tree.leaves.base + 2 ≤ tree.root → tree.root < tree.leaves.first → 4 ≤ tree.leaves.size → tree.leaves.first + tree.leaves.size * tree.leaves.count ≤ tree.inner.base
    → tree.inner.base + 2 ≤ tree.inner.first → 4 ≤ tree.inner.size → tree.inner.first + tree.inner.size * tree.inner.count ≤ n → FitsTree tree n
tree_fits tree n root_behind root_before leaf_size leaves_end inner_behind inner_size inner_end = record {
  leaves = fits_behind tree.leaves n (omega (arith, root_behind, root_before)) (omega (arith, leaf_size)) (omega (arith, leaves_end, inner_behind, inner_end));
  inner = fits_behind tree.inner n inner_behind (omega (arith, inner_size)) inner_end;
  leaf_size = leaf_size;
  inner_size = inner_size;
  root = omega (arith, root_before, leaves_end, inner_behind, inner_end);
  root_leaves = record { header = inl root_behind; records = λ at r. inr (omega (arith, root_before, (run_of r).0)) };
  root_inner = record { header = inr (omega (arith, root_before, leaves_end)); records = λ at r. inr (omega (arith, root_before, leaves_end, inner_behind, (run_of r).0)) };
  headers = record { header = inl (omega (arith, root_behind, root_before, leaves_end)); records = λ at r. inl (omega (arith, leaves_end, (run_of r).1)) };
  records = λ at r. record {
    header = inl (omega (arith, root_behind, root_before, leaves_end, inner_behind, (run_of r).0));
    records = λ x rx. inl (omega (arith, leaves_end, inner_behind, (run_of rx).1, (run_of r).0));
  };
}
