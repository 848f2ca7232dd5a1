-- Where the tree of an index lies, and its keys by records and by rows.
use Rattle.std.proofs.Common.{◌≡◌, ℕ, ◌+◌, ◌*◌, ◌≤◌, List, map, Contains, sym, subst, arith}
use Rattle.dude_base.specs.Home.{in_whole_lines}
use Rattle.dude_base.specs.declared.sizes.Sizes.{Sizes}
use Rattle.record_heap.specs.Pool.{IsRecord}
use Rattle.tatp_layout.specs.Decoding.{subscriber_in}
use Rattle.tatp_layout.specs.Index.{location_key}
use Rattle.tatp_layout.specs.Layout.{index_tree}
use Rattle.tree_index.specs.Tree.{FitsTree}
use Rattle.tree_index.proofs.Fits.{tree_fits}
use Rattle.tree_index.proofs.Walks.{leaf_apart}
use Rattle.tatp_check.specs.IndexFaults.{location_keys}
use Rattle.tatp_check.proofs.Mapped.{contains_map, contains_mapped, map_map}
use Rattle.tatp_check.proofs.TreeSteps.{AreParted}

-- the word behind the tree of an index
abbrev pub index_end : Sizes → ℕ
index_end s = (index_tree s).inner.first + (index_tree s).inner.size * (index_tree s).inner.count

pub tree_fits_behind : (s : Sizes) → FitsTree (index_tree s) (index_end s)
tree_fits_behind s =
    let up : s.subscribers * 4 ≤ in_whole_lines (s.subscribers * 4) = omega arith in
    tree_fits (index_tree s) (index_end s) (omega arith) (omega arith) (omega arith) (omega (arith, up)) (omega arith) (omega arith) (omega arith)

pub index_parted : (s : Sizes) → AreParted (index_tree s)
index_parted s = leaf_apart (tree_fits_behind s)

pub no_leaf : (s : Sizes) → ¬ IsRecord (index_tree s).leaves 0
no_leaf s r = omega (arith, (tree_fits_behind s).leaves.not_at_zero 0 r)

pub no_fork : (s : Sizes) → ¬ IsRecord (index_tree s).inner 0
no_fork s r = omega (arith, (tree_fits_behind s).inner.not_at_zero 0 r)

-- the keys of some subscribers, and those of the rows of others that have the same records
module _ (array ordered subscribers : List ℕ) where
  rows_are : map location_key (map (subscriber_in array) ordered) ≡ location_keys array ordered
  rows_are = map_map location_key (subscriber_in array) ordered

  pub keys_there : ((x : ℕ) → Contains subscribers x → Contains ordered x) → (k : ℕ) → Contains (location_keys array subscribers) k → Contains (map location_key (map (subscriber_in array) ordered)) k
  keys_there there k c =
      let from = contains_mapped (λ at. location_key (subscriber_in array at)) subscribers k c in
      subst (λ l. Contains l k) (sym rows_are) (subst (Contains (location_keys array ordered)) from.2 (contains_map (λ at. location_key (subscriber_in array at)) ordered from.0 (there from.0 from.1)))

  pub keys_back : ((x : ℕ) → Contains ordered x → Contains subscribers x) → (k : ℕ) → Contains (map location_key (map (subscriber_in array) ordered)) k → Contains (location_keys array subscribers) k
  keys_back back k c =
      let from = contains_mapped (λ at. location_key (subscriber_in array at)) ordered k (subst (λ l. Contains l k) rows_are c) in
      subst (Contains (location_keys array subscribers)) from.2 (contains_map (λ at. location_key (subscriber_in array at)) subscribers from.0 (back from.0 from.1))
