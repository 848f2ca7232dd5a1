-- A home while the keys of its subscribers are inserted into the index.
use Rattle.std.proofs.Common.{◌≡◌, ◌≢◌, ℕ, suc, ◌+◌, ◌-◌, ◌*◌, ◌%◌, ◌^◌, ◌<◌, ◌≤◌, List, Option, Some, IfSome, slice_index, sym, ap, subst, arith}
use Rattle.dude_base.specs.declared.limits.TheConstants.{PAGE}
use Rattle.dude_base.specs.declared.sizes.Sizes.{Sizes}
use Rattle.tatp_model.specs.declared.sub_row.SubRow.{SubRow}
use Rattle.tatp_model.specs.Population.{subscriber_at}
use Rattle.tree_index.specs.declared.tree.Tree.{Tree}
use Rattle.tree_index.specs.declared.tree_put.TreePut.{TreePut}
use Rattle.tree_index.specs.Tree.{FitsTree, InsertsAll, StaysOutside}
use Rattle.tatp_layout.specs.Layout.{index_tree, leaf_base, tree_from}
use Rattle.tatp_layout.proofs.Indexes.{before_index}
use Rattle.tatp_rows.specs.Filling.{Finishes}
use Rattle.tatp_rows.specs.Indexed.{IsIndexed}
use Rattle.tatp_rows.specs.Populated.{IsPopulatedTo, nth_key}
use Rattle.tatp_rows.proofs.Beside.{population_stays}
use Rattle.tatp_rows.proofs.Indexed.{front_kept, indexed_more, indexed_none, outside_more}

-- the tree that there is may be used over the words
pub fits_in : {n : ℕ} (r : Option Tree) (tree : Tree) → r ≡ Some tree → IfSome r (λ t. FitsTree t n) → FitsTree tree n
fits_in {n} r tree is fits = let P : Option Tree → Type 0 = λ o. IfSome o (λ t. FitsTree t n) in subst P is fits

freed_from : (base subscribers : ℕ) {n : ℕ} {a b c : List ℕ} → FitsTree (tree_from base subscribers) n → Finishes (tree_from base subscribers).leaves 0 a b → Finishes (tree_from base subscribers).inner 0 b c → ((i : ℕ) → base ≤ i → slice_index a i ≡ 0)
    → IsIndexed (tree_from base subscribers) nth_key 0 c × ((i : ℕ) → i < base → slice_index c i ≡ slice_index a i)
freed_from base subscribers fits leaves inner zeros = (indexed_none fits leaves inner nth_key (omega arith) zeros, front_kept fits leaves inner (omega arith) (omega arith) (omega arith))

-- the records of both pools were freed
pub freed : (s : Sizes) {tree : Tree} {n : ℕ} {a b c : List ℕ} → index_tree s ≡ tree → FitsTree tree n → Finishes tree.leaves 0 a b → Finishes tree.inner 0 b c → ((i : ℕ) → leaf_base s ≤ i → slice_index a i ≡ 0)
    → IsIndexed (index_tree s) nth_key 0 c × ((i : ℕ) → i < leaf_base s → slice_index c i ≡ slice_index a i)
freed s {tree} {n} {a} {b} {c} is fits first second zeros =
    let back = sym is in
    freed_from (leaf_base s) s.subscribers (subst (λ t. FitsTree t n) back fits) (subst (λ (t : Tree). Finishes t.leaves 0 a b) back first) (subst (λ (t : Tree). Finishes t.inner 0 b c) back second) zeros

-- each subscriber's key is above the one before
rise : (k : ℕ) → nth_key k < nth_key (suc k)
rise k = omega arith

-- the key as it is made of a subscriber's row
pub key_is : (s key : ℕ) (row : SubRow) → 1 ≤ s → s < 2 ^ 31 → row ≡ subscriber_at s → key ≡ row.vlr % 2 ^ 32 * 2 ^ 32 + row.s_id % 2 ^ 32 → key ≡ nth_key (s - 1)
key_is s key row low small is made =
    let vlr : row.vlr ≡ 1000000 + s = ap (λ (r : SubRow). r.vlr) is in
    let id : row.s_id ≡ s = ap (λ (r : SubRow). r.s_id) is in
    omega (arith, made, vlr, id, low, small)

-- one key more
pub populated_more : {s : Sizes} {tree : Tree} {a b : List ℕ} (n key : ℕ) (put : TreePut) → index_tree s ≡ tree → FitsTree tree (s.pages * PAGE) → s.index ≢ 0 → n < s.subscribers → key ≡ nth_key n → IsPopulatedTo s n a → InsertsAll tree key a b put → IsPopulatedTo s (n + 1) b
populated_more {s} {tree} {a} {b} n key put is fits some room key_same before inserts =
    let here = subst (λ t. FitsTree t (s.pages * PAGE)) (sym is) fits in
    let puts = subst (λ t. InsertsAll t (nth_key n) a b put) (sym is) (subst (λ k. InsertsAll tree k a b put) key_same inserts) in
    let indexed = before.index some in
    let stays : StaysOutside (index_tree s) a b = outside_more here rise room (omega (arith, room)) indexed put puts in
    let next : suc n ≡ n + 1 = omega arith in
    record {
      tables = population_stays stays.size (λ i front. stays.others i (before_index s i (front some))) before.tables;
      index = λ _. subst (λ m. IsIndexed (index_tree s) nth_key m b) next (indexed_more here rise room (omega (arith, room)) indexed put puts);
    }
