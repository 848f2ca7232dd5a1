-- What `insert` does to a tree that has no key.
use Rattle.std.proofs.Common.{◌≡◌, ◌≢◌, ℕ, inl, inr, List, [], ◌∷◌, length, length-set, Contains, Option, Some, None, slice_index, slice_set, refl, sym, ap, ◌∙◌, subst, arith, get_or-set_same, get_or-set_other}
use Rattle.std.proofs.lemmas.List.Sorted.{IsPermutation-refl}
use Rattle.record_heap.specs.Changes.{ChangesOnly}
use Rattle.record_heap.specs.Pool.{IsRecord}
use Rattle.record_heap.proofs.Arrays.{changes_more, changes_none}
use Rattle.record_heap.proofs.Frames.{pool_stays, same_pool}
use Rattle.tree_index.specs.declared.tree.Tree.{Tree}
use Rattle.tree_index.specs.declared.tree_put.TreePut.{TreePut}
use Rattle.tree_index.specs.declared.tree_put.TreePut.TheVariants.{There, Full, Stored}
use Rattle.tree_index.specs.Linking.{PutsFirst, PutsFirstAll, StoresFirst}
use Rattle.tree_index.specs.Shape.{Shape, Leaf}
use Rattle.tree_index.specs.Tree.{FitsTree, Inserts, InsertsAll, IsTree, Stores}
use Rattle.tree_index.specs.Walk.{IsIn}
use Rattle.tree_index.proofs.Apart.{IsOwn, own_not_outside, own_outside_inner, own_outside_leaves}
use Rattle.tree_index.proofs.Found.{no_shape, taken_record}
use Rattle.tree_index.proofs.Frees.{inner_stays, none_is_not}
use Rattle.tree_index.proofs.Inserted.{took}
use Rattle.tree_index.proofs.Shapes.{first_among}

no_key : (x : ℕ) → Contains [] x → ⊥
no_key x c = omega (arith, c.1)

stores_first : {tree : Tree} {n : ℕ} → FitsTree tree n → (old new free_leaves free_inner : List ℕ) (key : ℕ) → length old ≡ n → IsTree tree old None free_leaves free_inner → StoresFirst tree key free_leaves [] old new → Stores tree key None free_leaves free_inner old new
stores_first {tree} {n} fits old new free_leaves free_inner key size lawful p =
    let leaf = p.leaf in
    let one = took tree.leaves [] leaf old p.middle free_leaves p.takes in
    let leafs : (x : ℕ) → Contains (leaf ∷ []) x → IsRecord tree.leaves x = taken_record one.lawful in
    let inner : (x : ℕ) → Contains [] x → IsRecord tree.inner x = λ x c. absurd (no_key x c) in
    let leaf_is = leafs leaf (first_among leaf []) in
    let root_own : IsOwn tree.root (leaf ∷ []) [] tree.root = inl refl in
    let leaf_own : IsOwn tree.root (leaf ∷ []) [] leaf = inr (inl (first_among leaf [])) in
    let changes : ChangesOnly (tree.root ∷ leaf ∷ []) p.middle new = subst (λ x. ChangesOnly (tree.root ∷ leaf ∷ []) p.middle x) (sym p.wrote) (changes_more tree.root leaf (changes_more leaf key changes_none)) in
    let apart : leaf ≢ tree.root = λ same. omega (arith, fits.root_leaves.records leaf leaf_is, fits.leaf_size, same) in
    let long : length p.middle ≡ n = one.changes.size ∙ size in
    record {
      absent = no_key key;
      after = Leaf leaf key;
      leaf = leaf;
      left_leaves = one.left;
      left_inner = free_inner;
      took_leaf = one.first;
      grows = (refl, refl);
      keys = IsPermutation-refl (key ∷ []);
      lawful = record {
        leaves = pool_stays (same_pool {words = tree.root ∷ leaf ∷ []} (own_outside_leaves fits (leaf ∷ []) [] tree.root leafs inner root_own, (own_outside_leaves fits (leaf ∷ []) [] leaf leafs inner leaf_own, tt)) changes) one.lawful;
        inner = pool_stays (same_pool {words = tree.root ∷ leaf ∷ []} (own_outside_inner fits (leaf ∷ []) [] tree.root leafs inner root_own, (own_outside_inner fits (leaf ∷ []) [] leaf leafs inner leaf_own, tt)) changes) (inner_stays fits leaf [] free_leaves p.takes lawful.inner);
        rooted = (
          ap (λ x. slice_index x tree.root) p.wrote ∙ get_or-set_same (slice_set p.middle leaf key) tree.root leaf 0 (omega (arith, fits.root, long, length-set p.middle leaf key)),
          ap (λ x. slice_index x leaf) p.wrote ∙ get_or-set_other (slice_set p.middle leaf key) tree.root leaf leaf 0 apart ∙ get_or-set_same p.middle leaf key 0 (omega (arith, fits.leaves.inside leaf leaf_is, fits.leaf_size, long)),
          tt,
        );
      };
      others = record {
        size = changes.size ∙ one.changes.size;
        others = λ i out.
            changes.others i (own_not_outside fits (leaf ∷ []) [] i tree.root leafs inner root_own out, (own_not_outside fits (leaf ∷ []) [] i leaf leafs inner leaf_own out, tt))
            ∙ one.changes.others i (omega (arith, out.leaves.header), (omega (arith, out.leaves.header), tt));
      };
      unread = λ i unread.
          changes.others i (unread.root, (unread.below, tt)) ∙ one.changes.others i (omega (arith, unread.leaves), (omega (arith, unread.leaves), tt));
    }

puts_empty : {tree : Tree} {n : ℕ} → FitsTree tree n → (old new free_leaves free_inner : List ℕ) (key : ℕ) → length old ≡ n → IsTree tree old None free_leaves free_inner → (put : TreePut) → PutsFirst tree key free_leaves [] put old new → Inserts tree key None free_leaves free_inner put old new
puts_empty fits old new free_leaves free_inner key size lawful There done = absurd done
puts_empty fits old new free_leaves free_inner key size lawful Full done = (no_key key, inl done.0, done.1)
puts_empty fits old new free_leaves free_inner key size lawful Stored done = stores_first fits old new free_leaves free_inner key size lawful done

first_in : {tree : Tree} {n : ℕ} {old : List ℕ} (new : List ℕ) (key : ℕ) → FitsTree tree n → length old ≡ n → (put : TreePut) → PutsFirstAll tree key old new put → (shape : Option Shape) (free_leaves free_inner : List ℕ) → shape ≡ None → IsTree tree old shape free_leaves free_inner → Inserts tree key shape free_leaves free_inner put old new
first_in {old = old} new key fits size put puts None free_leaves free_inner none lawful = puts_empty fits old new free_leaves free_inner key size lawful put (puts free_leaves [] lawful.leaves)
first_in new key fits size put puts (Some shape) free_leaves free_inner none lawful = absurd (none_is_not none)

-- where a walk found no tree
pub inserts_first : {tree : Tree} {n : ℕ} {old : List ℕ} (new : List ℕ) (key : ℕ) → FitsTree tree n → length old ≡ n → ((whole : Shape) → ¬ IsIn tree old whole) → (put : TreePut) → PutsFirstAll tree key old new put → InsertsAll tree key old new put
inserts_first new key fits size none put puts = λ shape free_leaves free_inner lawful. first_in new key fits size put puts shape free_leaves free_inner (no_shape shape lawful none) lawful
