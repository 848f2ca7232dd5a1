-- What `remove` and `cut` do, in a lawful tree.
use Rattle.std.proofs.Common.{◌≡◌, ◌≢◌, ℕ, ◌<◌, inl, inr, List, [], ◌∷◌, ◌++◌, length, Contains, Some, None, slice_index, slice_set, refl, sym, ap, ◌∙◌, subst, arith, eqb, get_or-set_same}
use Rattle.std.proofs.lemmas.List.Elements.{Contains-append_left, Contains-append_right}
use Rattle.std.proofs.lemmas.List.Sorted.{Contains-permutation, IsPermutation-refl, IsPermutation-append_right, IsPermutation-cons, IsPermutation-middle, IsPermutation-sym, IsPermutation-trans, length_permutation}
use Rattle.std.proofs.lemmas.Map.Keys.{IsDistinct-tail, IsDistinct-IsPermutation}
use Rattle.std.specs.List.{IsDistinct}
use Rattle.std.specs.List.Sorted.{IsPermutation}
use Rattle.record_heap.specs.declared.pool.Pool.{Pool}
use Rattle.record_heap.specs.Changes.{ChangesOnly}
use Rattle.record_heap.specs.Pool.{Gives, IsPool, IsRecord}
use Rattle.record_heap.proofs.Arrays.{changes_more, changes_none}
use Rattle.record_heap.proofs.Frames.{IsOutsidePool, pool_stays, same_pool}
use Rattle.record_heap.proofs.Records.{none_twice}
use Rattle.tree_index.specs.declared.tree.Tree.{Tree}
use Rattle.tree_index.specs.Shape.{Shape, Leaf, Fork, Holds, IsRadix, forks_of, keys_of, leaves_of, link_of}
use Rattle.tree_index.specs.Linking.{HasSpare}
use Rattle.tree_index.specs.Tree.{Drops, FitsTree, IsTree, StaysOutside}
use Rattle.tree_index.specs.Path.{Frame, OnZeros, OnOnes, GoesBy, HasLeafMore, plug, slot_of}
use Rattle.tree_index.proofs.Apart.{IsOwn, along_same, holds_same, of_more, own_more, own_not_outside, own_outside_inner, own_outside_leaves, rest_apart, slot_own}
use Rattle.tree_index.proofs.Found.{taken_record}
use Rattle.tree_index.proofs.Frees.{given_stays, leaf_beside, leaf_header_beside}
use Rattle.tree_index.proofs.Paths.{Along, closed, distinct_behind, flips, forks_along, keys_along, leaves_along, opened, plug_forks, plug_keys, plug_leaves, radix_plug}
use Rattle.tree_index.proofs.Stored.{pool_moved}
use Rattle.tree_index.proofs.Shapes.{follows, first_among, other_among, radix_more}

-- a record given back is the first free one, and the others stay taken
pub pool_given : {pool : Pool} {old middle new free : List ℕ} (taken after : List ℕ) (at : ℕ) → IsPool pool old free taken → IsPermutation taken (at ∷ after) → Gives pool at free taken middle new → IsPool pool new (at ∷ free) after
pool_given {pool} {free = free} taken after at lawful moved gives = record {
  links = gives.lawful.links;
  live = gives.lawful.live ∙ omega (arith, length_permutation taken (at ∷ gives.others) gives.were, length_permutation taken (at ∷ after) moved);
  once = IsPermutation-trans _ _ _ lawful.once (IsPermutation-trans _ _ _ (IsPermutation-append_right free taken (at ∷ after) moved) (IsPermutation-middle free at after));
}

-- What stands beside a leaf is linked in the place of the inner record over it: the leaf is at `at`, the inner record at `over`,
-- `beside` on its other side, and the rest of the path is `path`.
module _ {tree : Tree} {n : ℕ} (fits : FitsTree tree n) (old linked : List ℕ) (path : List Frame) (whole beside : Shape) (free_leaves free_inner : List ℕ) (at over slot : ℕ)
    (lawful : IsTree tree old (Some whole) free_leaves free_inner) (size : length old ≡ n)
    (leaves_are : IsPermutation (leaves_of whole) (at ∷ (leaves_of beside ++ leaves_along path)))
    (forks_are : IsPermutation (forks_of whole) (over ∷ (forks_of beside ++ forks_along path)))
    (slot_is : slot ≡ slot_of tree.root path)
    (relink : linked ≡ slice_set old slot (link_of beside)) where
  parts_leaf : (x : ℕ) → Contains (leaves_of beside ++ leaves_along path) x → IsRecord tree.leaves x
  parts_leaf x c = taken_record lawful.leaves x (Contains-permutation (at ∷ (leaves_of beside ++ leaves_along path)) (leaves_of whole) x (IsPermutation-sym _ _ leaves_are) (other_among x at (leaves_of beside ++ leaves_along path) c))

  parts_fork : (x : ℕ) → Contains (forks_of beside ++ forks_along path) x → IsRecord tree.inner x
  parts_fork x c = taken_record lawful.inner x (Contains-permutation (over ∷ (forks_of beside ++ forks_along path)) (forks_of whole) x (IsPermutation-sym _ _ forks_are) (other_among x over (forks_of beside ++ forks_along path) c))

  at_is : IsRecord tree.leaves at
  at_is = taken_record lawful.leaves at (Contains-permutation (at ∷ (leaves_of beside ++ leaves_along path)) (leaves_of whole) at (IsPermutation-sym _ _ leaves_are) (first_among at (leaves_of beside ++ leaves_along path)))

  over_is : IsRecord tree.inner over
  over_is = taken_record lawful.inner over (Contains-permutation (over ∷ (forks_of beside ++ forks_along path)) (forks_of whole) over (IsPermutation-sym _ _ forks_are) (first_among over (forks_of beside ++ forks_along path)))

  parts_distinct : IsDistinct eqb (forks_of beside ++ forks_along path)
  parts_distinct = IsDistinct-tail eqb over (forks_of beside ++ forks_along path) (IsDistinct-IsPermutation eqb flips (forks_of whole) (over ∷ (forks_of beside ++ forks_along path)) forks_are
      (distinct_behind free_inner (forks_of whole) (none_twice tree.inner (free_inner ++ forks_of whole) lawful.inner.once (omega (arith, fits.inner_size)))))

  path_own : (i : ℕ) → IsOwn tree.root (leaves_along path) (forks_along path) i → IsOwn tree.root (leaves_of beside ++ leaves_along path) (forks_of beside ++ forks_along path) i
  path_own i own = own_more tree.root i (leaves_along path) (forks_along path) (leaves_of beside ++ leaves_along path) (forks_of beside ++ forks_along path) (λ x c. Contains-append_right (leaves_of beside) (leaves_along path) x c) (λ x c. Contains-append_right (forks_of beside) (forks_along path) x c) own

  slot_among : IsOwn tree.root (leaves_of beside ++ leaves_along path) (forks_of beside ++ forks_along path) slot
  slot_among = path_own slot (subst (IsOwn tree.root (leaves_along path) (forks_along path)) (sym slot_is) (slot_own tree.root path))

  outside_leaves : (i : ℕ) → IsOwn tree.root (leaves_of beside ++ leaves_along path) (forks_of beside ++ forks_along path) i → IsOutsidePool tree.leaves i
  outside_leaves i own = own_outside_leaves fits (leaves_of beside ++ leaves_along path) (forks_of beside ++ forks_along path) i parts_leaf parts_fork own

  outside_inner : (i : ℕ) → IsOwn tree.root (leaves_of beside ++ leaves_along path) (forks_of beside ++ forks_along path) i → IsOutsidePool tree.inner i
  outside_inner i own = own_outside_inner fits (leaves_of beside ++ leaves_along path) (forks_of beside ++ forks_along path) i parts_leaf parts_fork own

  slot_below : slot < n
  slot_below = own_below slot slot_among
    where
      own_below : (i : ℕ) → IsOwn tree.root (leaves_of beside ++ leaves_along path) (forks_of beside ++ forks_along path) i → i < n
      own_below i (inl is) = omega (arith, fits.root, is)
      own_below i (inr (inl c)) = omega (arith, fits.leaves.inside i (parts_leaf i c), fits.leaf_size)
      own_below i (inr (inr f)) = omega (arith, fits.inner.inside f.0 (parts_fork f.0 f.1), fits.inner_size, f.4, f.5)

  link_changes : ChangesOnly (slot ∷ []) old linked
  link_changes = subst (λ x. ChangesOnly (slot ∷ []) old x) (sym relink) (changes_more slot (link_of beside) changes_none)

  keep : (i : ℕ) → IsOwn tree.root (leaves_of beside ++ leaves_along path) (forks_of beside ++ forks_along path) i → i ≢ slot → slice_index linked i ≡ slice_index old i
  keep i own ne = link_changes.others i (ne, tt)

  slot_word : slice_index linked slot ≡ link_of beside
  slot_word = ap (λ x. slice_index x slot) relink ∙ get_or-set_same old slot (link_of beside) 0 (omega (arith, slot_below, size))

  -- one word of the tree was written
  linked_leaves : IsPool tree.leaves linked free_leaves (leaves_of whole)
  linked_leaves = pool_stays (same_pool {words = slot ∷ []} (outside_leaves slot slot_among, tt) link_changes) lawful.leaves

  linked_inner : IsPool tree.inner linked free_inner (forks_of whole)
  linked_inner = pool_stays (same_pool {words = slot ∷ []} (outside_inner slot slot_among, tt) link_changes) lawful.inner

  linked_outside : StaysOutside tree old linked
  linked_outside = record {
    size = link_changes.size;
    others = λ i out. link_changes.others i (own_not_outside fits (leaves_of beside ++ leaves_along path) (forks_of beside ++ forks_along path) i slot parts_leaf parts_fork slot_among out, tt);
  }

  -- the tree is that without the leaf, and both records are taken beside it
  pub spared : Along old tree.root path → Holds old beside → IsRadix 64 (plug path beside) → HasSpare tree linked at over (plug path beside) free_leaves free_inner × StaysOutside tree old linked
  spared along holds radix =
      let along_new = along_same fits old linked path (λ x c. parts_leaf x (Contains-append_right (leaves_of beside) (leaves_along path) x c)) (λ x c. parts_fork x (Contains-append_right (forks_of beside) (forks_along path) x c)) (distinct_behind (forks_of beside) (forks_along path) parts_distinct)
      (λ i own ne. keep i (path_own i own) (λ e. ne (e ∙ slot_is))) along in
      let holds_new = holds_same old linked beside (λ i own.
      keep i (inr (of_more i (leaves_of beside) (forks_of beside) (leaves_of beside ++ leaves_along path) (forks_of beside ++ forks_along path) (λ x c. Contains-append_left (leaves_of beside) (leaves_along path) x c) (λ x c. Contains-append_left (forks_of beside) (forks_along path) x c) own))
      (λ e. rest_apart fits path beside i (λ x c. parts_leaf x (Contains-append_left (leaves_of beside) (leaves_along path) x c)) parts_fork parts_distinct own (e ∙ slot_is))) holds in
      let shut = closed linked tree.root path beside along_new (ap (λ x. slice_index linked x) (sym slot_is) ∙ slot_word) holds_new in (
        record {
          leaves = pool_moved (leaves_of whole) (at ∷ leaves_of (plug path beside)) (IsPermutation-trans _ _ _ leaves_are (IsPermutation-cons at _ _ (IsPermutation-sym _ _ (plug_leaves path beside)))) linked_leaves;
          inner = pool_moved (forks_of whole) (over ∷ forks_of (plug path beside)) (IsPermutation-trans _ _ _ forks_are (IsPermutation-cons over _ _ (IsPermutation-sym _ _ (plug_forks path beside)))) linked_inner;
          rooted = (shut.0, shut.1, radix);
        },
        linked_outside,
      )

  -- both records are given back
  module _ (middle new : List ℕ) (gives_inner : Gives tree.inner over free_inner (forks_of whole) linked middle) (gives_leaf : Gives tree.leaves at free_leaves (leaves_of whole) middle new) where
    -- a word that the rest of the tree reads stays behind the link
    given_keep : (i : ℕ) → IsOwn tree.root (leaves_of beside ++ leaves_along path) (forks_of beside ++ forks_along path) i → slice_index new i ≡ slice_index linked i
    given_keep i own =
        let of_leaves = outside_leaves i own in
        let of_inner = outside_inner i own in
        gives_leaf.changes.others i (of_leaves.links at at_is, (of_leaves.first, (of_leaves.live, tt))) ∙ gives_inner.changes.others i (of_inner.links over over_is, (of_inner.first, (of_inner.live, tt)))

    new_leaves : IsPool tree.leaves new (at ∷ free_leaves) (leaves_of beside ++ leaves_along path)
    new_leaves = pool_given (leaves_of whole) (leaves_of beside ++ leaves_along path) at lawful.leaves leaves_are gives_leaf

    new_inner : IsPool tree.inner new (over ∷ free_inner) (forks_of beside ++ forks_along path)
    new_inner = given_stays gives_leaf (leaf_header_beside fits) (leaf_beside fits at at_is) fits.leaves.size fits.inner.size (pool_given (forks_of whole) (forks_of beside ++ forks_along path) over lawful.inner forks_are gives_inner)

    outside : StaysOutside tree old new
    outside = record {
      size = gives_leaf.changes.size ∙ gives_inner.changes.size ∙ linked_outside.size;
      others = λ i out.
          gives_leaf.changes.others i (omega (arith, out.leaves.records at at_is, fits.leaf_size), (omega (arith, out.leaves.header), (omega (arith, out.leaves.header), tt)))
          ∙ gives_inner.changes.others i (omega (arith, out.inner.records over over_is, fits.inner_size), (omega (arith, out.inner.header), (omega (arith, out.inner.header), tt)))
          ∙ linked_outside.others i out;
    }

    pub drops : (key : ℕ) → Along old tree.root path → Holds old beside → IsRadix 64 (plug path beside) → IsPermutation (keys_of whole) (key ∷ (keys_of beside ++ keys_along path)) → HasLeafMore key at over (plug path beside) whole → Drops tree key (Some whole) free_leaves free_inner old new
    drops key along holds radix keys_are more =
        let along_new = along_same fits old new path (λ x c. parts_leaf x (Contains-append_right (leaves_of beside) (leaves_along path) x c)) (λ x c. parts_fork x (Contains-append_right (forks_of beside) (forks_along path) x c)) (distinct_behind (forks_of beside) (forks_along path) parts_distinct)
        (λ i own ne. given_keep i (path_own i own) ∙ keep i (path_own i own) (λ e. ne (e ∙ slot_is))) along in
        let holds_new = holds_same old new beside (λ i own.
        let its = inr (of_more i (leaves_of beside) (forks_of beside) (leaves_of beside ++ leaves_along path) (forks_of beside ++ forks_along path) (λ x c. Contains-append_left (leaves_of beside) (leaves_along path) x c) (λ x c. Contains-append_left (forks_of beside) (forks_along path) x c) own) in
        given_keep i its ∙ keep i its
        (λ e. rest_apart fits path beside i (λ x c. parts_leaf x (Contains-append_left (leaves_of beside) (leaves_along path) x c)) parts_fork parts_distinct own (e ∙ slot_is))) holds in
        let shut = closed new tree.root path beside along_new (ap (λ x. slice_index new x) (sym slot_is) ∙ given_keep slot slot_among ∙ slot_word) holds_new in
        record {
          before = whole;
          was = refl;
          leaf = at;
          left_inner = over ∷ free_inner;
          after = Some (plug path beside);
          grows = (over, refl, more);
          keys = IsPermutation-trans _ _ _ keys_are (IsPermutation-cons key _ _ (IsPermutation-sym _ _ (plug_keys path beside)));
          lawful = record {
            leaves = pool_moved (leaves_of beside ++ leaves_along path) (leaves_of (plug path beside)) (IsPermutation-sym _ _ (plug_leaves path beside)) new_leaves;
            inner = pool_moved (forks_of beside ++ forks_along path) (forks_of (plug path beside)) (IsPermutation-sym _ _ (plug_forks path beside)) new_inner;
            rooted = (shut.0, shut.1, radix);
          };
          others = outside;
        }

-- ---- the last inner record of a path, on either side

-- what stands on its other side
abbrev pub beside_in : Frame → Shape
beside_in (OnZeros over bit ones) = ones
beside_in (OnOnes over bit zeros) = zeros

-- its place
abbrev pub place_in : Frame → ℕ
place_in (OnZeros over bit ones) = over
place_in (OnOnes over bit zeros) = over

leaves_past : (frame : Frame) (path : List Frame) → leaves_along (frame ∷ path) ≡ leaves_of (beside_in frame) ++ leaves_along path
leaves_past (OnZeros over bit ones) path = refl
leaves_past (OnOnes over bit zeros) path = refl

forks_past : (frame : Frame) (path : List Frame) → forks_along (frame ∷ path) ≡ place_in frame ∷ (forks_of (beside_in frame) ++ forks_along path)
forks_past (OnZeros over bit ones) path = refl
forks_past (OnOnes over bit zeros) path = refl

keys_past : (frame : Frame) (path : List Frame) → keys_along (frame ∷ path) ≡ keys_of (beside_in frame) ++ keys_along path
keys_past (OnZeros over bit ones) path = refl
keys_past (OnOnes over bit zeros) path = refl

holds_past : (words : List ℕ) (root : ℕ) (frame : Frame) (path : List Frame) → Along words root (frame ∷ path) → Holds words (beside_in frame) × Along words root path
holds_past words root (OnZeros over bit ones) path along = (along.2, along.4)
holds_past words root (OnOnes over bit zeros) path along = (along.2, along.4)

more_past : (key at : ℕ) (frame : Frame) (path : List Frame) → HasLeafMore key at (place_in frame) (plug path (beside_in frame)) (plug (frame ∷ path) (Leaf at key))
more_past key at (OnZeros over bit ones) path = record { path = path; part = ones; bit = bit; without = refl; with_leaf = inl refl }
more_past key at (OnOnes over bit zeros) path = record { path = path; part = zeros; bit = bit; without = refl; with_leaf = inr refl }

-- the bits fall and the keys agree as before without the leaf
radix_past : (key at : ℕ) (frame : Frame) (path : List Frame) → IsRadix 64 (plug (frame ∷ path) (Leaf at key)) → GoesBy key 0 (frame ∷ path) → IsRadix 64 (plug path (beside_in frame))
radix_past key at (OnZeros over bit ones) path radix goes =
    radix_plug key 0 64 path (Fork over bit (Leaf at key) ones) ones
    (follows key 0 key 64 path (Fork over bit (Leaf at key) ones) radix goes.2 (first_among key (keys_of ones)) refl) goes.2 (omega arith)
    (λ y c. inr (other_among y key (keys_of ones) c)) (λ m le r. radix_more bit m ones (omega (arith, r.0)) r.3) radix
radix_past key at (OnOnes over bit zeros) path radix goes =
    radix_plug key 0 64 path (Fork over bit zeros (Leaf at key)) zeros
    (follows key 0 key 64 path (Fork over bit zeros (Leaf at key)) radix goes.2 (Contains-append_right (keys_of zeros) (key ∷ []) key (first_among key [])) refl) goes.2 (omega arith)
    (λ y c. inr (Contains-append_left (keys_of zeros) (key ∷ []) y c)) (λ m le r. radix_more bit m zeros (omega (arith, r.0)) r.2) radix

-- what is left of the tree, with the leaf and the last inner record beside it
pub record SparesKey (tree : Tree) (old linked : List ℕ) (key at over : ℕ) (whole rest : Shape) (free_leaves free_inner : List ℕ) : Type 0 where
  pub spare : HasSpare tree linked at over rest free_leaves free_inner
  pub keys : IsPermutation (keys_of whole) (key ∷ keys_of rest)
  pub others : StaysOutside tree old linked

-- The leaf is reached by way of this last inner record:
module _ {tree : Tree} {n : ℕ} (fits : FitsTree tree n) (old : List ℕ) (path : List Frame) (frame : Frame) (free_leaves free_inner : List ℕ) (key at : ℕ) (size : length old ≡ n)
    (lawful : IsTree tree old (Some (plug (frame ∷ path) (Leaf at key))) free_leaves free_inner) (goes : GoesBy key 0 (frame ∷ path)) where
  -- the array with what stands beside the leaf linked in that record's place
  abbrev linked_past : List ℕ
  linked_past = slice_set old (slot_of tree.root path) (link_of (beside_in frame))

  leaves_whole : IsPermutation (leaves_of (plug (frame ∷ path) (Leaf at key))) (at ∷ (leaves_of (beside_in frame) ++ leaves_along path))
  leaves_whole = subst (λ ls. IsPermutation (leaves_of (plug (frame ∷ path) (Leaf at key))) (at ∷ ls)) (leaves_past frame path) (plug_leaves (frame ∷ path) (Leaf at key))

  forks_whole : IsPermutation (forks_of (plug (frame ∷ path) (Leaf at key))) (place_in frame ∷ (forks_of (beside_in frame) ++ forks_along path))
  forks_whole = subst (λ fs. IsPermutation (forks_of (plug (frame ∷ path) (Leaf at key))) fs) (forks_past frame path) (plug_forks (frame ∷ path) (Leaf at key))

  keys_whole : IsPermutation (keys_of (plug (frame ∷ path) (Leaf at key))) (key ∷ (keys_of (beside_in frame) ++ keys_along path))
  keys_whole = subst (λ ks. IsPermutation (keys_of (plug (frame ∷ path) (Leaf at key))) (key ∷ ks)) (keys_past frame path) (plug_keys (frame ∷ path) (Leaf at key))

  held_past : Holds old (beside_in frame) × Along old tree.root path
  held_past = holds_past old tree.root frame path (opened old tree.root (frame ∷ path) (Leaf at key) lawful.rooted.0 lawful.rooted.1).0

  radix_whole : IsRadix 64 (plug path (beside_in frame))
  radix_whole = radix_past key at frame path lawful.rooted.2 goes

  pub spares_leaf : SparesKey tree old linked_past key at (place_in frame) (plug (frame ∷ path) (Leaf at key)) (plug path (beside_in frame)) free_leaves free_inner
  spares_leaf =
      let all = spared fits old linked_past path (plug (frame ∷ path) (Leaf at key)) (beside_in frame) free_leaves free_inner at (place_in frame) (slot_of tree.root path) lawful size leaves_whole forks_whole refl refl held_past.1 held_past.0 radix_whole in
      record { spare = all.0; keys = IsPermutation-trans _ _ _ keys_whole (IsPermutation-cons key _ _ (IsPermutation-sym _ _ (plug_keys path (beside_in frame)))); others = all.1 }

  -- where both records are given back
  pub drops_leaf : (middle new : List ℕ) → Gives tree.inner (place_in frame) free_inner (forks_of (plug (frame ∷ path) (Leaf at key))) linked_past middle
      → Gives tree.leaves at free_leaves (leaves_of (plug (frame ∷ path) (Leaf at key))) middle new → Drops tree key (Some (plug (frame ∷ path) (Leaf at key))) free_leaves free_inner old new
  drops_leaf middle new gives_inner gives_leaf =
      drops fits old linked_past path (plug (frame ∷ path) (Leaf at key)) (beside_in frame) free_leaves free_inner at (place_in frame) (slot_of tree.root path) lawful size leaves_whole forks_whole refl refl
      middle new gives_inner gives_leaf key held_past.1 held_past.0 radix_whole keys_whole (more_past key at frame path)

-- without an inner record the tree is emptied
pub drops_last : {tree : Tree} {n : ℕ} → FitsTree tree n → (old middle new free_leaves free_inner : List ℕ) (key at : ℕ) → length old ≡ n → IsTree tree old (Some (Leaf at key)) free_leaves free_inner → middle ≡ slice_set old tree.root 0 → Gives tree.leaves at free_leaves (at ∷ []) middle new → Drops tree key (Some (Leaf at key)) free_leaves free_inner old new
drops_last {tree} {n} fits old middle new free_leaves free_inner key at size lawful emptied gives =
    let at_is = taken_record lawful.leaves at (first_among at []) in
    let leafs : (x : ℕ) → Contains [] x → IsRecord tree.leaves x = λ x c. absurd (omega (arith, c.1)) in
    let forks : (x : ℕ) → Contains [] x → IsRecord tree.inner x = λ x c. absurd (omega (arith, c.1)) in
    let root_own : IsOwn tree.root [] [] tree.root = inl refl in
    let changes : ChangesOnly (tree.root ∷ []) old middle = subst (λ x. ChangesOnly (tree.root ∷ []) old x) (sym emptied) (changes_more tree.root 0 changes_none) in
    let of_leaves = own_outside_leaves fits [] [] tree.root leafs forks root_own in
    let of_inner = own_outside_inner fits [] [] tree.root leafs forks root_own in
    record {
      before = Leaf at key;
      was = refl;
      leaf = at;
      left_inner = free_inner;
      after = None;
      grows = (refl, refl);
      keys = IsPermutation-refl (key ∷ []);
      lawful = record {
        leaves = pool_given (at ∷ []) [] at lawful.leaves (IsPermutation-refl (at ∷ [])) gives;
        inner = given_stays gives (leaf_header_beside fits) (leaf_beside fits at at_is) fits.leaves.size fits.inner.size (pool_stays (same_pool {words = tree.root ∷ []} (of_inner, tt) changes) lawful.inner);
        rooted = gives.changes.others tree.root (of_leaves.links at at_is, (of_leaves.first, (of_leaves.live, tt))) ∙ ap (λ x. slice_index x tree.root) emptied ∙ get_or-set_same old tree.root 0 0 (omega (arith, fits.root, size));
      };
      others = record {
        size = gives.changes.size ∙ changes.size;
        others = λ i out.
            gives.changes.others i (omega (arith, out.leaves.records at at_is, fits.leaf_size), (omega (arith, out.leaves.header), (omega (arith, out.leaves.header), tt)))
            ∙ changes.others i (out.root, tt);
      };
    }
