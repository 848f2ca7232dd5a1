-- What `insert` does to a tree that has keys, on plain arrays.
use Rattle.std.proofs.Common.{◌≡◌, ◌≢◌, ℕ, ◌+◌, ◌*◌, ◌/◌, ◌^◌, ◌<◌, ◌≤◌, ◌⊎◌, inl, inr, List, [], ◌∷◌, ◌++◌, length, length-set, All, Contains, Some, slice_index, slice_set, refl, sym, ap, ◌∙◌, subst, arith, eqb, get_or-set_same, get_or-set_other}
use Rattle.std.proofs.lemmas.List.{append-nil}
use Rattle.std.proofs.lemmas.List.Elements.{All-cons, All-nil, All-weaker, Contains-append_cases, Contains-append_left, Contains-append_right}
use Rattle.std.proofs.lemmas.List.Sorted.{Contains-permutation, IsPermutation-refl, IsPermutation-to_front, IsPermutation-append_left, IsPermutation-append_right, IsPermutation-sym, IsPermutation-trans, IsPermutation-cons, length_permutation}
use Rattle.std.proofs.lemmas.Map.Keys.{IsDistinct-IsPermutation}
use Rattle.std.specs.List.{AllByRecursion, IsDistinct}
use Rattle.std.specs.List.Sorted.{IsPermutation}
use Rattle.record_heap.specs.declared.pool.Pool.{Pool}
use Rattle.record_heap.specs.Changes.{ChangesOnly, IsNoneOf}
use Rattle.record_heap.specs.Pool.{IsPool, IsRecord}
use Rattle.record_heap.proofs.Arrays.{changes_more, changes_none}
use Rattle.record_heap.proofs.Frames.{IsOutsidePool, pool_stays, same_pool}
use Rattle.record_heap.proofs.Records.{none_twice}
use Rattle.tree_index.specs.declared.tree.Tree.{Tree}
use Rattle.tree_index.specs.Shape.{Shape, Leaf, Fork, Holds, IsRadix, IsUnread, bit_of, forks_of, keys_of, leaves_of, link_of}
use Rattle.tree_index.specs.Tree.{FitsTree, IsRooted, IsUnreadBy, Stores, StaysOutside}
use Rattle.tree_index.specs.Path.{Frame, GoesBy, HasLeafMore, plug, slot_of}
use Rattle.tree_index.specs.Walk.{EndsBelow}
use Rattle.tree_index.proofs.Apart.{IsOf, IsOwn, along_same, holds_same, of_more, own_apart, own_apart_leaf, own_more, own_not_outside, own_outside_inner, own_outside_leaves, rest_apart, slot_own}
use Rattle.tree_index.proofs.Found.{taken_record}
use Rattle.tree_index.proofs.Paths.{Along, closed, distinct_behind, first_differs, flips, forks_along, keys_along, leaves_along, opened, perm_same, plug_forks, plug_keys, plug_leaves, radix_plug}
use Rattle.tree_index.proofs.Numbers.{from_bit}
use Rattle.tree_index.proofs.Shapes.{agree_below, bit_small, ends_lower, first_among, follows, only_key, other_among, radix_inside, radix_lower, reached_key, reach_along, reach_in, reach_there}
use Rattle.tree_index.proofs.Unread.{unread_part}
use Rattle.tree_index.proofs.Walks.{bit_cases}

-- the taken records in another order
pub pool_moved : {pool : Pool} {array free : List ℕ} (taken other : List ℕ) → IsPermutation taken other → IsPool pool array free taken → IsPool pool array free other
pool_moved {pool} {array} {free} taken other moved lawful = record {
  links = lawful.links;
  live = lawful.live ∙ sym (length_permutation taken other moved);
  once = IsPermutation-trans _ _ _ lawful.once (IsPermutation-append_right free taken other moved);
}

-- more of one list, behind the same others
pub grown_lists : (x : ℕ) (whole rest along new after : List ℕ) → IsPermutation whole (rest ++ along) → IsPermutation after (new ++ along) → IsPermutation (x ∷ rest) new → IsPermutation (x ∷ whole) after
grown_lists x whole rest along new after of_whole of_after grows =
    IsPermutation-trans _ _ _ (IsPermutation-cons x whole (rest ++ along) of_whole)
    (IsPermutation-trans _ _ _ (IsPermutation-append_left along (x ∷ rest) new grows) (IsPermutation-sym _ _ of_after))

-- A new leaf and a new inner record are written, and linked at a position of the tree:
module _ {tree : Tree} {n : ℕ} (fits : FitsTree tree n) (old second new : List ℕ) (path : List Frame) (rest : Shape) (free_leaves free_inner left_leaves left_inner : List ℕ) (key d leaf fork k l slot link : ℕ)
    (rooted : IsRooted old tree.root (Some (plug path rest)))
    (pool_leaves : IsPool tree.leaves second left_leaves (leaf ∷ leaves_of (plug path rest)))
    (pool_inner : IsPool tree.inner second left_inner (fork ∷ forks_of (plug path rest)))
    (took : (i : ℕ) → i ≢ tree.leaves.base → i ≢ tree.leaves.base + 1 → i ≢ tree.inner.base → i ≢ tree.inner.base + 1 → slice_index second i ≡ slice_index old i)
    (old_size : length old ≡ n) (size : length second ≡ n) (slot_is : slot ≡ slot_of tree.root path) (k_low : 2 ≤ k) (k_high : k < 4) (l_low : 2 ≤ l) (l_high : l < 4) (apart : k ≢ l)
    (wrote : new ≡ slice_set (slice_set (slice_set (slice_set (slice_set second leaf key) fork d) (fork + k) leaf) (fork + l) link) slot fork) where
  leafs : (x : ℕ) → Contains (leaf ∷ leaves_of (plug path rest)) x → IsRecord tree.leaves x
  leafs = taken_record pool_leaves

  forks : (x : ℕ) → Contains (fork ∷ forks_of (plug path rest)) x → IsRecord tree.inner x
  forks = taken_record pool_inner

  old_leafs : (x : ℕ) → Contains (leaves_of (plug path rest)) x → IsRecord tree.leaves x
  old_leafs x c = leafs x (other_among x leaf (leaves_of (plug path rest)) c)

  old_forks : (x : ℕ) → Contains (forks_of (plug path rest)) x → IsRecord tree.inner x
  old_forks x c = forks x (other_among x fork (forks_of (plug path rest)) c)

  leaf_is : IsRecord tree.leaves leaf
  leaf_is = leafs leaf (first_among leaf (leaves_of (plug path rest)))

  fork_is : IsRecord tree.inner fork
  fork_is = forks fork (first_among fork (forks_of (plug path rest)))

  leaf_new : (x : ℕ) → Contains (leaves_of (plug path rest)) x → x ≢ leaf
  leaf_new = first_differs leaf (leaves_of (plug path rest)) (distinct_behind left_leaves (leaf ∷ leaves_of (plug path rest)) (none_twice tree.leaves (left_leaves ++ leaf ∷ leaves_of (plug path rest)) pool_leaves.once (omega (arith, fits.leaf_size))))

  all_distinct : IsDistinct eqb (fork ∷ forks_of (plug path rest))
  all_distinct = distinct_behind left_inner (fork ∷ forks_of (plug path rest)) (none_twice tree.inner (left_inner ++ fork ∷ forks_of (plug path rest)) pool_inner.once (omega (arith, fits.inner_size)))

  fork_new : (x : ℕ) → Contains (forks_of (plug path rest)) x → x ≢ fork
  fork_new = first_differs fork (forks_of (plug path rest)) all_distinct

  parts_distinct : IsDistinct eqb (forks_of rest ++ forks_along path)
  parts_distinct = IsDistinct-IsPermutation eqb flips (forks_of (plug path rest)) (forks_of rest ++ forks_along path) (plug_forks path rest) (distinct_behind (fork ∷ []) (forks_of (plug path rest)) all_distinct)

  of_parts_leaf : (x : ℕ) → Contains (leaves_of rest ++ leaves_along path) x → Contains (leaves_of (plug path rest)) x
  of_parts_leaf x c = Contains-permutation (leaves_of rest ++ leaves_along path) (leaves_of (plug path rest)) x (IsPermutation-sym _ _ (plug_leaves path rest)) c

  of_parts_fork : (x : ℕ) → Contains (forks_of rest ++ forks_along path) x → Contains (forks_of (plug path rest)) x
  of_parts_fork x c = Contains-permutation (forks_of rest ++ forks_along path) (forks_of (plug path rest)) x (IsPermutation-sym _ _ (plug_forks path rest)) c

  path_own : (i : ℕ) → IsOwn tree.root (leaves_along path) (forks_along path) i → IsOwn tree.root (leaves_of (plug path rest)) (forks_of (plug path rest)) i
  path_own i own = own_more tree.root i (leaves_along path) (forks_along path) (leaves_of (plug path rest)) (forks_of (plug path rest)) (λ x c. of_parts_leaf x (Contains-append_right (leaves_of rest) (leaves_along path) x c)) (λ x c. of_parts_fork x (Contains-append_right (forks_of rest) (forks_along path) x c)) own

  slot_among : IsOwn tree.root (leaves_of (plug path rest)) (forks_of (plug path rest)) slot
  slot_among = path_own slot (subst (IsOwn tree.root (leaves_along path) (forks_along path)) (sym slot_is) (slot_own tree.root path))

  -- ---- which words differ

  from_fork : (i j : ℕ) → j < 4 → IsOwn tree.root (leaves_of (plug path rest)) (forks_of (plug path rest)) i → i ≢ fork + j
  from_fork i j small own = own_apart fits (leaves_of (plug path rest)) (forks_of (plug path rest)) fork j i fork_is small old_leafs old_forks fork_new own

  from_leaf : (i : ℕ) → IsOwn tree.root (leaves_of (plug path rest)) (forks_of (plug path rest)) i → i ≢ leaf
  from_leaf i own = own_apart_leaf fits (leaves_of (plug path rest)) (forks_of (plug path rest)) leaf i leaf_is old_forks leaf_new own

  leaf_fork : (j : ℕ) → j < 4 → leaf ≢ fork + j
  leaf_fork j small same = omega (arith, (fits.records fork fork_is).records leaf leaf_is, fits.leaf_size, fits.inner_size, small, same)

  slot_below : slot < n
  slot_below = own_below slot slot_among
    where
      own_below : (i : ℕ) → IsOwn tree.root (leaves_of (plug path rest)) (forks_of (plug path rest)) i → i < n
      own_below i (inl is) = omega (arith, fits.root, is)
      own_below i (inr (inl c)) = omega (arith, fits.leaves.inside i (old_leafs i c), fits.leaf_size)
      own_below i (inr (inr f)) = omega (arith, fits.inner.inside f.0 (old_forks f.0 f.1), fits.inner_size, f.4, f.5)

  leaf_below : leaf < n
  leaf_below = omega (arith, fits.leaves.inside leaf leaf_is, fits.leaf_size)

  fork_below : (j : ℕ) → j < 4 → fork + j < n
  fork_below j small = omega (arith, fits.inner.inside fork fork_is, fits.inner_size, small)

  changes : ChangesOnly (slot ∷ (fork + l) ∷ (fork + k) ∷ fork ∷ leaf ∷ []) second new
  changes = subst (λ x. ChangesOnly (slot ∷ (fork + l) ∷ (fork + k) ∷ fork ∷ leaf ∷ []) second x) (sym wrote) (changes_more slot fork (changes_more (fork + l) link (changes_more (fork + k) leaf (changes_more fork d (changes_more leaf key changes_none)))))

  new_own : (i : ℕ) → IsOf (leaf ∷ []) (fork ∷ []) i → IsOwn tree.root (leaf ∷ leaves_of (plug path rest)) (fork ∷ forks_of (plug path rest)) i
  new_own i own = inr (of_more i (leaf ∷ []) (fork ∷ []) (leaf ∷ leaves_of (plug path rest)) (fork ∷ forks_of (plug path rest)) (λ x c. Contains-append_left (leaf ∷ []) (leaves_of (plug path rest)) x c) (λ x c. Contains-append_left (fork ∷ []) (forks_of (plug path rest)) x c) own)

  all_own : AllByRecursion (IsOwn tree.root (leaf ∷ leaves_of (plug path rest)) (fork ∷ forks_of (plug path rest))) (slot ∷ (fork + l) ∷ (fork + k) ∷ fork ∷ leaf ∷ [])
  all_own = (
    own_more tree.root slot (leaves_of (plug path rest)) (forks_of (plug path rest)) (leaf ∷ leaves_of (plug path rest)) (fork ∷ forks_of (plug path rest)) (λ x c. other_among x leaf (leaves_of (plug path rest)) c) (λ x c. other_among x fork (forks_of (plug path rest)) c) slot_among,
    (
      new_own (fork + l) (inr (fork, first_among fork [], l, (λ e. omega (arith, e, l_low)), l_high, refl)),
      (
        new_own (fork + k) (inr (fork, first_among fork [], k, (λ e. omega (arith, e, k_low)), k_high, refl)),
        (
          new_own fork (inr (fork, first_among fork [], 0, omega arith, omega arith, omega arith)),
          (new_own leaf (inl (first_among leaf [])), tt),
        ),
      ),
    ),
  )

  each_outside : (P : ℕ → Type 0) → ((i : ℕ) → IsOwn tree.root (leaf ∷ leaves_of (plug path rest)) (fork ∷ forks_of (plug path rest)) i → P i) → (words : List ℕ) → AllByRecursion (IsOwn tree.root (leaf ∷ leaves_of (plug path rest)) (fork ∷ forks_of (plug path rest))) words → AllByRecursion P words
  each_outside P holds [] all = tt
  each_outside P holds (w ∷ words) all = (holds w all.0, each_outside P holds words all.1)

  new_leaves : IsPool tree.leaves new left_leaves (leaf ∷ leaves_of (plug path rest))
  new_leaves = pool_stays (same_pool {words = slot ∷ (fork + l) ∷ (fork + k) ∷ fork ∷ leaf ∷ []} (each_outside (IsOutsidePool tree.leaves) (λ i own. own_outside_leaves fits (leaf ∷ leaves_of (plug path rest)) (fork ∷ forks_of (plug path rest)) i leafs forks own) (slot ∷ (fork + l) ∷ (fork + k) ∷ fork ∷ leaf ∷ []) all_own) changes) pool_leaves

  new_inner : IsPool tree.inner new left_inner (fork ∷ forks_of (plug path rest))
  new_inner = pool_stays (same_pool {words = slot ∷ (fork + l) ∷ (fork + k) ∷ fork ∷ leaf ∷ []} (each_outside (IsOutsidePool tree.inner) (λ i own. own_outside_inner fits (leaf ∷ leaves_of (plug path rest)) (fork ∷ forks_of (plug path rest)) i leafs forks own) (slot ∷ (fork + l) ∷ (fork + k) ∷ fork ∷ leaf ∷ []) all_own) changes) pool_inner

  -- the words that the tree read before stay, all but the slot
  keep : (i : ℕ) → IsOwn tree.root (leaves_of (plug path rest)) (forks_of (plug path rest)) i → i ≢ slot → slice_index new i ≡ slice_index old i
  keep i own ne =
      let of_leaves = own_outside_leaves fits (leaves_of (plug path rest)) (forks_of (plug path rest)) i old_leafs old_forks own in
      let of_inner = own_outside_inner fits (leaves_of (plug path rest)) (forks_of (plug path rest)) i old_leafs old_forks own in
      changes.others i (ne, (from_fork i l l_high own, (from_fork i k k_high own, ((λ e. from_fork i 0 (omega arith) own (omega (arith, e))), (from_leaf i own, tt)))))
      ∙ took i of_leaves.first of_leaves.live of_inner.first of_inner.live

  opens : Along old tree.root path × (slice_index old (slot_of tree.root path) ≡ link_of rest) × Holds old rest
  opens = opened old tree.root path rest rooted.0 rooted.1

  -- ---- what they hold afterwards

  -- the array after each write but the last
  abbrev with_key : List ℕ
  with_key = slice_set second leaf key

  abbrev with_bit : List ℕ
  with_bit = slice_set with_key fork d

  abbrev with_leaf : List ℕ
  with_leaf = slice_set with_bit (fork + k) leaf

  abbrev with_link : List ℕ
  with_link = slice_set with_leaf (fork + l) link

  bit_size : length with_bit ≡ n
  bit_size = length-set with_key fork d ∙ length-set second leaf key ∙ size

  leaf_size : length with_leaf ≡ n
  leaf_size = length-set with_bit (fork + k) leaf ∙ bit_size

  slot_word : slice_index new slot ≡ fork
  slot_word = ap (λ x. slice_index x slot) wrote ∙ get_or-set_same with_link slot fork 0 (omega (arith, slot_below, length-set with_leaf (fork + l) link, leaf_size))

  other_word : slice_index new (fork + l) ≡ link
  other_word = ap (λ x. slice_index x (fork + l)) wrote
      ∙ get_or-set_other with_link slot (fork + l) fork 0 (λ e. from_fork slot l l_high slot_among (sym e))
      ∙ get_or-set_same with_leaf (fork + l) link 0 (omega (arith, fork_below l l_high, leaf_size))

  leaf_link : slice_index new (fork + k) ≡ leaf
  leaf_link = ap (λ x. slice_index x (fork + k)) wrote
      ∙ get_or-set_other with_link slot (fork + k) fork 0 (λ e. from_fork slot k k_high slot_among (sym e))
      ∙ get_or-set_other with_leaf (fork + l) (fork + k) link 0 (λ e. apart (omega (arith, e)))
      ∙ get_or-set_same with_bit (fork + k) leaf 0 (omega (arith, fork_below k k_high, bit_size))

  bit_word : slice_index new fork ≡ d
  bit_word = ap (λ x. slice_index x fork) wrote
      ∙ get_or-set_other with_link slot fork fork 0 (λ e. from_fork slot 0 (omega arith) slot_among (omega (arith, e)))
      ∙ get_or-set_other with_leaf (fork + l) fork link 0 (λ e. omega (arith, e, l_low))
      ∙ get_or-set_other with_bit (fork + k) fork leaf 0 (λ e. omega (arith, e, k_low))
      ∙ get_or-set_same with_key fork d 0 (omega (arith, fork_below 0 (omega arith), size, length-set second leaf key))

  key_word : slice_index new leaf ≡ key
  key_word = ap (λ x. slice_index x leaf) wrote
      ∙ get_or-set_other with_link slot leaf fork 0 (λ e. from_leaf slot slot_among (sym e))
      ∙ get_or-set_other with_leaf (fork + l) leaf link 0 (leaf_fork l l_high)
      ∙ get_or-set_other with_bit (fork + k) leaf leaf 0 (leaf_fork k k_high)
      ∙ get_or-set_other with_key fork leaf d 0 (λ e. leaf_fork 0 (omega arith) (omega (arith, e)))
      ∙ get_or-set_same second leaf key 0 (omega (arith, leaf_below, size))

  rest_holds : Holds new rest
  rest_holds = holds_same old new rest (λ i own.
      keep i (inr (of_more i (leaves_of rest) (forks_of rest) (leaves_of (plug path rest)) (forks_of (plug path rest)) (λ x c. of_parts_leaf x (Contains-append_left (leaves_of rest) (leaves_along path) x c)) (λ x c. of_parts_fork x (Contains-append_left (forks_of rest) (forks_along path) x c)) own))
      (λ e. rest_apart fits path rest i (λ x c. old_leafs x (of_parts_leaf x (Contains-append_left (leaves_of rest) (leaves_along path) x c))) (λ x c. old_forks x (of_parts_fork x c)) parts_distinct own (e ∙ slot_is)))
      opens.2

  along_holds : Along new tree.root path
  along_holds = along_same fits old new path (λ x c. old_leafs x (of_parts_leaf x (Contains-append_right (leaves_of rest) (leaves_along path) x c))) (λ x c. old_forks x (of_parts_fork x (Contains-append_right (forks_of rest) (forks_along path) x c))) (distinct_behind (forks_of rest) (forks_along path) parts_distinct)
      (λ i own ne. keep i (path_own i own) (λ e. ne (e ∙ slot_is))) opens.0

  outside : StaysOutside tree old new
  outside = record {
    size = changes.size ∙ size ∙ sym old_size;
    others = λ i out.
        let no : (j : ℕ) → IsOwn tree.root (leaf ∷ leaves_of (plug path rest)) (fork ∷ forks_of (plug path rest)) j → i ≢ j = λ j own. own_not_outside fits (leaf ∷ leaves_of (plug path rest)) (fork ∷ forks_of (plug path rest)) i j leafs forks own out in
        changes.others i (no slot all_own.0, (no (fork + l) all_own.1.0, (no (fork + k) all_own.1.1.0, (no fork all_own.1.1.1.0, (no leaf all_own.1.1.1.1.0, tt)))))
        ∙ took i (omega (arith, out.leaves.header)) (omega (arith, out.leaves.header)) (omega (arith, out.inner.header)) (omega (arith, out.inner.header));
  }

  -- the words that the new shape doesn't read stay, where it reads those that were written
  stays_unread : (shape : Shape) → ((i : ℕ) → IsUnread shape i → IsNoneOf ((fork + l) ∷ (fork + k) ∷ fork ∷ leaf ∷ []) i) → (i : ℕ) → IsUnreadBy tree (Some (plug path shape)) i → slice_index new i ≡ slice_index old i
  stays_unread shape apart_from i unread =
      let part = unread_part tree.root path shape i unread.root unread.below in
      changes.others i ((λ e. part.0 (e ∙ slot_is)), apart_from i part.1)
      ∙ took i (omega (arith, unread.leaves)) (omega (arith, unread.leaves)) (omega (arith, unread.inner)) (omega (arith, unread.inner))

  -- With what now stands at the position:
  pub stores_at : (shape : Shape) → ((i : ℕ) → IsUnread shape i → IsNoneOf ((fork + l) ∷ (fork + k) ∷ fork ∷ leaf ∷ []) i) → link_of shape ≡ fork → Holds new shape → IsPermutation (leaf ∷ leaves_of rest) (leaves_of shape) → IsPermutation (fork ∷ forks_of rest) (forks_of shape) → IsPermutation (key ∷ keys_of rest) (keys_of shape) → IsRadix 64 (plug path shape) → ¬ Contains (keys_of (plug path rest)) key → HasLeafMore key leaf fork (plug path rest) (plug path shape) → free_leaves ≡ leaf ∷ left_leaves → free_inner ≡ fork ∷ left_inner → Stores tree key (Some (plug path rest)) free_leaves free_inner old new
  stores_at shape apart_from link_is holds more_leaves more_forks more_keys radix absent more took_leaf took_inner =
      let whole = closed new tree.root path shape along_holds (ap (λ x. slice_index new x) (sym slot_is) ∙ slot_word ∙ sym link_is) holds in
      record {
        absent = absent;
        after = plug path shape;
        leaf = leaf;
        left_leaves = left_leaves;
        left_inner = left_inner;
        took_leaf = took_leaf;
        grows = (fork, took_inner, more);
        keys = grown_lists key (keys_of (plug path rest)) (keys_of rest) (keys_along path) (keys_of shape) (keys_of (plug path shape)) (plug_keys path rest) (plug_keys path shape) more_keys;
        lawful = record {
          leaves = pool_moved (leaf ∷ leaves_of (plug path rest)) (leaves_of (plug path shape)) (grown_lists leaf (leaves_of (plug path rest)) (leaves_of rest) (leaves_along path) (leaves_of shape) (leaves_of (plug path shape)) (plug_leaves path rest) (plug_leaves path shape) more_leaves) new_leaves;
          inner = pool_moved (fork ∷ forks_of (plug path rest)) (forks_of (plug path shape)) (grown_lists fork (forks_of (plug path rest)) (forks_of rest) (forks_along path) (forks_of shape) (forks_of (plug path shape)) (plug_forks path rest) (plug_forks path shape) more_forks) new_inner;
          rooted = (whole.0, whole.1, radix);
        };
        others = outside;
        unread = stays_unread shape apart_from;
      }

  -- ---- the bits

  absent_key : IsRadix 64 (plug path rest) → GoesBy key (d + 1) path → key / 2 ^ d ≢ reached_key key rest / 2 ^ d → ¬ Contains (keys_of (plug path rest)) key
  absent_key radix goes differ c =
      let same : key ≡ reached_key key rest = sym (reach_there key 64 (plug path rest) radix c) ∙ reach_along key (d + 1) path rest goes in
      differ (ap (λ y. y / 2 ^ d) same)

  either_key : (y : ℕ) → Contains (key ∷ keys_of rest) y → (y ≡ key) ⊎ Contains (keys_of rest) y
  either_key y c = elim (Contains-append_cases (key ∷ []) (keys_of rest) y c) [ inl first ↦ inl (only_key y key first) | inr other ↦ inr other ]

  either_key_last : (y : ℕ) → Contains (keys_of rest ++ key ∷ []) y → (y ≡ key) ⊎ Contains (keys_of rest) y
  either_key_last y c = elim (Contains-append_cases (keys_of rest) (key ∷ []) y c) [ inl other ↦ inr other | inr first ↦ inl (only_key y key first) ]

  module _ (small : d < 64) (goes : GoesBy key (d + 1) path) (ends : EndsBelow (d + 1) rest) (above : key / 2 ^ (d + 1) ≡ reached_key key rest / 2 ^ (d + 1)) (differ : key / 2 ^ d ≢ reached_key key rest / 2 ^ d)
      (link_is : link ≡ link_of rest) (took_leaf : free_leaves ≡ leaf ∷ left_leaves) (took_inner : free_inner ≡ fork ∷ left_inner) where
    -- what was reached has the other bit, and so have all its keys
    agree : (bits : ℕ) → reached_key key rest / 2 ^ d ≡ bits → All (λ y. y / 2 ^ d ≡ bits) (keys_of rest)
    agree bits there = All-weaker (λ y. y / 2 ^ d ≡ reached_key key rest / 2 ^ d) (λ y. y / 2 ^ d ≡ bits) (λ y e. e ∙ there) (keys_of rest) (agree_below key d 64 rest (radix_inside 64 path rest rooted.2) ends above differ)

    alone : (bits : ℕ) → key / 2 ^ d ≡ bits → All (λ y. y / 2 ^ d ≡ bits) (key ∷ [])
    alone bits here = All-cons (λ y. y / 2 ^ d ≡ bits) key [] here (All-nil (λ y. y / 2 ^ d ≡ bits))

    lower : (m : ℕ) → IsRadix m rest → IsRadix d rest
    lower m r = radix_lower m d rest r (ends_lower key d 64 rest (radix_inside 64 path rest rooted.2) ends above differ)

    radix_with : (shape : Shape) → ((y : ℕ) → Contains (keys_of shape) y → (y ≡ key) ⊎ Contains (keys_of rest) y) → ((m : ℕ) → d + 1 ≤ m → IsRadix m rest → IsRadix m shape) → IsRadix 64 (plug path shape)
    radix_with shape either grows = radix_plug key (d + 1) 64 path rest shape (follows key (d + 1) (reached_key key rest) 64 path rest rooted.2 goes (reach_in key rest) above) goes (omega (arith, small)) either grows rooted.2

    -- the key has 0 in the bit
    pub stores_zeros : bit_of key d ≡ 0 → k ≡ 2 → l ≡ 3 → Stores tree key (Some (plug path rest)) free_leaves free_inner old new
    stores_zeros zero_bit k_is l_is =
        let high = key / 2 ^ (d + 1) in
        let here : key / 2 ^ d ≡ 2 * high = omega (arith, from_bit d key, zero_bit) in
        let there : reached_key key rest / 2 ^ d ≡ 2 * high + 1 = elim (bit_cases (bit_of (reached_key key rest) d) (bit_small (reached_key key rest) d)) [
          | inl none ↦ absurd (differ (omega (arith, here, from_bit d (reached_key key rest), none, above)))
          | inr one ↦ omega (arith, from_bit d (reached_key key rest), one, above)
        ] in
        stores_at (Fork fork d (Leaf leaf key) rest)
        (λ i unread. ((λ e. unread.2 (omega (arith, e, l_is))), ((λ e. unread.1 (omega (arith, e, k_is))), (unread.0, (unread.3, tt))))) refl
        (bit_word, subst (λ x. slice_index new (fork + x) ≡ leaf) k_is leaf_link, subst (λ x. slice_index new (fork + x) ≡ link_of rest) l_is (other_word ∙ link_is), key_word, rest_holds)
        (IsPermutation-refl (leaf ∷ leaves_of rest)) (IsPermutation-refl (fork ∷ forks_of rest)) (IsPermutation-refl (key ∷ keys_of rest))
        (radix_with (Fork fork d (Leaf leaf key) rest) either_key (λ m le r. (omega (arith, le), (high, alone (2 * high) here, agree (2 * high + 1) there), tt, lower m r)))
        (absent_key rooted.2 goes differ) (record { path = path; part = rest; bit = d; without = refl; with_leaf = inl refl }) took_leaf took_inner

    -- or 1
    pub stores_ones : bit_of key d ≡ 1 → k ≡ 3 → l ≡ 2 → Stores tree key (Some (plug path rest)) free_leaves free_inner old new
    stores_ones one_bit k_is l_is =
        let high = key / 2 ^ (d + 1) in
        let here : key / 2 ^ d ≡ 2 * high + 1 = omega (arith, from_bit d key, one_bit) in
        let there : reached_key key rest / 2 ^ d ≡ 2 * high = elim (bit_cases (bit_of (reached_key key rest) d) (bit_small (reached_key key rest) d)) [
          | inl none ↦ omega (arith, from_bit d (reached_key key rest), none, above)
          | inr one ↦ absurd (differ (omega (arith, here, from_bit d (reached_key key rest), one, above)))
        ] in
        stores_at (Fork fork d rest (Leaf leaf key))
        (λ i unread. ((λ e. unread.1 (omega (arith, e, l_is))), ((λ e. unread.2 (omega (arith, e, k_is))), (unread.0, (unread.4, tt))))) refl
        (bit_word, subst (λ x. slice_index new (fork + x) ≡ link_of rest) l_is (other_word ∙ link_is), subst (λ x. slice_index new (fork + x) ≡ leaf) k_is leaf_link, rest_holds, key_word)
        (IsPermutation-sym _ _ (IsPermutation-to_front (leaves_of rest) leaf)) (perm_same (fork ∷ forks_of rest) (fork ∷ (forks_of rest ++ [])) (ap (λ xs. fork ∷ xs) (sym (append-nil (forks_of rest))))) (IsPermutation-sym _ _ (IsPermutation-to_front (keys_of rest) key))
        (radix_with (Fork fork d rest (Leaf leaf key)) either_key_last (λ m le r. (omega (arith, le), (high, agree (2 * high) there, alone (2 * high + 1) here), lower m r, tt)))
        (absent_key rooted.2 goes differ) (record { path = path; part = rest; bit = d; without = refl; with_leaf = inr refl }) took_leaf took_inner
