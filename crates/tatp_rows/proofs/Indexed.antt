-- An index whose keys are inserted one after another.
use Rattle.std.proofs.Common.{◌≡◌, ℕ, zero, suc, ◌+◌, ◌-◌, ◌<◌, ◌≤◌, inl, inr, List, [], ◌∷◌, ◌++◌, length, map, All, Contains, Option, Some, None, slice_index, refl, sym, ap, ◌∙◌, subst, arith}
use Rattle.std.proofs.lemmas.List.{append-nil}
use Rattle.std.proofs.lemmas.List.Elements.{All-contains, All-cons, All-nil, All-weaker}
use Rattle.std.proofs.lemmas.List.Sorted.{All-permutation, IsPermutation-cons, IsPermutation-refl, IsPermutation-sym, IsPermutation-to_front, IsPermutation-trans}
use Rattle.std.specs.List.{range_with_len}
use Rattle.std.specs.List.Sorted.{IsPermutation}
use Rattle.record_heap.specs.declared.pool.Pool.{Pool}
use Rattle.record_heap.specs.Pool.{IsPool, records_of}
use Rattle.record_heap.proofs.Frames.{SamePool, pool_stays}
use Rattle.tree_index.specs.declared.tree.Tree.{Tree}
use Rattle.tree_index.specs.declared.tree_put.TreePut.{TreePut}
use Rattle.tree_index.specs.declared.tree_put.TreePut.TheVariants.{There, Full, Stored}
use Rattle.tree_index.specs.Path.{GrowsBy}
use Rattle.tree_index.specs.Shape.{Shape, keys_in, keys_of}
use Rattle.tree_index.specs.Tree.{FitsTree, HasNoRoom, Inserts, InsertsAll, IsTree, StaysOutside, Stores}
use Rattle.tree_index.proofs.Grown.{grown_keys, grows_once}
use Rattle.tree_index.proofs.Paths.{perm_same}
use Rattle.tree_index.proofs.Unread.{inner_link_unread, leaf_link_unread, unread_before}
use Rattle.tatp_rows.specs.Filled.{free_from, record_at}
use Rattle.tatp_rows.specs.Filling.{Finishes}
use Rattle.tatp_rows.specs.Indexed.{IsGrown, IsIndexed, LinksNext}
use Rattle.tatp_rows.proofs.ChainLists.{is_record}
use Rattle.tatp_rows.proofs.Finished.{free_next, linked_next}
use Rattle.tatp_rows.proofs.Populations.{map_next}

-- ---- the shape

-- there is one
pub grown_same : (tree : Tree) (key_at : ℕ → ℕ) (n : ℕ) (one other : Option Shape) → IsGrown tree key_at n one → IsGrown tree key_at n other → one ≡ other
grown_same tree key_at zero one other g h = g ∙ sym h
grown_same tree key_at (suc n) one other g h =
    let free = free_from tree.inner (n - 1) in
    let left = free_from tree.inner n in
    let before = grown_same tree key_at n g.0 h.0 g.1 h.1 in
    let again = subst (λ s. GrowsBy (key_at n) (record_at tree.leaves n) s free left h.2) (sym before) h.3 in
    g.5 ∙ ap Some (grows_once (key_at n) (record_at tree.leaves n) free left g.0 g.2 h.2 g.3 again g.4 h.4) ∙ sym h.5

-- its keys
pub grown_list : (tree : Tree) (f : ℕ → ℕ) (n : ℕ) (shape : Option Shape) → IsGrown tree (λ k. f (k + 1)) n shape → IsPermutation (keys_in shape) (map f (range_with_len 1 n))
grown_list tree f zero shape g = subst (λ s. IsPermutation (keys_in s) []) (sym g) (IsPermutation-refl [])
grown_list tree f (suc n) shape g =
    let key = f (n + 1) in
    let keys = map f (range_with_len 1 n) in
    let next : suc n ≡ n + 1 = omega arith in
    let all : map f (range_with_len 1 (suc n)) ≡ keys ++ key ∷ [] = ap (λ k. map f (range_with_len 1 k)) next ∙ map_next f n (n + 1) refl in
    let more = grown_keys key (record_at tree.leaves n) (free_from tree.inner (n - 1)) (free_from tree.inner n) g.0 g.2 g.3 in
    subst (λ s. IsPermutation (keys_in s) (map f (range_with_len 1 (suc n)))) (sym g.5)
    (subst (λ l. IsPermutation (keys_of g.2) l) (sym all)
    (IsPermutation-trans _ _ _ (IsPermutation-sym _ _ more)
    (IsPermutation-trans _ _ _ (IsPermutation-cons key _ _ (grown_list tree f n g.0 g.1)) (IsPermutation-sym _ _ (IsPermutation-to_front keys key)))))

-- where the keys rise, all are below the next one
grown_below : (tree : Tree) (key_at : ℕ → ℕ) → ((k : ℕ) → key_at k < key_at (suc k)) → (n : ℕ) (shape : Option Shape) → IsGrown tree key_at n shape → All (λ y. y < key_at n) (keys_in shape)
grown_below tree key_at rise zero shape g = subst (λ s. All (λ y. y < key_at zero) (keys_in s)) (sym g) (All-nil (λ y. y < key_at zero))
grown_below tree key_at rise (suc n) shape g =
    let P : ℕ → Type 0 = λ y. y < key_at (suc n) in
    let less = rise n in
    let before : All P (keys_in g.0) = All-weaker (λ y. y < key_at n) P (λ y e. omega (arith, e, less)) (keys_in g.0) (grown_below tree key_at rise n g.0 g.1) in
    let more = grown_keys (key_at n) (record_at tree.leaves n) (free_from tree.inner (n - 1)) (free_from tree.inner n) g.0 g.2 g.3 in
    subst (λ s. All P (keys_in s)) (sym g.5) (All-permutation P (key_at n ∷ keys_in g.0) (keys_of g.2) more (All-cons P (key_at n) (keys_in g.0) less before))

absent : (tree : Tree) (key_at : ℕ → ℕ) → ((k : ℕ) → key_at k < key_at (suc k)) → (n : ℕ) (shape : Option Shape) → IsGrown tree key_at n shape → ¬ Contains (keys_in shape) (key_at n)
absent tree key_at rise n shape g c = omega (arith, All-contains (λ y. y < key_at n) (keys_in shape) (key_at n) (grown_below tree key_at rise n shape g) c)

-- ---- no key

-- all records of a pool are free
free_pool : {pool : Pool} {old new : List ℕ} → Finishes pool 0 old new → IsPool pool new (free_from pool 0) []
free_pool {pool} done =
    let whole : pool.count ≡ pool.count - 0 = omega arith in
    record {
      links = done.free;
      live = done.live;
      once = perm_same (records_of pool) (free_from pool 0 ++ []) (ap (λ n. map (record_at pool) (range_with_len 0 n)) whole ∙ sym (append-nil (free_from pool 0)));
    }

free_links : {pool : Pool} {old new : List ℕ} → Finishes pool 0 old new → LinksNext pool new
free_links {pool} {old} {new} done = λ k below. (linked_next pool new (pool.count - 0) 0 pool.base (omega arith) done.free).1 k (omega arith) below

-- The records of both pools were freed, where the words were 0 from the tree's first one on:
module _ {tree : Tree} {n : ℕ} (fits : FitsTree tree n) {a b c : List ℕ} (first : Finishes tree.leaves 0 a b) (second : Finishes tree.inner 0 b c) where
  leaves_kept : SamePool tree.leaves b c
  leaves_kept = record {
    first = second.others tree.leaves.base (omega (arith, fits.headers.header)) (omega (arith, fits.headers.header)) (λ k from below. omega (arith, (fits.records (record_at tree.inner k) (is_record below)).header, fits.inner_size));
    live = second.others (tree.leaves.base + 1) (omega (arith, fits.headers.header)) (omega (arith, fits.headers.header)) (λ k from below. omega (arith, (fits.records (record_at tree.inner k) (is_record below)).header, fits.inner_size));
    links = λ x r. second.others (x + 1) (omega (arith, fits.headers.records x r, fits.leaf_size)) (omega (arith, fits.headers.records x r, fits.leaf_size))
        (λ k from below. omega (arith, (fits.records (record_at tree.inner k) (is_record below)).records x r, fits.leaf_size, fits.inner_size));
  }

  pub indexed_none : (key_at : ℕ → ℕ) → tree.leaves.base ≤ tree.root → ((i : ℕ) → tree.leaves.base ≤ i → slice_index a i ≡ 0) → IsIndexed tree key_at 0 c
  indexed_none key_at behind zeros = record {
    shape = None;
    grown = refl;
    lawful = record {
      leaves = pool_stays leaves_kept (free_pool first);
      inner = free_pool second;
      rooted =
          second.others tree.root (omega (arith, fits.root_inner.header)) (omega (arith, fits.root_inner.header)) (λ k from below. omega (arith, fits.root_inner.records (record_at tree.inner k) (is_record below), fits.inner_size))
          ∙ first.others tree.root (omega (arith, fits.root_leaves.header)) (omega (arith, fits.root_leaves.header)) (λ k from below. omega (arith, fits.root_leaves.records (record_at tree.leaves k) (is_record below), fits.leaf_size))
          ∙ zeros tree.root behind;
    };
    leaf_links = λ k below. leaves_kept.links (record_at tree.leaves k) (is_record below) ∙ free_links first k below;
    inner_links = free_links second;
    zeros = λ i unused.
        second.others i (omega (arith, unused.unread.inner)) (omega (arith, unused.unread.inner)) (λ k from below. unused.inner_links k below)
        ∙ first.others i (omega (arith, unused.unread.leaves)) (omega (arith, unused.unread.leaves)) (λ k from below. unused.leaf_links k below)
        ∙ zeros i unused.from;
  }

  -- the words in front of the tree stay
  pub front_kept : tree.leaves.base ≤ tree.leaves.first → tree.leaves.base ≤ tree.inner.base → tree.leaves.base ≤ tree.inner.first → (i : ℕ) → i < tree.leaves.base → slice_index c i ≡ slice_index a i
  front_kept leaves_behind inner_behind records_behind i before =
      second.others i (omega (arith, before, inner_behind)) (omega (arith, before, inner_behind)) (λ k from below. omega (arith, before, records_behind))
      ∙ first.others i (omega (arith, before)) (omega (arith, before)) (λ k from below. omega (arith, before, leaves_behind))

-- ---- one key more

no_room : (tree : Tree) (key_at : ℕ → ℕ) (n : ℕ) (shape : Option Shape) → n < tree.leaves.count → n ≤ tree.inner.count → IsGrown tree key_at n shape → HasNoRoom shape (free_from tree.leaves n) (free_from tree.inner (n - 1)) → ⊥
no_room tree key_at n shape leaf_room inner_room g (inl none) = omega (arith, ap length (sym (free_next tree.leaves n leaf_room) ∙ none))
no_room tree key_at zero shape leaf_room inner_room g (inr none) = none.0 g
no_room tree key_at (suc n) shape leaf_room inner_room g (inr none) =
    let back : n ≡ suc n - 1 = omega arith in
    omega (arith, ap length (sym (free_next tree.inner n (omega arith)) ∙ ap (free_from tree.inner) back ∙ none.1))

-- which inner records are free afterwards
left_inner : (tree : Tree) (key_at : ℕ → ℕ) (n : ℕ) (shape : Option Shape) (key leaf : ℕ) (left : List ℕ) (after : Shape) → n ≤ tree.inner.count → IsGrown tree key_at n shape → GrowsBy key leaf shape (free_from tree.inner (n - 1)) left after → left ≡ free_from tree.inner n
left_inner tree key_at zero shape key leaf left after inner_room g grows =
    let first = subst (λ s. GrowsBy key leaf s (free_from tree.inner 0) left after) g grows in
    sym first.0
left_inner tree key_at (suc n) shape key leaf left after inner_room g grows =
    let further = subst (λ s. GrowsBy key leaf s (free_from tree.inner (suc n - 1)) left after) g.5 grows in
    let back : suc n - 1 ≡ n = omega arith in
    let next : n + 1 ≡ suc n = omega arith in
    let both : further.0 ∷ left ≡ record_at tree.inner n ∷ free_from tree.inner (n + 1) = sym further.1 ∙ ap (free_from tree.inner) back ∙ free_next tree.inner n (omega arith) in
    let rest : left ≡ free_from tree.inner (n + 1) = cc in
    rest ∙ ap (free_from tree.inner) next

module _ {tree : Tree} {count : ℕ} (fits : FitsTree tree count) {key_at : ℕ → ℕ} (rise : (k : ℕ) → key_at k < key_at (suc k)) {n : ℕ} (leaf_room : n < tree.leaves.count) (inner_room : n ≤ tree.inner.count) {a b : List ℕ} (is : IsIndexed tree key_at n a) where
  indexed_stored : Stores tree (key_at n) is.shape (free_from tree.leaves n) (free_from tree.inner (n - 1)) a b → IsIndexed tree key_at (suc n) b
  indexed_stored s =
      let next : n + 1 ≡ suc n = omega arith in
      let same : n ≡ suc n - 1 = omega arith in
      let both : s.leaf ∷ s.left_leaves ≡ record_at tree.leaves n ∷ free_from tree.leaves (n + 1) = sym s.took_leaf ∙ free_next tree.leaves n leaf_room in
      let leaf : s.leaf ≡ record_at tree.leaves n = cc in
      let others : s.left_leaves ≡ free_from tree.leaves (n + 1) = cc in
      let left = left_inner tree key_at n is.shape (key_at n) s.leaf s.left_inner s.after inner_room is.grown s.grows in
      let free = free_from tree.inner (n - 1) in
      record {
        shape = Some s.after;
        grown = (
          is.shape,
          is.grown,
          s.after,
          subst (λ x. GrowsBy (key_at n) x is.shape free (free_from tree.inner n) s.after) leaf (subst (λ l. GrowsBy (key_at n) s.leaf is.shape free l s.after) left s.grows),
          s.lawful.rooted.2,
          refl,
        );
        lawful = subst (λ l. IsTree tree b (Some s.after) l (free_from tree.inner (suc n - 1))) (others ∙ ap (free_from tree.leaves) next)
            (subst (λ l. IsTree tree b (Some s.after) s.left_leaves l) (left ∙ ap (free_from tree.inner) same) s.lawful);
        leaf_links = λ k below. s.unread (record_at tree.leaves k + 1) (leaf_link_unread fits s.after s.lawful (record_at tree.leaves k) (is_record below)) ∙ is.leaf_links k below;
        inner_links = λ k below. s.unread (record_at tree.inner k + 1) (inner_link_unread fits s.after s.lawful (record_at tree.inner k) (is_record below)) ∙ is.inner_links k below;
        zeros = λ i unused.
            s.unread i unused.unread
            ∙ is.zeros i (record {
              from = unused.from;
              unread = unread_before (key_at n) s.leaf free s.left_inner is.shape s.after s.grows unused.unread;
              leaf_links = unused.leaf_links;
              inner_links = unused.inner_links;
            });
      }

  indexed_put : (put : TreePut) → Inserts tree (key_at n) is.shape (free_from tree.leaves n) (free_from tree.inner (n - 1)) put a b → IsIndexed tree key_at (suc n) b
  indexed_put There inserts = absurd (absent tree key_at rise n is.shape is.grown inserts.0)
  indexed_put Full inserts = absurd (no_room tree key_at n is.shape leaf_room inner_room is.grown inserts.1)
  indexed_put Stored inserts = indexed_stored inserts

  pub indexed_more : (put : TreePut) → InsertsAll tree (key_at n) a b put → IsIndexed tree key_at (suc n) b
  indexed_more put inserts = indexed_put put (inserts is.shape (free_from tree.leaves n) (free_from tree.inner (n - 1)) is.lawful)

  -- the words that the tree doesn't use stay
  outside_put : (put : TreePut) → Inserts tree (key_at n) is.shape (free_from tree.leaves n) (free_from tree.inner (n - 1)) put a b → StaysOutside tree a b
  outside_put There inserts = absurd (absent tree key_at rise n is.shape is.grown inserts.0)
  outside_put Full inserts = absurd (no_room tree key_at n is.shape leaf_room inner_room is.grown inserts.1)
  outside_put Stored inserts = inserts.others

  pub outside_more : (put : TreePut) → InsertsAll tree (key_at n) a b put → StaysOutside tree a b
  outside_more put inserts = outside_put put (inserts is.shape (free_from tree.leaves n) (free_from tree.inner (n - 1)) is.lawful)
