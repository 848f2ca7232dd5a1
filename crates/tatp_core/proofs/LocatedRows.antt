-- The keys of an index that lie in a range of locations, and the subscribers that they tell.
use Rattle.std.proofs.Common.{◌≡◌, ℕ, suc, ◌+◌, ◌-◌, ◌*◌, ◌^◌, ◌≤◌, ◌⊎◌, inl, inr, List, [], ◌∷◌, ◌++◌, length, map, take, All, Some, None, refl, sym, ap, ap₂, ◌∙◌, subst, arith, false, ◌<◌}
use Rattle.std.specs.Prelude.{AllPairs, nat_eq, slice_index_or}
use Rattle.std.specs.List.{IsDistinct, filter}
use Rattle.std.specs.List.Sorted.{IsNonDecreasingBy, IsPermutation, IsSorted, IsStrictlyIncreasing}
use Rattle.std.proofs.lemmas.Bool.{cases_Bool, cases_lt, eqb-false, le-leb, lt-leb, ne_eqb}
use Rattle.std.proofs.lemmas.Map.Keys.{IsDistinct-IsPermutation}
use Rattle.std.specs.Ordering.{nat_cmp}
use Rattle.std.proofs.lemmas.List.{append-nil, map-append, take-map, take_all, take_at}
use Rattle.std.proofs.lemmas.List.Elements.{All-filter, All-from_recursion, All-head, All-map, All-tail, recursion_from_All}
use Rattle.std.proofs.lemmas.List.Kept.{AllPairs-filter}
use Rattle.std.proofs.lemmas.List.Sorted.{IsNonDecreasingBy-from_sort, IsPermutation-map, IsPermutation-sym}
use Rattle.dude_base.specs.declared.sizes.Sizes.{Sizes}
use Rattle.tatp_model.specs.declared.sub_row.SubRow.{SubRow}
use Rattle.tatp_model.specs.Database.{Database, IsSubRow}
use Rattle.tatp_model.proofs.Rising.{pairs_from_rising}
use Rattle.tatp_layout.specs.Index.{HasKeys, location_key}
use Rattle.tatp_layout.specs.Layout.{index_tree, tree_where}
use Rattle.tatp_layout.specs.StandsFor.{StandsFor}
use Rattle.tatp_layout.proofs.Indexes.{with_tree}
use Rattle.tree_index.specs.declared.tree.Tree.{Tree}
use Rattle.tree_index.specs.Tree.{IsNext}
use Rattle.tree_index.proofs.Paths.{flips}
use Rattle.tatp_core.specs.Located.{IsNextUpTo, Locates, is_within, number_and_location}
use Rattle.tatp_core.proofs.KeyRanges.{Rises, filter_rises, in_range, is_in, over_range, pair_of, pairs_in_order, permuted_filter, range_none, range_one, range_parted, under_range}

-- the last key of the location `high`, and the one behind it
abbrev pub last_key : ℕ → ℕ
last_key high = high * 2 ^ 32 + (2 ^ 32 - 1)

abbrev key_behind : ℕ → ℕ
key_behind high = last_key high + 1

-- a key is in the range where the location is
same_test : (low high : ℕ) (row : SubRow) → IsSubRow row → is_in (low * 2 ^ 32) (key_behind high) (location_key row) ≡ is_within low high row
same_test low high row range =
    let small = range.s_id.1 in
    elim (cases_lt row.vlr low) [
      | inl under ↦ under_range (low * 2 ^ 32) (key_behind high) (location_key row) (omega (arith, under, small)) ∙ rw (lt-leb low row.vlr under) refl
      | inr from ↦ elim (cases_lt high row.vlr) [
        | inl over ↦ over_range (low * 2 ^ 32) (key_behind high) (location_key row) (omega (arith, over, small)) ∙ rw (le-leb low row.vlr from, lt-leb row.vlr high over) refl
        | inr inside ↦ in_range (low * 2 ^ 32) (key_behind high) (location_key row) (omega (arith, from, small)) (omega (arith, inside, small)) ∙ rw (le-leb low row.vlr from, le-leb row.vlr high inside) refl
      ]
    ]

same_pair : (row : SubRow) → IsSubRow row → pair_of (location_key row) ≡ number_and_location row
same_pair row range = ap₂ (λ (a b : ℕ). (a, b)) (omega (arith, range.s_id.1)) (omega (arith, range.s_id.1))

-- the pairs of the keys in the range are those of the subscribers
rows_located : (low high : ℕ) (rows : List SubRow) → All IsSubRow rows → map pair_of (filter (is_in (low * 2 ^ 32) (key_behind high)) (map location_key rows)) ≡ map number_and_location (filter (is_within low high) rows)
rows_located low high [] range = refl
rows_located low high (row ∷ rows) range =
    let here = All-head IsSubRow row rows range in
    let rest = rows_located low high rows (All-tail IsSubRow row rows range) in
    let test = same_test low high row here in
    elim (cases_Bool (is_within low high row)) [
      | inl kept ↦ rw (kept, test ∙ kept) (ap₂ (λ p l. p ∷ l) (same_pair row here) rest)
      | inr dropped ↦ rw (dropped, test ∙ dropped) rest
    ]

-- the tree of a home that has an index has the keys of the subscribers
pub keys_stand : (s : Sizes) (tree : Tree) {array : List ℕ} {db : Database} → StandsFor s array db → tree_where s.index (index_tree s) ≡ Some tree → HasKeys tree array (map location_key db.subscribers)
keys_stand s tree {array} {db} stands is =
    let there = with_tree s.index 0 0 is in
    subst (λ t. HasKeys t array (map location_key db.subscribers)) there.2 (stands.index there.0)

pub locates : (low high limit : ℕ) (rows : List SubRow) (keys : List ℕ) (found : List (ℕ × ℕ)) → All IsSubRow rows → Rises keys → IsPermutation keys (map location_key rows)
    → found ≡ take limit (map pair_of (filter (is_in (low * 2 ^ 32) (last_key high + 1)) keys)) → Locates low high limit rows found
locates low high limit rows keys found range rises same first =
    let inside = is_in (low * 2 ^ 32) (key_behind high) in
    record {
      all = map pair_of (filter inside keys);
      same = subst (IsPermutation (map pair_of (filter inside keys))) (rows_located low high rows range) (IsPermutation-map pair_of (filter inside keys) (filter inside (map location_key rows)) (permuted_filter inside keys (map location_key rows) same));
      in_order = pairs_in_order (filter inside keys) (filter_rises inside keys rises);
      first = first;
    }

-- ---- what is found in turn

up_to : {start from : ℕ} (last : ℕ) → (from ≤ last) ⊎ (from ≡ start) → (from ≤ last + 1) ⊎ (from ≡ start)
up_to last (inl high) = inl (omega (arith, high))
up_to last (inr none) = inr none

module _ {start from : ℕ} (keys : List ℕ) {found : List (ℕ × ℕ)} (low : start ≤ from) (rises : Rises keys) (is : found ≡ map pair_of (filter (is_in start from) keys)) where
  whole : (behind : ℕ) → (from ≤ behind) ⊎ (from ≡ start) → map pair_of (filter (is_in start behind) keys) ≡ found ++ map pair_of (filter (is_in from behind) keys)
  whole behind high = ap (map pair_of) (range_parted start from behind keys low high rises) ∙ map-append pair_of (filter (is_in start from) keys) (filter (is_in from behind) keys) ∙ ap (λ l. l ++ map pair_of (filter (is_in from behind) keys)) (sym is)

  -- so many are found
  pub found_full : (last limit : ℕ) → (from ≤ last) ⊎ (from ≡ start) → length found ≡ limit → found ≡ take limit (map pair_of (filter (is_in start (last + 1)) keys))
  found_full last limit high full = sym (ap (take limit) (whole (last + 1) (up_to last high)) ∙ take_at found (map pair_of (filter (is_in from (last + 1)) keys)) limit full)

  -- no more are there
  pub found_all : (last limit : ℕ) → (from ≤ last) ⊎ (from ≡ start) → length found ≤ limit → IsNextUpTo keys from last None → found ≡ take limit (map pair_of (filter (is_in start (last + 1)) keys))
  found_all last limit high few none =
      let all : map pair_of (filter (is_in start (last + 1)) keys) ≡ found = whole (last + 1) (up_to last high) ∙ ap (λ l. found ++ map pair_of l) (range_none from last keys none) ∙ append-nil found in
      sym (ap (take limit) all ∙ take_all limit found few)

  -- the next one is found
  pub found_more : (key : ℕ) → IsNext keys from (Some key) → found ++ pair_of key ∷ [] ≡ map pair_of (filter (is_in start (key + 1)) keys)
  found_more key next = sym (whole (key + 1) (inl (omega (arith, next.1))) ∙ ap (λ l. found ++ map pair_of l) (range_one from key keys rises next.0 next.1 next.2))

  -- the next one is found, and it is the last
  pub found_last : (key last limit : ℕ) → IsNext keys from (Some key) → key ≡ last → length (found ++ pair_of key ∷ []) ≤ limit → found ++ pair_of key ∷ [] ≡ take limit (map pair_of (filter (is_in start (last + 1)) keys))
  found_last key last limit next is few =
      let more : found ++ pair_of key ∷ [] ≡ map pair_of (filter (is_in start (last + 1)) keys) = found_more key next ∙ ap (λ k. map pair_of (filter (is_in start (k + 1)) keys)) is in
      sym (ap (take limit) (sym more) ∙ take_all limit (found ++ pair_of key ∷ []) few)

-- ---- what is located among rows

-- keys that don't fall, none of them twice, rise
rises_from : (xs : List ℕ) → IsNonDecreasingBy (λ x. x) xs → IsDistinct nat_eq xs → Rises xs
unfolding IsDistinct
rises_from [] sorted distinct = tt
rises_from (x ∷ xs) sorted distinct =
    let apart = All-from_recursion (λ y. nat_eq x y ≡ false) xs distinct.0 in (
      λ k d inside. let le = sorted 0 (suc k) d (omega arith) (omega (arith, inside)) in let differ = eqb-false x (slice_index_or xs k d) (apart k d inside) in omega (arith, le, differ),
      rises_from xs (λ i j d le inside. sorted (suc i) (suc j) d (omega (arith, le)) (omega (arith, inside))) distinct.1,
    )

-- no two rows of different numbers have one key
keys_distinct : (rows : List SubRow) → All IsSubRow rows → AllPairs (λ r s. r.s_id < s.s_id) rows → IsDistinct nat_eq (map location_key rows)
unfolding IsDistinct
keys_distinct [] range pairs = tt
keys_distinct (row ∷ rows) range pairs =
    let here = All-head IsSubRow row rows range in
    let others = All-tail IsSubRow row rows range in (
      recursion_from_All (λ y. nat_eq (location_key row) y ≡ false) (map location_key rows)
          (All-map (λ y. nat_eq (location_key row) y ≡ false) location_key rows (λ k d inside.
          let less = pairs 0 (suc k) d (omega arith) (omega (arith, inside)) in let there = others k d inside in
          ne_eqb (location_key row) (location_key (slice_index_or rows k d)) (λ same. omega (arith, same, less, here.s_id.1, there.s_id.1)))),
      keys_distinct rows others (λ i j d less inside. pairs (suc i) (suc j) d (omega (arith, less)) (omega (arith, inside))),
    )

pairs_same : (rows : List SubRow) → All IsSubRow rows → map pair_of (map location_key rows) ≡ map number_and_location rows
pairs_same [] range = refl
pairs_same (row ∷ rows) range = ap₂ (λ p l. p ∷ l) (same_pair row (All-head IsSubRow row rows range)) (pairs_same rows (All-tail IsSubRow row rows range))

-- the keys of the rows in the range, sorted, and the first `limit` of them
pub locates_sorted : (low high limit : ℕ) (rows : List SubRow) (keys sorted : List ℕ) → All IsSubRow rows → IsStrictlyIncreasing (map (λ row. row.s_id) rows)
    → keys ≡ map location_key (filter (is_within low high) rows) → IsPermutation keys sorted → IsSorted nat_cmp sorted → Locates low high limit rows (map pair_of (take limit sorted))
locates_sorted low high limit rows keys sorted range rise are same order =
    let kept = filter (is_within low high) rows in
    let kept_range = All-filter (is_within low high) IsSubRow rows range in
    let pairs = AllPairs-filter (λ r s. r.s_id < s.s_id) (is_within low high) rows (pairs_from_rising (λ row. row.s_id) rows rise) in
    let distinct = subst (IsDistinct nat_eq) (sym are) (keys_distinct kept kept_range pairs) in
    let rises = rises_from sorted (IsNonDecreasingBy-from_sort (λ x. x) sorted order) (IsDistinct-IsPermutation nat_eq flips keys sorted same distinct) in
    record {
      all = map pair_of sorted;
      same = subst (IsPermutation (map pair_of sorted)) (ap (map pair_of) are ∙ pairs_same kept kept_range) (IsPermutation-map pair_of sorted keys (IsPermutation-sym keys sorted same));
      in_order = pairs_in_order sorted rises;
      first = sym (take-map pair_of limit sorted);
    }
