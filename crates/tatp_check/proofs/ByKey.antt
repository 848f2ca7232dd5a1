-- The records of a table in rising order of their keys.
use Rattle.std.proofs.Common.{◌≡◌, ◌≢◌, ℕ, List, length, map, AllPairs, Contains, Option, None, Some, slice_index, refl, sym, ap, ◌∙◌, subst, arith}
use Rattle.std.proofs.lemmas.Bool.Decides.{nat_tests}
use Rattle.std.proofs.lemmas.Cmp.{nat_cmp_total}
use Rattle.std.specs.declared.cmp.Ordering.TheVariants.{Equal}
use Rattle.std.proofs.lemmas.List.Sorted.{length_permutation}
use Rattle.std.proofs.lemmas.Map.Keys.{IsStrictlyIncreasing-from_sorted, below_from_sorted}
use Rattle.std.proofs.lemmas.Map.Views.{btree_map_get_iff}
use Rattle.std.specs.BTreeMap.{get, keys}
use Rattle.std.specs.List.Sorted.{IsStrictlyIncreasing, IsStrictlySortedBy}
use Rattle.std.proofs.lemmas.List.{length-map}
use Rattle.std.specs.Ordering.{nat_cmp}
use Rattle.tatp_check.specs.declared.taken.Taken.{Taken}
use Rattle.tatp_check.specs.Taken.{AreTaken, Finds, records_by_key}
use Rattle.tatp_check.proofs.LawfulTable.{distinct_from_pairs, same_elements}
use Rattle.tatp_check.proofs.Mapped.{contains_map, contains_mapped, get_or-map, map_agree, map_map}

nat_cmp-exact : (x y : ℕ) → nat_cmp x y ≡ Equal → x ≡ y
nat_cmp-exact x y is = grind (arith, nat_tests)

module _ (array records : List ℕ) (taken : Taken) (are : AreTaken array records taken) where
  finds_at : (key : ℕ) (found : Option ℕ) → get nat_cmp taken.by_key key ≡ found → Finds array records key found
  finds_at key found is = subst (Finds array records key) is (are.finds key)

  entry_found : (key at : ℕ) → Contains taken.by_key.entries (key, at) → Contains records at × (slice_index array at ≡ key)
  entry_found key at c = finds_at key (Some at) ((btree_map_get_iff nat_cmp_total nat_cmp-exact taken.by_key taken.ordered key at).1 c)

  -- each is one of the records
  pub by_key_in : (at : ℕ) → Contains (records_by_key taken) at → Contains records at
  by_key_in at c =
      let e = contains_mapped (λ (e : ℕ × ℕ). e.1) taken.by_key.entries at c in
      subst (Contains records) e.2 (entry_found e.0.0 e.0.1 e.1).0

  -- their keys are those of the map
  keys_same : map (λ at. slice_index array at) (records_by_key taken) ≡ keys taken.by_key
  keys_same =
      map_map (λ at. slice_index array at) (λ (e : ℕ × ℕ). e.1) taken.by_key.entries
      ∙ map_agree (λ (e : ℕ × ℕ). slice_index array e.1) (λ (e : ℕ × ℕ). e.0) taken.by_key.entries (λ e c. (entry_found e.0 e.1 c).1)

  -- the keys rise
  pub by_key_rises : IsStrictlyIncreasing (map (λ at. slice_index array at) (records_by_key taken))
  by_key_rises = subst IsStrictlyIncreasing (sym keys_same) (IsStrictlyIncreasing-from_sorted (keys taken.by_key) taken.ordered)

  module _ (one : (x y : ℕ) → Contains records x → Contains records y → slice_index array x ≡ slice_index array y → x ≡ y) where
    -- each record is among them
    pub in_by_key : (at : ℕ) → Contains records at → Contains (records_by_key taken) at
    in_by_key at c = by (get nat_cmp taken.by_key (slice_index array at)) refl
      where
        by : (found : Option ℕ) → get nat_cmp taken.by_key (slice_index array at) ≡ found → Contains (records_by_key taken) at
        by None is = absurd (finds_at (slice_index array at) None is c.0 at c.1 (ap (slice_index array) c.2))
        by (Some x) is =
            let there = finds_at (slice_index array at) (Some x) is in
            let entry = (btree_map_get_iff nat_cmp_total nat_cmp-exact taken.by_key taken.ordered (slice_index array at) x).0 is in
            subst (Contains (records_by_key taken)) (one x at there.0 c there.1) (contains_map (λ (e : ℕ × ℕ). e.1) taken.by_key.entries (slice_index array at, x) entry)

    sorted : IsStrictlySortedBy nat_cmp (map (λ at. slice_index array at) (records_by_key taken))
    sorted = subst (IsStrictlySortedBy nat_cmp) (sym keys_same) taken.ordered

    -- no two have one key
    pub by_key_differ : AllPairs (λ x y. slice_index array x ≢ slice_index array y) (records_by_key taken)
    by_key_differ i j d less below same =
        let vs = records_by_key taken in
        let long : length (map (λ at. slice_index array at) vs) ≡ length vs = length-map vs (λ at. slice_index array at) in
        let rises = below_from_sorted (map (λ at. slice_index array at) vs) i j (slice_index array d) sorted less (omega (arith, below, long)) in
        omega (arith, rises, same, get_or-map (λ at. slice_index array at) vs i d, get_or-map (λ at. slice_index array at) vs j d)

    by_key_apart : AllPairs (λ x y. x ≢ y) (records_by_key taken)
    by_key_apart i j d less below same = by_key_differ i j d less below (ap (slice_index array) same)

    -- there are as many
    pub by_key_length : AllPairs (λ x y. x ≢ y) records → length (records_by_key taken) ≡ length records
    by_key_length apart =
        length_permutation records (records_by_key taken)
        (same_elements records (records_by_key taken) (distinct_from_pairs records apart) (distinct_from_pairs (records_by_key taken) by_key_apart) in_by_key by_key_in)
