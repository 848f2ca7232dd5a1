-- A table in which nothing is wrong is a lawful one whose records hold what they have to, and the other way round.
use Rattle.std.proofs.Common.{◌≡◌, ◌≢◌, inl, inr, ℕ, zero, suc, ◌+◌, ◌%◌, ◌<◌, ◌≤◌, List, [], ◌++◌, length, All, AllPairs, Contains, eqb, slice_index, get_or, refl, sym, ap, ◌∙◌, subst, arith, length-append}
use Rattle.std.proofs.lemmas.Bool.{cases_eq, cases_order, eq-eqb, eqb-false, ne_eqb}
use Rattle.std.proofs.lemmas.List.{append-nil, get_or_append_left, get_or_default}
use Rattle.std.proofs.lemmas.List.Elements.{All-contains, All-from_recursion, Contains-append_cases, Contains-append_left, Contains-append_right, Contains-get_or}
use Rattle.std.proofs.lemmas.List.Sorted.{IsPermutation-refl, IsPermutation-trans, IsPermutation-append_comm}
use Rattle.std.proofs.lemmas.Map.Keys.{IsDistinct-from_apart, apart_from_distinct}
use Rattle.std.specs.List.{IsDistinct}
use Rattle.std.specs.List.Sorted.{IsPermutation}
use Rattle.tatp_model.proofs.SameElements.{same_elements as once_each}
use Rattle.record_heap.specs.declared.pool.Pool.{Pool}
use Rattle.record_heap.specs.Pool.{IsPool, IsRecord, records_of}
use Rattle.record_heap.proofs.Records.{each_is_record, has_record, none_twice}
use Rattle.hash_table.specs.declared.table.Table.{Table}
use Rattle.hash_table.specs.Table.{IsTable, chain_of, records_in}
use Rattle.hash_table.proofs.Chains.{chain_among, chain_with}
use Rattle.hash_table.proofs.Insertions.{each_record}
use Rattle.hash_table.proofs.Walks.{path_linked}
use Rattle.tatp_check.specs.Pools.{IsWholePool}
use Rattle.tatp_check.specs.Walk.{Fits, IsSound, HasMet, IsWhole}

-- ---- lists

pub pairs_front : {X : Type 0} (R : X → X → Type 0) (xs ys : List X) → AllPairs R (xs ++ ys) → AllPairs R xs
pairs_front R xs ys all i j d less below =
    subst (λ v. R v (get_or xs j d)) (get_or_append_left xs ys d i (omega arith))
    (subst (R (get_or (xs ++ ys) i d)) (get_or_append_left xs ys d j below) (all i j d less (omega (arith, below, length-append xs ys))))

pub distinct_from_pairs : (xs : List ℕ) → AllPairs (λ x y. x ≢ y) xs → IsDistinct eqb xs
distinct_from_pairs xs all = IsDistinct-from_apart eqb xs (λ i j d less below. ne_eqb (get_or xs i d) (get_or xs j d) (all i j d less below))

pub pairs_from_distinct : (xs : List ℕ) → IsDistinct eqb xs → AllPairs (λ x y. x ≢ y) xs
pairs_from_distinct xs distinct i j d less below = eqb-false (get_or xs i d) (get_or xs j d) (apart_from_distinct eqb xs i j d distinct less below)

flips : (x y : ℕ) → eqb x y ≡ eqb y x
flips x y = elim (cases_eq x y) [
  | inl same ↦ ap (λ z. eqb z y) same ∙ ap (λ z. eqb y z) (sym same)
  | inr differ ↦ ne_eqb x y differ ∙ sym (ne_eqb y x (λ e. differ (sym e)))
]

-- lists without repetition that have the same elements
pub same_elements : (xs ys : List ℕ) → IsDistinct eqb xs → IsDistinct eqb ys → ((x : ℕ) → Contains xs x → Contains ys x) → ((x : ℕ) → Contains ys x → Contains xs x) → IsPermutation xs ys
same_elements xs ys = once_each eqb (λ x. eq-eqb x x refl) flips xs ys

-- ---- pools

module _ (pool : Pool) (array : List ℕ) (wide : 0 < pool.size) (taken free : List ℕ) where
  -- a pool in which nothing is wrong is a lawful one
  pub whole_pool_lawful : ((x : ℕ) → Contains taken x → IsRecord pool x) → IsWholePool pool array taken free → IsPool pool array free taken
  whole_pool_lawful places whole =
      let all = records_of pool in
      let same = IsPermutation-refl all in
      record {
        links = whole.met.list.ended;
        live = whole.count;
        once = IsPermutation-trans all (taken ++ free) (free ++ taken)
            (same_elements all (taken ++ free) (none_twice pool all same wide) (distinct_from_pairs (taken ++ free) whole.met.list.met.differ)
            (λ x c. whole.met.every x (All-contains (IsRecord pool) all x (All-from_recursion (IsRecord pool) all (each_is_record pool all same)) c))
            (λ x c. has_record pool all same (elim (Contains-append_cases taken free x c) [
              | inl is_taken ↦ places x is_taken
              | inr is_free ↦ All-contains (IsRecord pool) free x whole.met.list.met.places is_free
            ])))
            (IsPermutation-append_comm taken free);
      }

  -- nothing is wrong in a lawful pool
  pub lawful_pool_whole : IsPool pool array free taken → IsWholePool pool array taken free
  lawful_pool_whole lawful =
      let turned : IsPermutation (records_of pool) (taken ++ free) = IsPermutation-trans (records_of pool) (free ++ taken) (taken ++ free) lawful.once (IsPermutation-append_comm free taken) in
      let places = All-from_recursion (IsRecord pool) (free ++ taken) (each_is_record pool (free ++ taken) lawful.once) in
      record {
        met = record {
          list = record {
            met = record {
              path = path_linked array pool.base free lawful.links;
              places = λ k d below. All-contains (IsRecord pool) (free ++ taken) (get_or free k d) places (Contains-append_left free taken (get_or free k d) (Contains-get_or free k d below));
              differ = pairs_from_distinct (taken ++ free) (none_twice pool (taken ++ free) turned wide);
            };
            ended = lawful.links;
          };
          every = λ at r. has_record pool (taken ++ free) turned r;
        };
        count = lawful.live;
      }

-- ---- tables

-- the record's key and its words behind the link are what they may be
pub record HoldsContent (content : ℕ → ℕ → Type 0) (table : Table) (array : List ℕ) (at : ℕ) : Type 0 where
  pub key : content 0 (slice_index array at)
  pub words : (offset : ℕ) → 2 ≤ offset → offset < table.pool.size → content offset (slice_index array (at + offset))

module _ (content : ℕ → ℕ → Type 0) (table : Table) (array : List ℕ) (wide : 2 ≤ table.pool.size) (chains : List (List ℕ)) (free : List ℕ) where
  module _ (whole : IsWhole content table array chains free) where
    met : HasMet content table array chains []
    met = whole.met.met

    each_bucket : length chains ≡ table.buckets
    each_bucket = whole.met.all

    -- each record in chains is sound in its bucket
    pub sound_at : (at : ℕ) → Contains (records_in chains) at → (bucket : ℕ) × IsSound content table array bucket at
    sound_at at c =
        let there = chain_with chains at c in
        (there.0, All-contains (IsSound content table array there.0) (chain_of chains there.0) at (met.sound there.0 there.1) there.2)

    -- and it holds its content
    pub content_at : (at : ℕ) → Contains (records_in chains) at → HoldsContent content table array at
    content_at at c =
        let sound = (sound_at at c).1 in
        record { key = (sound.fits 0 (omega (arith, wide))).0; words = λ offset. words sound offset }
      where
        words : {bucket at : ℕ} → IsSound content table array bucket at → (offset : ℕ) → 2 ≤ offset → offset < table.pool.size → content offset (slice_index array (at + offset))
        words sound zero low below = absurd (omega (arith, low))
        words sound (suc zero) low below = absurd (omega (arith, low))
        words sound (suc (suc k)) low below = sound.fits (suc (suc k)) below

    pub each_place : (x : ℕ) → Contains (records_in chains ++ free) x → IsRecord table.pool x
    each_place x c = elim (Contains-append_cases (records_in chains) free x c) [
      | inl taken ↦ (sound_at x taken).1.place
      | inr is_free ↦ All-contains (IsRecord table.pool) free x whole.pool.met.list.met.places is_free
    ]

    pub one_record : (x y : ℕ) → Contains (records_in chains) x → Contains (records_in chains) y → slice_index array x ≡ slice_index array y → x ≡ y
    one_record x y (i, below_i, is_i) (j, below_j, is_j) same =
        let differ : AllPairs (λ a b. slice_index array a ≢ slice_index array b) (records_in chains) = pairs_front (λ a b. slice_index array a ≢ slice_index array b) (records_in chains) [] met.keys_differ in
        let at_j : get_or (records_in chains) j x ≡ y = get_or_default (records_in chains) j x y below_j ∙ is_j in
        elim (cases_order i j) [
          | inl one ↦ sym is_i ∙ ap (λ k. get_or (records_in chains) k x) one ∙ at_j
          | inr order ↦ elim order [
            | inl before ↦ absurd (differ i j x before below_j (ap (slice_index array) is_i ∙ same ∙ sym (ap (slice_index array) at_j)))
            | inr behind ↦ absurd (differ j i x behind below_i (ap (slice_index array) at_j ∙ sym same ∙ sym (ap (slice_index array) is_i)))
          ]
        ]

    -- it is a lawful table
    pub whole_table : IsTable table array chains free
    whole_table = record {
      pool = whole_pool_lawful table.pool array (omega (arith, wide)) (records_in chains) free (λ x c. (sound_at x c).1.place) whole.pool;
      buckets = each_bucket;
      links = λ bucket below. met.ended bucket (omega (arith, each_bucket, below));
      homes = λ bucket below k d inside. ((met.sound bucket (omega (arith, each_bucket, below)) k d inside).fits 0 (omega (arith, wide))).1;
      keys = one_record;
    }

  module _ (lawful : IsTable table array chains free) (holds : (at : ℕ) → Contains (records_in chains) at → HoldsContent content table array at) where
    turned : IsPermutation (records_of table.pool) (records_in chains ++ free)
    turned = IsPermutation-trans (records_of table.pool) (free ++ records_in chains) (records_in chains ++ free) lawful.pool.once (IsPermutation-append_comm free (records_in chains))

    differ : AllPairs (λ x y. x ≢ y) (records_in chains ++ free)
    differ = pairs_from_distinct (records_in chains ++ free) (none_twice table.pool (records_in chains ++ free) turned (omega (arith, wide)))

    fits_of : (bucket at : ℕ) → slice_index array at % table.buckets ≡ bucket → HoldsContent content table array at → (offset : ℕ) → offset < table.pool.size → Fits content table array bucket at offset
    fits_of bucket at home held zero below = (held.key, home)
    fits_of bucket at home held (suc zero) below = tt
    fits_of bucket at home held (suc (suc k)) below = held.words (suc (suc k)) (omega arith) below

    sound_chain : (bucket : ℕ) → bucket < length chains → All (IsSound content table array bucket) (chain_of chains bucket)
    sound_chain bucket below = λ k d inside.
        let at = get_or (chain_of chains bucket) k d in
        let among : Contains (records_in chains) at = chain_among chains bucket at (Contains-get_or (chain_of chains bucket) k d inside) in
        record {
          place = each_record chains free lawful at (Contains-append_right free (records_in chains) at among);
          fits = fits_of bucket at (lawful.homes bucket (omega (arith, lawful.buckets, below)) k d inside) (holds at among);
        }

    keys_differ : AllPairs (λ x y. slice_index array x ≢ slice_index array y) (records_in chains)
    keys_differ i j d less below same =
        pairs_front (λ x y. x ≢ y) (records_in chains) free differ i j d less below
        (lawful.keys (get_or (records_in chains) i d) (get_or (records_in chains) j d) (Contains-get_or (records_in chains) i d (omega arith)) (Contains-get_or (records_in chains) j d below) same)

    -- nothing is wrong in it
    pub table_whole : IsWhole content table array chains free
    table_whole = record {
      met = record {
        met = record {
          ended = λ bucket below. lawful.links bucket (omega (arith, lawful.buckets, below));
          sound = sound_chain;
          path = tt;
          part_sound = λ k d below. absurd (omega (arith, below));
          keys_differ = subst (AllPairs (λ x y. slice_index array x ≢ slice_index array y)) (sym (append-nil (records_in chains))) keys_differ;
        };
        all = lawful.buckets;
      };
      pool = lawful_pool_whole table.pool array (omega (arith, wide)) (records_in chains) free lawful.pool;
    }
