-- A filled table has its rows.
use Rattle.std.proofs.Common.{◌≡◌, ◌≢◌, ℕ, zero, suc, ◌+◌, ◌-◌, ◌%◌, ◌<◌, ◌≤◌, inl, inr, cond, eqb, List, [], ◌∷◌, ◌++◌, length, length-set, map, get_or, slice_index, slice_set, take, All, Contains, Some, refl, sym, ap, ap₂, subst, ◌∙◌, arith, zero-add, get_or-set_other, get_or-set_same}
use Rattle.std.specs.Prelude.{AllPairs}
use Rattle.std.proofs.lemmas.Bool.{cases_eq, cases_order, eq-eqb, ne_eqb}
use Rattle.std.proofs.lemmas.List.{length-map, map-append, get_or-map, take_more, take_all, length-take-le, same_lists}
use Rattle.std.proofs.lemmas.List.Elements.{All-from_recursion}
use Rattle.std.proofs.lemmas.List.FromFn.{get_or-map-range_with_len, length-map-range_with_len, map-range_with_len_more}
use Rattle.std.proofs.lemmas.List.Sorted.{IsPermutation-refl, IsPermutation-trans, IsPermutation-cons, IsPermutation-to_front, IsPermutation-append_comm, IsPermutation-append_right}
use Rattle.std.proofs.lemmas.Option.{get_or_from_slice_get, slice_get-get_or}
use Rattle.std.specs.List.{range_with_len}
use Rattle.std.specs.List.Sorted.{IsPermutation}
use Rattle.record_heap.specs.declared.pool.Pool.{Pool}
use Rattle.record_heap.specs.Links.{Linked}
use Rattle.record_heap.specs.Pool.{records_of, IsRecord}
use Rattle.record_heap.proofs.Records.{each_is_record, has_record, as_many}
use Rattle.hash_table.specs.declared.table.Table.{Table}
use Rattle.hash_table.specs.Table.{FitsTable, IsTable, chain_of, records_in}
use Rattle.hash_table.proofs.Chains.{each_at, records_more}
use Rattle.dude_base.specs.declared.sizes.Sizes.{Sizes}
use Rattle.dude_base.specs.Sizes.{IsAccepted}
use Rattle.tatp_model.specs.Database.{access_key, facility_key, call_key}
use Rattle.tatp_model.specs.Population.{population, subscriber_at}
use Rattle.tatp_model.proofs.PopulationInOrder.{IsInOrder-population}
use Rattle.tatp_model.proofs.Rising.{keys_differ}
use Rattle.tree_index.specs.declared.tree.Tree.{Tree}
use Rattle.tree_index.specs.Shape.{keys_in}
use Rattle.tatp_layout.specs.Index.{HasKeys, location_key}
use Rattle.tatp_layout.specs.Records.{RowForm, HoldsRow, subscriber_form, number_form, access_form, facility_form, call_form}
use Rattle.tatp_layout.specs.StandsFor.{HasRows, StandsFor}
use Rattle.tatp_layout.proofs.Places.{subscribers_fit, numbers_fit, access_fits, facilities_fit, calls_fit}
use Rattle.tatp_rows.specs.Indexed.{IsIndexed}
use Rattle.tatp_rows.specs.Populated.{IsPopulated, nth_key}
use Rattle.tatp_rows.specs.Filled.{record_at, chain_for, free_from, IsFilled}
use Rattle.tatp_rows.proofs.ChainLists.{chain_more, IsChained, chain_each}
use Rattle.tatp_rows.proofs.EntryLists.{map_twice}
use Rattle.tatp_rows.proofs.Fillings.{there_is}
use Rattle.tatp_rows.proofs.Indexed.{grown_list}
use Rattle.tatp_rows.proofs.Inserted.{each_weaker}

-- the chains of all buckets
abbrev pub chains_for : Table → List ℕ → List (List ℕ)
chains_for table keys = map (chain_for table keys) (range_with_len 0 table.buckets)

pub length-chains_for : (table : Table) (keys : List ℕ) → length (chains_for table keys) ≡ table.buckets
length-chains_for table keys = length-map-range_with_len (chain_for table keys) 0 table.buckets

pub chain_at : (table : Table) (keys : List ℕ) (bucket : ℕ) (d : List ℕ) → bucket < table.buckets → get_or (chains_for table keys) bucket d ≡ chain_for table keys bucket
chain_at table keys bucket d below = get_or-map-range_with_len (chain_for table keys) 0 table.buckets bucket bucket d below (zero-add bucket)

-- a key more is put before the others of its chain
chains_push : (table : Table) (keys : List ℕ) (key : ℕ) → 0 < table.buckets
    → chains_for table (keys ++ key ∷ []) ≡ slice_set (chains_for table keys) (key % table.buckets) (record_at table.pool (length keys) ∷ chain_of (chains_for table keys) (key % table.buckets))
chains_push table keys key some =
    let home = key % table.buckets in
    let olds = chains_for table keys in
    let chain = record_at table.pool (length keys) ∷ chain_of olds home in
    let inside : home < table.buckets = omega (arith, some) in
    let whole = length-chains_for table keys in
    same_lists (chains_for table (keys ++ key ∷ [])) (slice_set olds home chain) (length-chains_for table (keys ++ key ∷ []) ∙ sym (length-set olds home chain ∙ whole)) (λ bucket d under.
    let below : bucket < table.buckets = omega (arith, under, length-chains_for table (keys ++ key ∷ [])) in
    let left : get_or (chains_for table (keys ++ key ∷ [])) bucket d ≡ cond (eqb home bucket) (record_at table.pool (length keys) ∷ chain_for table keys bucket) (chain_for table keys bucket) =
    chain_at table (keys ++ key ∷ []) bucket d below ∙ chain_more table keys key bucket in
    elim (cases_eq bucket home) [
      | inl same ↦
          left ∙ ap (λ b. cond b (record_at table.pool (length keys) ∷ chain_for table keys bucket) (chain_for table keys bucket)) (eq-eqb home bucket (sym same))
          ∙ ap (λ l. record_at table.pool (length keys) ∷ l) (ap (chain_for table keys) same ∙ sym (chain_at table keys home [] inside))
          ∙ sym (get_or-set_same olds home chain d (omega (arith, whole, inside))) ∙ ap (λ b. get_or (slice_set olds home chain) b d) (sym same)
      | inr other ↦
          left ∙ ap (λ b. cond b (record_at table.pool (length keys) ∷ chain_for table keys bucket) (chain_for table keys bucket)) (ne_eqb home bucket (λ e. other (sym e)))
          ∙ sym (chain_at table keys bucket d below) ∙ sym (get_or-set_other olds home bucket chain d other)
    ])

no_records : (table : Table) (a n : ℕ) → records_in (map (chain_for table []) (range_with_len a n)) ≡ []
no_records table a zero = refl
no_records table a (suc n) = no_records table (a + 1) n

-- the chains of keys have as many records, each once
all_chained : (table : Table) (keys : List ℕ) (n : ℕ) → 0 < table.buckets → n ≤ length keys → IsPermutation (map (record_at table.pool) (range_with_len 0 n)) (records_in (chains_for table (take n keys)))
all_chained table keys zero some below = subst (IsPermutation []) (sym (no_records table 0 table.buckets)) (IsPermutation-refl [])
all_chained table keys (suc n) some below =
    let front = take n keys in
    let key = get_or keys n 0 in
    let long : length front ≡ n = length-take-le n keys (omega arith) in
    let next : n + 1 ≡ suc n = omega arith in
    let more : take (suc n) keys ≡ front ++ key ∷ [] = ap (λ k. take k keys) (sym next) ∙ take_more keys n 0 (omega arith) in
    let records : map (record_at table.pool) (range_with_len 0 (suc n)) ≡ map (record_at table.pool) (range_with_len 0 n) ++ record_at table.pool n ∷ [] =
    ap (λ k. map (record_at table.pool) (range_with_len 0 k)) (sym next) ∙ map-range_with_len_more (record_at table.pool) 0 n n (zero-add n) in
    let olds = chains_for table front in
    let home = key % table.buckets in
    let inside : home < length olds = omega (arith, some, length-chains_for table front) in
    let before = all_chained table keys n some (omega arith) in
    let pushed : IsPermutation (record_at table.pool (length front) ∷ records_in olds) (records_in (chains_for table (front ++ key ∷ []))) =
    subst (λ l. IsPermutation (record_at table.pool (length front) ∷ records_in olds) (records_in l)) (sym (chains_push table front key some)) (records_more olds home (record_at table.pool (length front)) inside) in
    let here : IsPermutation (record_at table.pool n ∷ records_in olds) (records_in (chains_for table (take (suc n) keys))) =
    subst (λ l. IsPermutation (record_at table.pool n ∷ records_in olds) (records_in (chains_for table l))) (sym more) (subst (λ k. IsPermutation (record_at table.pool k ∷ records_in olds) (records_in (chains_for table (front ++ key ∷ [])))) long pushed) in
    subst (λ l. IsPermutation l (records_in (chains_for table (take (suc n) keys)))) (sym records)
    (IsPermutation-trans _ _ _ (IsPermutation-to_front (map (record_at table.pool) (range_with_len 0 n)) (record_at table.pool n))
    (IsPermutation-trans _ _ _ (IsPermutation-cons (record_at table.pool n) _ _ before) here))

-- the first records, as many as there are keys
abbrev pub first_records : Pool → ℕ → Pool
first_records pool n = record pool { count = n }

pub chained_once : (table : Table) (keys : List ℕ) → 0 < table.buckets → IsPermutation (records_of (first_records table.pool (length keys))) (records_in (chains_for table keys))
chained_once table keys some =
    subst (λ l. IsPermutation (records_of (first_records table.pool (length keys))) (records_in (chains_for table l))) (take_all (length keys) keys (omega arith)) (all_chained table keys (length keys) some (omega arith))

-- the first records of a pool, and those behind them
range_split : (a n m : ℕ) → range_with_len a (n + m) ≡ range_with_len a n ++ range_with_len (a + n) m
range_split a zero m = ap₂ range_with_len (omega arith) (zero-add m)
range_split a (suc n) m =
    let longer : suc n + m ≡ suc (n + m) = omega arith in
    let later : a + 1 + n ≡ a + suc n = omega arith in
    ap (range_with_len a) longer ∙ ap (λ l. a ∷ l) (range_split (a + 1) n m ∙ ap (λ k. range_with_len (a + 1) n ++ range_with_len k m) later)

module _ {R : Type 0} (form : RowForm R) (rows : List R) {table : Table} {n : ℕ} {a : List ℕ} (fits : FitsTable table n) (differ : AllPairs (λ r s. form.key r ≢ form.key s) rows) (filled : IsFilled form table a rows) where
  abbrev keys : List ℕ
  keys = map form.key rows

  abbrev chains : List (List ℕ)
  chains = chains_for table keys

  abbrev taken : Pool
  taken = first_records table.pool (length rows)

  once : IsPermutation (records_of taken) (records_in chains)
  once = subst (λ k. IsPermutation (records_of (first_records table.pool k)) (records_in chains)) (length-map rows form.key) (chained_once table keys fits.buckets)

  count : length (records_in chains) ≡ length rows
  count = as_many taken (records_in chains) once

  index_of : (x : ℕ) → Contains (records_in chains) x → IsRecord taken x
  index_of x among = each_at (IsRecord taken) (records_in chains) x (each_is_record taken (records_in chains) once) among

  key_at : (i : ℕ) → i < length rows → slice_index a (record_at table.pool i) ≡ get_or keys i 0
  key_at i under =
      let there = there_is rows i under in
      let row = there.0 in
      (filled.held i row there.1).key ∙ sym (get_or-map form.key rows i row 0 under ∙ ap form.key (get_or_from_slice_get rows i row row there.1))

  one_key : (i j : ℕ) → i < j → j < length rows → get_or keys i 0 ≡ get_or keys j 0 → ⊥
  one_key i j less under same =
      let row = (there_is rows j under).0 in
      differ i j row less under (sym (get_or-map form.key rows i row 0 (omega arith)) ∙ same ∙ get_or-map form.key rows j row 0 under)

  all_records : IsPermutation (records_of table.pool) (free_from table.pool (length rows) ++ records_in chains)
  all_records =
      let more : length rows + (table.pool.count - length rows) ≡ table.pool.count = omega (arith, filled.few) in
      let split : records_of table.pool ≡ records_of taken ++ free_from table.pool (length rows) =
      ap (λ k. map (record_at table.pool) (range_with_len 0 k)) (sym more)
      ∙ ap (map (record_at table.pool)) (range_split 0 (length rows) (table.pool.count - length rows) ∙ ap (λ k. range_with_len 0 (length rows) ++ range_with_len k (table.pool.count - length rows)) (zero-add (length rows)))
      ∙ map-append (record_at table.pool) (range_with_len 0 (length rows)) (range_with_len (length rows) (table.pool.count - length rows)) in
      subst (λ l. IsPermutation l (free_from table.pool (length rows) ++ records_in chains)) (sym split)
      (IsPermutation-trans _ _ _ (IsPermutation-append_comm (records_of taken) (free_from table.pool (length rows)))
      (IsPermutation-append_right (free_from table.pool (length rows)) (records_of taken) (records_in chains) once))

  lawful : IsTable table a chains (free_from table.pool (length rows))
  lawful = record {
    pool = record {
      links = filled.free;
      live = filled.live ∙ sym count;
      once = all_records;
    };
    buckets = length-chains_for table keys;
    links = λ bucket below. subst (Linked a (table.at + bucket)) (sym (chain_at table keys bucket [] below)) (filled.chains bucket below);
    homes = λ bucket below. subst (All (λ at. slice_index a at % table.buckets ≡ bucket)) (sym (chain_at table keys bucket [] below))
        (All-from_recursion (λ at. slice_index a at % table.buckets ≡ bucket) (chain_for table keys bucket)
        (each_weaker {P = IsChained table keys bucket} {Q = λ at. slice_index a at % table.buckets ≡ bucket} (chain_for table keys bucket)
        (λ x (chained : IsChained table keys bucket x).
        let under : chained.index < length rows = omega (arith, chained.below, length-map rows form.key) in
        ap (λ k. k % table.buckets) (ap (slice_index a) chained.is ∙ key_at chained.index under) ∙ chained.home)
        (chain_each table keys bucket)));
    keys = λ x y cx cy same.
        let rx = index_of x cx in
        let ry = index_of y cy in
        let keys_same : get_or keys rx.index 0 ≡ get_or keys ry.index 0 = sym (key_at rx.index rx.below) ∙ ap (slice_index a) (sym rx.is) ∙ same ∙ ap (slice_index a) ry.is ∙ key_at ry.index ry.below in
        elim (cases_order rx.index ry.index) [
          | inl one ↦ rx.is ∙ ap (record_at table.pool) one ∙ sym ry.is
          | inr two ↦ elim two [
            | inl before ↦ absurd (one_key rx.index ry.index before ry.below keys_same)
            | inr behind ↦ absurd (one_key ry.index rx.index behind rx.below (sym keys_same))
          ]
        ];
  }

  pub has_rows : HasRows form table a rows
  has_rows = record {
    chains = chains;
    free = free_from table.pool (length rows);
    lawful = lawful;
    count = count;
    holds = λ at among.
        let r = index_of at among in
        let there = there_is rows r.index r.below in
        (there.0, (r.index, r.below, get_or_from_slice_get rows r.index there.0 there.0 there.1), subst (λ x. HoldsRow form a x there.0) (sym r.is) (filled.held r.index there.0 there.1));
    held = λ row among.
        (record_at table.pool among.0, has_record taken (records_in chains) once (record { index = among.0; below = among.1; is = refl }), filled.held among.0 row (slice_get-get_or rows among.0 row among.1 ∙ ap Some among.2));
  }

-- an index has the keys of all subscribers
index_stands : {tree : Tree} (S : ℕ) {a : List ℕ} → IsIndexed tree nth_key S a → HasKeys tree a (map location_key (population S).subscribers)
index_stands {tree} S is = record {
  shape = is.shape;
  free_leaves = free_from tree.leaves S;
  free_inner = free_from tree.inner (S - 1);
  lawful = is.lawful;
  same = subst (IsPermutation (keys_in is.shape)) (map_twice location_key subscriber_at (range_with_len 1 S)) (grown_list tree (λ s. location_key (subscriber_at s)) S is.shape is.grown);
}

-- The home of a new database stands for the population.
pub population_stands : {s : Sizes} {a : List ℕ} → IsAccepted s → IsPopulated s a → StandsFor s a (population s.subscribers)
population_stands {s} {a} accepted is =
    let rows = population s.subscribers in
    let tables = is.tables in
    let order = IsInOrder-population s.subscribers (omega (arith, accepted.subscribers.high)) in
    record {
      size = tables.size;
      in_order = order;
      subscribers = has_rows subscriber_form rows.subscribers (subscribers_fit accepted) (keys_differ (λ r. r.s_id) rows.subscribers order.subscribers_rise) tables.subscribers;
      numbers = has_rows number_form rows.subscribers (numbers_fit accepted) order.phones_differ tables.numbers;
      access = has_rows access_form rows.access (access_fits accepted) (keys_differ access_key rows.access order.access_rise) tables.access;
      facilities = has_rows facility_form rows.facilities (facilities_fit accepted) (keys_differ facility_key rows.facilities order.facilities_rise) tables.facilities;
      calls = has_rows call_form rows.calls (calls_fit accepted) (keys_differ call_key rows.calls order.calls_rise) tables.calls;
      index = λ some. index_stands s.subscribers (is.index some);
    }
