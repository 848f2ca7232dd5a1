-- A filled table tells its words, and a home of the population is one array.
use Rattle.std.proofs.Common.{◌≡◌, ◌≢◌, ℕ, zero, suc, ◌+◌, ◌-◌, ◌*◌, ◌/◌, ◌%◌, ◌<◌, ◌≤◌, ◌⊎◌, inl, inr, List, [], ◌∷◌, length, map, Contains, slice_index, Some, refl, sym, ap, subst, ◌∙◌, arith, add-zero}
use Rattle.std.specs.Prelude.{slice_get}
use Rattle.std.proofs.Math.Nat.{div-add-mod, mul-le-mul_left}
use Rattle.std.proofs.lemmas.Bool.{cases_eq, cases_lt}
use Rattle.std.proofs.lemmas.Nat.{mod_below}
use Rattle.std.proofs.lemmas.List.{length-map, ext_get_or}
use Rattle.std.proofs.lemmas.Option.{slice_get_within}
use Rattle.std.specs.List.{AllByRecursion, range_with_len}
use Rattle.dude_base.specs.declared.sizes.Sizes.{Sizes}
use Rattle.dude_base.specs.Sizes.{IsAccepted}
use Rattle.record_heap.specs.declared.pool.Pool.{Pool}
use Rattle.record_heap.specs.Links.{Linked}
use Rattle.record_heap.specs.Pool.{AreApart, IsRecord}
use Rattle.record_heap.proofs.Records.{has_record}
use Rattle.hash_table.specs.declared.table.Table.{Table}
use Rattle.hash_table.specs.Table.{FitsTable, records_in}
use Rattle.hash_table.proofs.Chains.{each_at, chain_with}
use Rattle.tatp_model.specs.Population.{population}
use Rattle.tatp_layout.specs.Layout.{leaf_base}
use Rattle.tatp_layout.specs.Records.{RowForm, HasWords, subscriber_form, number_form, access_form, facility_form, call_form}
use Rattle.tatp_layout.proofs.Places.{subscribers_fit, numbers_fit, access_fits, facilities_fit, calls_fit}
use Rattle.tatp_rows.specs.Populated.{IsBeforeIndex, IsIndexedTo, IsPopulated, IsUnusedByAll}
use Rattle.tatp_rows.proofs.Beside.{few_words, few_access, few_facility, few_call}
use Rattle.tatp_rows.specs.Filled.{record_at, chain_for, free_from, IsFilled, IsUnused}
use Rattle.tatp_rows.proofs.ChainLists.{record_before}
use Rattle.tatp_rows.proofs.Fillings.{there_is}
use Rattle.tatp_rows.proofs.Finished.{linked_head}
use Rattle.tatp_rows.proofs.OneIndex.{indexed_same}
use Rattle.tatp_rows.proofs.Standing.{chains_for, chain_at, length-chains_for, first_records, chained_once}

-- one list in two arrays: its links are the same
linked_each : (a b : List ℕ) (link : ℕ) (xs : List ℕ) → Linked a link xs → Linked b link xs → AllByRecursion (λ x. slice_index a (x + 1) ≡ slice_index b (x + 1)) xs
linked_each a b link [] la lb = tt
linked_each a b link (x ∷ xs) la lb = (linked_head a b (x + 1) xs la.1 lb.1, linked_each a b (x + 1) xs la.1 lb.1)

words_same : (a b words : List ℕ) (at k : ℕ) → HasWords a at words → HasWords b at words → k < length words → slice_index a (at + k) ≡ slice_index b (at + k)
words_same a b [] at k ha hb under = absurd (omega arith)
words_same a b (word ∷ words) at zero ha hb under = ap (slice_index a) (add-zero at) ∙ ha.0 ∙ sym hb.0 ∙ ap (slice_index b) (sym (add-zero at))
words_same a b (word ∷ words) at (suc k) ha hb under =
    let place : at + suc k ≡ at + 1 + k = omega arith in
    ap (slice_index a) place ∙ words_same a b words (at + 1) k ha.1 hb.1 (omega arith) ∙ ap (slice_index b) (sym place)

-- a word of a record
record IsWithin (pool : Pool) (i : ℕ) : Type 0 where
  pub index : ℕ
  pub offset : ℕ
  pub below : index < pool.count
  pub small : offset < pool.size
  pub is : i ≡ record_at pool index + offset

within_or_apart : (pool : Pool) (i : ℕ) → 0 < pool.size → IsWithin pool i ⊎ ((k : ℕ) → k < pool.count → AreApart (record_at pool k) pool.size i 1)
within_or_apart pool i wide =
    elim (cases_lt i pool.first) [
      | inl before ↦ inr (λ k below. inr (omega arith))
      | inr from ↦
          let whole = div-add-mod (i - pool.first) pool.size in
          elim (cases_lt ((i - pool.first) / pool.size) pool.count) [
            | inl below ↦ inl (record { index = (i - pool.first) / pool.size; offset = (i - pool.first) % pool.size; below = below; small = mod_below (i - pool.first) pool.size wide; is = omega (arith, whole, from) })
            | inr past ↦ inr (λ k below. inl (let step : pool.size * (k + 1) ≤ pool.size * ((i - pool.first) / pool.size) = mul-le-mul_left pool.size (omega arith) in omega (arith, step, whole, from)))
          ]
    ]

other_apart : (pool : Pool) (i j : ℕ) (w : IsWithin pool i) → j ≢ w.index → AreApart (record_at pool j) pool.size i 1
other_apart pool i j w differ =
    elim (cases_lt j w.index) [
      | inl before ↦ inl (omega (arith, record_before pool j w.index before, w.is))
      | inr behind ↦ inr (omega (arith, record_before pool w.index j (omega (arith, behind, differ)), w.is, w.small))
    ]

some_one : {A : Type 0} {x y : A} → Some x ≡ Some y → x ≡ y
some_one same = cc

-- fewer words lie apart too
fewer_apart : {x m n i : ℕ} → n ≤ m → AreApart x m i 1 → AreApart x n i 1
fewer_apart less apart = elim apart [ inl before ↦ inl (omega (arith, before, less)) | inr behind ↦ inr behind ]

free_at : (P : ℕ → Type 0) (pool : Pool) (m n k : ℕ) → AllByRecursion P (map (record_at pool) (range_with_len n m)) → n ≤ k → k < n + m → P (record_at pool k)
free_at P pool zero n k all from below = absurd (omega arith)
free_at P pool (suc m) n k all from below =
    elim (cases_eq k n) [
      | inl same ↦ subst P (ap (record_at pool) (sym same)) all.0
      | inr other ↦ free_at P pool m (n + 1) k all.1 (omega arith) (omega arith)
    ]

module _ {R : Type 0} (form : RowForm R) (rows : List R) {table : Table} {n : ℕ} {a b : List ℕ} (fits : FitsTable table n) (room : (row : R) → 2 + length (form.words row) ≤ table.pool.size) (fa : IsFilled form table a rows) (fb : IsFilled form table b rows) where
  abbrev keys : List ℕ
  keys = map form.key rows

  -- the links of taken and of free records
  taken_link : (k : ℕ) → k < length rows → slice_index a (record_at table.pool k + 1) ≡ slice_index b (record_at table.pool k + 1)
  taken_link k under =
      let r : IsRecord (first_records table.pool (length keys)) (record_at table.pool k) = record { index = k; below = omega (arith, under, length-map rows form.key); is = refl } in
      let among = has_record (first_records table.pool (length keys)) (records_in (chains_for table keys)) (chained_once table keys fits.buckets) r in
      let found = chain_with (chains_for table keys) (record_at table.pool k) among in
      let below : found.0 < table.buckets = omega (arith, found.1, length-chains_for table keys) in
      let here : Contains (chain_for table keys found.0) (record_at table.pool k) = subst (λ l. Contains l (record_at table.pool k)) (chain_at table keys found.0 [] below) found.2 in
      each_at (λ x. slice_index a (x + 1) ≡ slice_index b (x + 1)) (chain_for table keys found.0) (record_at table.pool k)
      (linked_each a b (table.at + found.0) (chain_for table keys found.0) (fa.chains found.0 below) (fb.chains found.0 below)) here

  free_link_same : (k : ℕ) → length rows ≤ k → k < table.pool.count → slice_index a (record_at table.pool k + 1) ≡ slice_index b (record_at table.pool k + 1)
  free_link_same k from below =
      free_at (λ x. slice_index a (x + 1) ≡ slice_index b (x + 1)) table.pool (table.pool.count - length rows) (length rows) k
      (linked_each a b table.pool.base (free_from table.pool (length rows)) fa.free fb.free) from (omega (arith, below, fa.few))

  abbrev AgreesAt : ℕ → Type 0
  AgreesAt i = (slice_index a i ≡ slice_index b i) ⊎ IsUnused form table rows i

  -- a word of a taken record
  in_taken : (i : ℕ) → i ≢ table.pool.base → i ≢ table.pool.base + 1 → AreApart table.at table.buckets i 1 → (w : IsWithin table.pool i) → w.index < length rows → AgreesAt i
  in_taken i not_first not_live links w taken =
      let there = there_is rows w.index taken in
      let row = there.0 in
      let at = record_at table.pool w.index in
      let ha = fa.held w.index row there.1 in
      let hb = fb.held w.index row there.1 in
      elim (cases_lt w.offset 1) [
        | inl zeroth ↦ let place : i ≡ at = omega (arith, w.is, zeroth) in inl (ap (slice_index a) place ∙ ha.key ∙ sym hb.key ∙ ap (slice_index b) (sym place))
        | inr some ↦ elim (cases_lt w.offset 2) [
          | inl first ↦ let place : i ≡ at + 1 = omega (arith, w.is, first, some) in inl (ap (slice_index a) place ∙ taken_link w.index taken ∙ ap (slice_index b) (sym place))
          | inr more ↦ elim (cases_lt w.offset (2 + length (form.words row))) [
            | inl field ↦
                let place : i ≡ at + 2 + (w.offset - 2) = omega (arith, w.is, more) in
                inl (ap (slice_index a) place ∙ words_same a b (form.words row) (at + 2) (w.offset - 2) ha.words hb.words (omega (arith, field, more)) ∙ ap (slice_index b) (sym place))
            | inr behind ↦ inr (record {
              first = not_first;
              live = not_live;
              links = links;
              taken = λ k other is.
                  elim (cases_eq k w.index) [
                    | inl same ↦
                        let one : other ≡ row = some_one (sym is ∙ ap (slice_get rows) same ∙ there.1) in
                        inl (omega (arith, ap (λ r. length (form.words r)) one, ap (record_at table.pool) same, behind, w.is))
                    | inr differ ↦ fewer_apart (room other) (other_apart table.pool i k w differ)
                  ];
              free = λ k from below. omega (arith, other_apart table.pool i k w (omega (arith, from, taken)), fits.pool.size);
            })
          ]
        ]
      ]

  -- a word of a free record
  in_free : (i : ℕ) → i ≢ table.pool.base → i ≢ table.pool.base + 1 → AreApart table.at table.buckets i 1 → (w : IsWithin table.pool i) → length rows ≤ w.index → AgreesAt i
  in_free i not_first not_live links w free =
      elim (cases_eq w.offset 1) [
        | inl link ↦ let place : i ≡ record_at table.pool w.index + 1 = omega (arith, w.is, link) in inl (ap (slice_index a) place ∙ free_link_same w.index free w.below ∙ ap (slice_index b) (sym place))
        | inr other ↦ inr (record {
          first = not_first;
          live = not_live;
          links = links;
          taken = λ k row is. fewer_apart (room row) (other_apart table.pool i k w (omega (arith, slice_get_within rows k row is, free)));
          free = λ k from below.
              elim (cases_eq k w.index) [
                | inl same ↦ omega (arith, w.is, other, ap (record_at table.pool) same)
                | inr differ ↦ omega (arith, other_apart table.pool i k w differ, fits.pool.size)
              ];
        })
      ]

  -- where i is none of the header's words and none of the buckets' links
  rest : (i : ℕ) → i ≢ table.pool.base → i ≢ table.pool.base + 1 → AreApart table.at table.buckets i 1 → AgreesAt i
  rest i not_first not_live links =
      elim (within_or_apart table.pool i (omega (arith, fits.pool.size))) [
        | inl w ↦ elim (cases_lt w.index (length rows)) [
          | inl taken ↦ in_taken i not_first not_live links w taken
          | inr free ↦ in_free i not_first not_live links w free
        ]
        | inr apart ↦ inr (record {
          first = not_first;
          live = not_live;
          links = links;
          taken = λ k row is. fewer_apart (room row) (apart k (omega (arith, slice_get_within rows k row is, fa.few)));
          free = λ k from below. omega (arith, apart k below, fits.pool.size);
        })
      ]

  -- each word is the same in both, or nothing is said of it
  pub told_or_unused : (i : ℕ) → (slice_index a i ≡ slice_index b i) ⊎ IsUnused form table rows i
  told_or_unused i =
      elim (cases_eq i table.pool.base) [
        | inl first ↦ inl (ap (slice_index a) first ∙ linked_head a b table.pool.base (free_from table.pool (length rows)) fa.free fb.free ∙ ap (slice_index b) (sym first))
        | inr not_first ↦ elim (cases_eq i (table.pool.base + 1)) [
          | inl live ↦ inl (ap (slice_index a) live ∙ fa.live ∙ sym fb.live ∙ ap (slice_index b) (sym live))
          | inr not_live ↦ elim (cases_lt i table.at) [
            | inl before ↦ rest i not_first not_live (inr (omega arith))
            | inr from ↦ elim (cases_lt i (table.at + table.buckets)) [
              | inr behind ↦ rest i not_first not_live (inl behind)
              | inl inside ↦
                  let place : i ≡ table.at + (i - table.at) = omega (arith, from) in
                  let below : i - table.at < table.buckets = omega (arith, from, inside) in
                  inl (ap (slice_index a) place ∙ linked_head a b (table.at + (i - table.at)) (chain_for table keys (i - table.at)) (fa.chains (i - table.at) below) (fb.chains (i - table.at) below) ∙ ap (slice_index b) (sym place))
            ]
          ]
        ]
      ]

-- where the words of an index are the same, a word is, or it is in front of the index
index_or_before : (s : Sizes) (n : ℕ) (a b : List ℕ) → IsIndexedTo s n a → IsIndexedTo s n b → (i : ℕ) → (slice_index a i ≡ slice_index b i) ⊎ IsBeforeIndex s i
index_or_before s n a b ia ib i =
    elim (cases_eq s.index 0) [
      | inl none ↦ inr (λ some. absurd (some none))
      | inr some ↦ elim (cases_lt i (leaf_base s)) [ inl before ↦ inr (λ _. before) | inr from ↦ inl (indexed_same (ia some) (ib some) i from) ]
    ]

-- a home of the population is one array
pub populated_same : {s : Sizes} {a b : List ℕ} → IsAccepted s → IsPopulated s a → IsPopulated s b → a ≡ b
populated_same {s} {a} {b} accepted pa pb =
    let rows = population s.subscribers in
    let fa = pa.tables in
    let fb = pb.tables in
    ext_get_or 0 a b (fa.size ∙ sym fb.size) (λ i under.
    elim (told_or_unused subscriber_form rows.subscribers (subscribers_fit accepted) (few_words s).0 fa.subscribers fb.subscribers i) [
      | inl told ↦ told
      | inr subscribers ↦ elim (told_or_unused number_form rows.subscribers (numbers_fit accepted) (few_words s).1 fa.numbers fb.numbers i) [
        | inl told ↦ told
        | inr numbers ↦ elim (told_or_unused access_form rows.access (access_fits accepted) (few_access s) fa.access fb.access i) [
          | inl told ↦ told
          | inr access ↦ elim (told_or_unused facility_form rows.facilities (facilities_fit accepted) (few_facility s) fa.facilities fb.facilities i) [
            | inl told ↦ told
            | inr facilities ↦ elim (told_or_unused call_form rows.calls (calls_fit accepted) (few_call s) fa.calls fb.calls i) [
              | inl told ↦ told
              | inr calls ↦ elim (index_or_before s s.subscribers a b pa.index pb.index i) [
                | inl told ↦ told
                | inr index ↦
                    let unused : IsUnusedByAll s i = record { subscribers = subscribers; numbers = numbers; access = access; facilities = facilities; calls = calls; index = index } in
                    fa.zeros i unused ∙ sym (fb.zeros i unused)
              ]
            ]
          ]
        ]
      ]
    ])
