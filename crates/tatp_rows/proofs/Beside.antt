-- Tables that are filled one after another in one array.
use Rattle.std.proofs.Common.{◌≡◌, ℕ, zero, suc, ◌+◌, ◌-◌, ◌*◌, ◌<◌, ◌≤◌, ◌⊎◌, inl, inr, List, [], ◌∷◌, length, map, slice_index, sym, ap, ◌∙◌, arith}
use Rattle.std.proofs.lemmas.List.{length-map}
use Rattle.std.proofs.lemmas.Option.{slice_get_within}
use Rattle.std.specs.List.{AllByRecursion, range_with_len}
use Rattle.dude_base.specs.declared.limits.TheConstants.{PAGE}
use Rattle.dude_base.specs.declared.sizes.Sizes.{Sizes}
use Rattle.record_heap.specs.declared.pool.Pool.{Pool}
use Rattle.record_heap.specs.Pool.{IsRecord}
use Rattle.record_heap.proofs.Arrays.{linked_from}
use Rattle.hash_table.specs.declared.table.Table.{Table}
use Rattle.hash_table.specs.Ranges.{FitsRange}
use Rattle.tatp_model.specs.declared.sub_row.SubRow.{SubRow}
use Rattle.tatp_model.specs.declared.access_row.AccessRow.{AccessRow}
use Rattle.tatp_model.specs.declared.fac_row.FacRow.{FacRow}
use Rattle.tatp_model.specs.declared.call_row.CallRow.{CallRow}
use Rattle.tatp_model.specs.Population.{population}
use Rattle.tatp_layout.specs.Layout.{number_base, access_base, facility_base, call_base, leaf_base, subscriber_table, number_table, access_table, facility_table, call_table}
use Rattle.tatp_layout.specs.Records.{RowForm, HasWords, subscriber_form, number_form, access_form, facility_form, call_form}
use Rattle.tatp_layout.proofs.Places.{subscriber_range, number_range, access_range, facility_range, call_range, number_after, access_after, facility_after}
use Rattle.tatp_layout.proofs.Indexes.{call_before, number_before}
use Rattle.tatp_rows.specs.Filled.{record_at, chain_for, free_from, IsFilled, IsUnused, Fills}
use Rattle.tatp_rows.specs.Filling.{IsEmpty}
use Rattle.tatp_rows.specs.Populated.{HasPopulation, StaysBeforeIndex}
use Rattle.tatp_rows.proofs.ChainLists.{is_record, IsChained, chain_each}
use Rattle.tatp_rows.proofs.Inserted.{each_weaker}

-- the two arrays agree on a range
abbrev pub SameIn : ℕ → ℕ → List ℕ → List ℕ → Type 0
SameIn low high a b = (i : ℕ) → low ≤ i → i < high → slice_index b i ≡ slice_index a i

words_stay : (a b words : List ℕ) (at : ℕ) → SameIn at (at + length words) a b → HasWords a at words → HasWords b at words
words_stay a b [] at same has = tt
words_stay a b (word ∷ words) at same has = (same at (omega arith) (omega arith) ∙ has.0, words_stay a b words (at + 1) (λ i from under. same i (omega arith) (omega (arith, under))) has.1)

-- the links of free records
each_free : (pool : Pool) (a b : List ℕ) (m n : ℕ) → n + m ≤ pool.count → ((k : ℕ) → k < pool.count → slice_index b (record_at pool k + 1) ≡ slice_index a (record_at pool k + 1))
    → AllByRecursion (λ x. slice_index b (x + 1) ≡ slice_index a (x + 1)) (map (record_at pool) (range_with_len n m))
each_free pool a b zero n whole same = tt
each_free pool a b (suc m) n whole same = (same n (omega arith), each_free pool a b m (n + 1) (omega arith) same)

module _ {R : Type 0} (form : RowForm R) (rows : List R) {table : Table} {low high : ℕ} (range : FitsRange table low high) (room : (row : R) → 2 + length (form.words row) ≤ table.pool.size) where
  -- the words outside its range are no words of a filled table
  pub unused_outside : (i : ℕ) → length rows ≤ table.pool.count → (i < low) ⊎ (high ≤ i) → 2 ≤ table.pool.size → IsUnused form table rows i
  unused_outside i few out wide = record {
    first = omega (arith, range.header_from, range.header_to, out);
    live = omega (arith, range.header_from, range.header_to, out);
    links = elim out [
      | inl before ↦ inr (omega (arith, before, range.links_from))
      | inr behind ↦ inl (omega (arith, behind, range.links_to))
    ];
    taken = λ k row is.
        let r : IsRecord table.pool (record_at table.pool k) = is_record (omega (arith, slice_get_within rows k row is, few)) in
        elim out [
          | inl before ↦ inr (omega (arith, before, range.record_from _ r))
          | inr behind ↦ inl (omega (arith, behind, range.record_to _ r, room row))
        ];
    free = λ k from below.
        let r : IsRecord table.pool (record_at table.pool k) = is_record below in
        omega (arith, out, range.record_from _ r, range.record_to _ r, wide);
  }

  -- what is filled stays so where its range stays the same
  pub filled_stays : {a b : List ℕ} → 2 ≤ table.pool.size → SameIn low high a b → IsFilled form table a rows → IsFilled form table b rows
  filled_stays {a} {b} wide same filled =
      let link : (k : ℕ) → k < table.pool.count → slice_index b (record_at table.pool k + 1) ≡ slice_index a (record_at table.pool k + 1) = λ k below.
      let r : IsRecord table.pool (record_at table.pool k) = is_record below in
      same (record_at table.pool k + 1) (omega (arith, range.record_from _ r)) (omega (arith, range.record_to _ r, wide)) in
      let keys = map form.key rows in
      let Q : ℕ → Type 0 = λ x. slice_index b (x + 1) ≡ slice_index a (x + 1) in
      record {
        few = filled.few;
        held = λ i row is.
            let r : IsRecord table.pool (record_at table.pool i) = is_record (omega (arith, slice_get_within rows i row is, filled.few)) in
            let was = filled.held i row is in
            record {
              key = same (record_at table.pool i) (range.record_from _ r) (omega (arith, range.record_to _ r, wide)) ∙ was.key;
              words = words_stay a b (form.words row) (record_at table.pool i + 2) (λ j from under. same j (omega (arith, from, range.record_from _ r)) (omega (arith, under, range.record_to _ r, room row))) was.words;
              lengths = was.lengths;
            };
        chains = λ bucket below.
            linked_from a b (table.at + bucket) (table.at + bucket) (chain_for table keys bucket)
            (same (table.at + bucket) (omega (arith, range.links_from)) (omega (arith, range.links_to, below)))
            (each_weaker {P = IsChained table keys bucket} {Q = Q} (chain_for table keys bucket)
            (λ x (chained : IsChained table keys bucket x).
            ap (λ y. slice_index b (y + 1)) chained.is ∙ link chained.index (omega (arith, chained.below, length-map rows form.key, filled.few)) ∙ ap (λ y. slice_index a (y + 1)) (sym chained.is))
            (chain_each table keys bucket))
            (filled.chains bucket below);
        free = linked_from a b table.pool.base table.pool.base (free_from table.pool (length rows)) (same table.pool.base range.header_from (omega (arith, range.header_to)))
            (each_free table.pool a b (table.pool.count - length rows) (length rows) (omega (arith, filled.few)) link) filled.free;
        live = same (table.pool.base + 1) (omega (arith, range.header_from)) (omega (arith, range.header_to)) ∙ filled.live;
      }

-- ---- the five tables

-- their fields have room in their records
pub few_words : (s : Sizes) → ((row : SubRow) → 2 + length (subscriber_form.words row) ≤ (subscriber_table s).pool.size) × ((row : SubRow) → 2 + length (number_form.words row) ≤ (number_table s).pool.size)
few_words s = (λ row. omega arith, λ row. omega arith)

pub few_access : (s : Sizes) (row : AccessRow) → 2 + length (access_form.words row) ≤ (access_table s).pool.size
few_access s row = omega arith

pub few_facility : (s : Sizes) (row : FacRow) → 2 + length (facility_form.words row) ≤ (facility_table s).pool.size
few_facility s row = omega arith

pub few_call : (s : Sizes) (row : CallRow) → 2 + length (call_form.words row) ≤ (call_table s).pool.size
few_call s row = omega arith

module _ (s : Sizes) {a b : List ℕ} where
  pub beside_subscribers : {rows : List SubRow} → Fills subscriber_form (subscriber_table s) rows a b → (i : ℕ) → number_base s ≤ i → slice_index b i ≡ slice_index a i
  beside_subscribers {rows} fills i from = fills.others i (unused_outside subscriber_form rows (subscriber_range s) (few_words s).0 i fills.filled.few (inr from) (omega arith))

  pub beside_numbers : {rows : List SubRow} → Fills number_form (number_table s) rows a b → (i : ℕ) → (i < number_base s) ⊎ (access_base s ≤ i) → slice_index b i ≡ slice_index a i
  beside_numbers {rows} fills i out = fills.others i (unused_outside number_form rows (number_range s) (few_words s).1 i fills.filled.few out (omega arith))

  pub beside_access : {rows : List AccessRow} → Fills access_form (access_table s) rows a b → (i : ℕ) → (i < access_base s) ⊎ (facility_base s ≤ i) → slice_index b i ≡ slice_index a i
  beside_access {rows} fills i out = fills.others i (unused_outside access_form rows (access_range s) (few_access s) i fills.filled.few out (omega arith))

  pub beside_facilities : {rows : List FacRow} → Fills facility_form (facility_table s) rows a b → (i : ℕ) → (i < facility_base s) ⊎ (call_base s ≤ i) → slice_index b i ≡ slice_index a i
  beside_facilities {rows} fills i out = fills.others i (unused_outside facility_form rows (facility_range s) (few_facility s) i fills.filled.few out (omega arith))

  pub beside_calls : {rows : List CallRow} → Fills call_form (call_table s) rows a b → (i : ℕ) → i < call_base s → slice_index b i ≡ slice_index a i
  beside_calls {rows} fills i under = fills.others i (unused_outside call_form rows (call_range s) (few_call s) i fills.filled.few (inl under) (omega arith))

-- where each word was 0, a table behind those that are filled is empty
pub empty_numbers : (s : Sizes) {a b : List ℕ} {rows : List SubRow} → ((i : ℕ) → slice_index a i ≡ 0) → Fills subscriber_form (subscriber_table s) rows a b → IsEmpty (number_table s) b
empty_numbers s zeros subscribers bucket under =
    let i = (number_table s).at + bucket in
    beside_subscribers s subscribers i (omega (arith, (number_range s).links_from)) ∙ zeros i

pub empty_access : (s : Sizes) {a b c : List ℕ} {rows more : List SubRow} → ((i : ℕ) → slice_index a i ≡ 0) → Fills subscriber_form (subscriber_table s) rows a b → Fills number_form (number_table s) more b c → IsEmpty (access_table s) c
empty_access s zeros subscribers numbers bucket under =
    let i = (access_table s).at + bucket in
    let from : access_base s ≤ i = omega (arith, (access_range s).links_from) in
    beside_numbers s numbers i (inr from) ∙ beside_subscribers s subscribers i (omega (arith, from, number_after s)) ∙ zeros i

pub empty_facilities : (s : Sizes) {a b c d : List ℕ} {rows more : List SubRow} {access_rows : List AccessRow} → ((i : ℕ) → slice_index a i ≡ 0) → Fills subscriber_form (subscriber_table s) rows a b → Fills number_form (number_table s) more b c → Fills access_form (access_table s) access_rows c d → IsEmpty (facility_table s) d
empty_facilities s zeros subscribers numbers access bucket under =
    let i = (facility_table s).at + bucket in
    let from : facility_base s ≤ i = omega (arith, (facility_range s).links_from) in
    let later : access_base s ≤ i = omega (arith, from, access_after s) in
    beside_access s access i (inr from) ∙ beside_numbers s numbers i (inr later) ∙ beside_subscribers s subscribers i (omega (arith, later, number_after s)) ∙ zeros i

pub empty_calls : (s : Sizes) {a b c d e : List ℕ} {rows more : List SubRow} {access_rows : List AccessRow} {facilities_are : List FacRow} → ((i : ℕ) → slice_index a i ≡ 0) → Fills subscriber_form (subscriber_table s) rows a b → Fills number_form (number_table s) more b c → Fills access_form (access_table s) access_rows c d → Fills facility_form (facility_table s) facilities_are d e → IsEmpty (call_table s) e
empty_calls s zeros subscribers numbers access facilities bucket under =
    let i = (call_table s).at + bucket in
    let from : call_base s ≤ i = omega (arith, (call_range s).links_from) in
    let last : facility_base s ≤ i = omega (arith, from, facility_after s) in
    let later : access_base s ≤ i = omega (arith, last, access_after s) in
    beside_facilities s facilities i (inr from) ∙ beside_access s access i (inr last) ∙ beside_numbers s numbers i (inr later) ∙ beside_subscribers s subscribers i (omega (arith, later, number_after s)) ∙ zeros i

-- the words behind all five stay 0
pub behind_tables : (s : Sizes) {a b c d e f : List ℕ} {rows more : List SubRow} {access_rows : List AccessRow} {facilities_are : List FacRow} {calls_are : List CallRow} → ((i : ℕ) → slice_index a i ≡ 0) → Fills subscriber_form (subscriber_table s) rows a b → Fills number_form (number_table s) more b c → Fills access_form (access_table s) access_rows c d → Fills facility_form (facility_table s) facilities_are d e → Fills call_form (call_table s) calls_are e f → (i : ℕ) → leaf_base s ≤ i → slice_index f i ≡ 0
behind_tables s {calls_are = calls_are} zeros subscribers numbers access facilities calls i from =
    let last : call_base s ≤ i = omega (arith, from, call_before s) in
    let fourth : facility_base s ≤ i = omega (arith, last, facility_after s) in
    let third : access_base s ≤ i = omega (arith, fourth, access_after s) in
    calls.others i (unused_outside call_form calls_are (call_range s) (few_call s) i calls.filled.few (inr (omega (arith, from))) (omega arith))
    ∙ beside_facilities s facilities i (inr last) ∙ beside_access s access i (inr fourth) ∙ beside_numbers s numbers i (inr third) ∙ beside_subscribers s subscribers i (omega (arith, third, number_after s)) ∙ zeros i

-- once all five are filled
pub all_filled : {s : Sizes} {a b c d e f : List ℕ} → length f ≡ s.pages * PAGE → ((i : ℕ) → slice_index a i ≡ 0)
    → Fills subscriber_form (subscriber_table s) (population s.subscribers).subscribers a b
    → Fills number_form (number_table s) (population s.subscribers).subscribers b c
    → Fills access_form (access_table s) (population s.subscribers).access c d
    → Fills facility_form (facility_table s) (population s.subscribers).facilities d e
    → Fills call_form (call_table s) (population s.subscribers).calls e f
    → HasPopulation s f
all_filled {s} size zeros subscribers numbers access facilities calls =
    let first = number_after s in
    let second = access_after s in
    let third = facility_after s in
    let rows = population s.subscribers in
    record {
      size = size;
      subscribers = filled_stays subscriber_form rows.subscribers (subscriber_range s) (few_words s).0 (omega arith)
          (λ i from under. beside_calls s calls i (omega (arith, under, first, second, third)) ∙ beside_facilities s facilities i (inl (omega (arith, under, first, second))) ∙ beside_access s access i (inl (omega (arith, under, first))) ∙ beside_numbers s numbers i (inl under))
          subscribers.filled;
      numbers = filled_stays number_form rows.subscribers (number_range s) (few_words s).1 (omega arith)
          (λ i from under. beside_calls s calls i (omega (arith, under, second, third)) ∙ beside_facilities s facilities i (inl (omega (arith, under, second))) ∙ beside_access s access i (inl under))
          numbers.filled;
      access = filled_stays access_form rows.access (access_range s) (few_access s) (omega arith)
          (λ i from under. beside_calls s calls i (omega (arith, under, third)) ∙ beside_facilities s facilities i (inl under))
          access.filled;
      facilities = filled_stays facility_form rows.facilities (facility_range s) (few_facility s) (omega arith) (λ i from under. beside_calls s calls i under) facilities.filled;
      calls = calls.filled;
      zeros = λ i unused. calls.others i unused.calls ∙ facilities.others i unused.facilities ∙ access.others i unused.access ∙ numbers.others i unused.numbers ∙ subscribers.others i unused.subscribers ∙ zeros i;
    }

-- what the tables have stays where no word changes in front of an index
pub population_stays : {s : Sizes} {a b : List ℕ} → length b ≡ length a → StaysBeforeIndex s a b → HasPopulation s a → HasPopulation s b
population_stays {s} {a} {b} long same is =
    let calls = call_before s in
    let facilities = facility_after s in
    let access = access_after s in
    let numbers = number_after s in
    let rows = population s.subscribers in
    record {
      size = long ∙ is.size;
      subscribers = filled_stays subscriber_form rows.subscribers (subscriber_range s) (few_words s).0 (omega arith) (λ i from under. same i (λ some. omega (arith, under, number_before s))) is.subscribers;
      numbers = filled_stays number_form rows.subscribers (number_range s) (few_words s).1 (omega arith) (λ i from under. same i (λ some. omega (arith, under, access, facilities, calls))) is.numbers;
      access = filled_stays access_form rows.access (access_range s) (few_access s) (omega arith) (λ i from under. same i (λ some. omega (arith, under, facilities, calls))) is.access;
      facilities = filled_stays facility_form rows.facilities (facility_range s) (few_facility s) (omega arith) (λ i from under. same i (λ some. omega (arith, under, calls))) is.facilities;
      calls = filled_stays call_form rows.calls (call_range s) (few_call s) (omega arith) (λ i from under. same i (λ some. omega (arith, under))) is.calls;
      zeros = λ i unused. same i unused.index ∙ is.zeros i unused;
    }
