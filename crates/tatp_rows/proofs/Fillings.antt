-- From rows that were inserted one after another to a filled table.
use Rattle.std.proofs.Common.{◌≡◌, ℕ, zero, suc, ◌+◌, ◌-◌, ◌<◌, ◌≤◌, List, [], ◌∷◌, ◌++◌, length, map, get_or, slice_index, All, Some, refl, sym, ap, subst, ◌∙◌, arith, add-zero, append_assoc, append-nil, length-append}
use Rattle.std.specs.Prelude.{slice_get}
use Rattle.std.proofs.lemmas.List.{length-map, get_or-map}
use Rattle.std.proofs.lemmas.Option.{get_or_from_slice_get, slice_get_within}
use Rattle.std.proofs.lemmas.List.FromFn.{length-map-range_with_len, map-range_with_len_more}
use Rattle.std.specs.List.{range_with_len}
use Rattle.record_heap.specs.Links.{Linked}
use Rattle.record_heap.specs.Pool.{AreApart}
use Rattle.record_heap.proofs.Arrays.{linked_from}
use Rattle.hash_table.specs.declared.table.Table.{Table}
use Rattle.hash_table.specs.Table.{FitsTable}
use Rattle.tatp_layout.specs.Records.{RowForm, HasWords, HoldsRow}
use Rattle.tatp_rows.specs.Filled.{record_at, chain_for, IsUnused, Fills}
use Rattle.tatp_rows.specs.Filling.{entry_of, key_of, entries_up_to, HasEntry, IsEmpty, IsFilling, Finishes, FillsWith, Inserts}
use Rattle.tatp_rows.proofs.ChainLists.{is_record, record_before, IsChained, chain_each}
use Rattle.tatp_rows.proofs.Inserted.{each_weaker}
use Rattle.tatp_rows.proofs.Populations.{flat_next}

-- no row yet
pub filling_none : {table : Table} {initial : List ℕ} → IsEmpty table initial → IsFilling table [] initial initial
filling_none empty = record {
  size = refl;
  room = λ k under. absurd (omega arith);
  held = λ k under. absurd (omega arith);
  chains = empty;
  others = λ i apart. refl;
}

-- no entry more
pub inserts_none : {table : Table} {index : ℕ} {a : List ℕ} → Inserts table index [] a a
inserts_none {table} {index} {a} entries initial long filling = subst (λ l. IsFilling table l initial a) (sym (append-nil entries)) filling

-- entries, and others behind them
pub inserts_then : {table : Table} {index : ℕ} {a b c : List ℕ} (xs ys : List (List ℕ)) (next : ℕ) → index + length xs ≡ next → Inserts table index xs a b → Inserts table next ys b c → Inserts table index (xs ++ ys) a c
inserts_then {table} {index} {a} {b} {c} xs ys next is first second entries initial long filling =
    subst (λ l. IsFilling table l initial c) (append_assoc entries xs ys) (second (entries ++ xs) initial (length-append entries xs ∙ omega (arith, long, is)) (first entries initial long filling))

-- the same behind the entries that a function gives for each of n numbers
pub inserts_next : {table : Table} {index : ℕ} {a b c : List ℕ} (f : ℕ → List ℕ) (from n j next : ℕ) {entry : List ℕ} → from + n ≡ j → index + n ≡ next → entry ≡ f j → Inserts table index (map f (range_with_len from n)) a b → Inserts table next (entry ∷ []) b c → Inserts table index (map f (range_with_len from (n + 1))) a c
inserts_next {table} {index} {a} {b} {c} f from n j next {entry} here there is first second =
    let done = map f (range_with_len from n) in
    let all : done ++ entry ∷ [] ≡ map f (range_with_len from (n + 1)) = ap (λ e. done ++ e ∷ []) is ∙ sym (map-range_with_len_more f from n j here) in
    subst (λ l. Inserts table index l a c) all (inserts_then done (entry ∷ []) next (omega (arith, length-map-range_with_len f from n, there)) first second)

-- the entries of one number more
pub entries_more : (f : ℕ → List (List ℕ)) (s : ℕ) → 1 ≤ s → entries_up_to f (s - 1) ++ f s ≡ entries_up_to f (s + 1 - 1)
entries_more f s low =
    let next : s - 1 + 1 ≡ s = omega arith in
    let same : s ≡ s + 1 - 1 = omega arith in
    sym (flat_next f (s - 1) s next) ∙ ap (entries_up_to f) same

pub length-entries_more : (f : ℕ → List (List ℕ)) (s : ℕ) → 1 ≤ s → length (entries_up_to f (s - 1)) + length (f s) ≡ length (entries_up_to f (s + 1 - 1))
length-entries_more f s low = sym (length-append (entries_up_to f (s - 1)) (f s)) ∙ ap length (entries_more f s low)

-- a loop over the subscribers that has ended, where its table and its numbers differ from those said by equations
pub fills_with : {made table : Table} {n size : ℕ} {entries : List (List ℕ)} {initial b a : List ℕ} → made ≡ table → FitsTable made size → length initial ≡ size → n ≡ length entries → length entries ≤ table.pool.count → IsFilling table entries initial b → Finishes made.pool n b a → FillsWith table entries initial a
fills_with {made} {table} {n} {size} {entries} {initial} {b} {a} is fits long count few filling finishes = record {
  fits = subst (FitsTable table) (sym long) (subst (λ t. FitsTable t size) is fits);
  few = few;
  between = b;
  filling = filling;
  finishes = subst (λ t. Finishes t.pool (length entries) b a) is (subst (λ k. Finishes made.pool k b a) count finishes);
}

keys_same : {R : Type 0} (form : RowForm R) (rows : List R) → map key_of (map (entry_of form) rows) ≡ map form.key rows
keys_same form [] = refl
keys_same form (row ∷ rows) = ap (λ l. form.key row ∷ l) (keys_same form rows)

-- words that stand one by one
words_from : (array words : List ℕ) (at : ℕ) → ((k : ℕ) → k < length words → slice_index array (at + k) ≡ slice_index words k) → HasWords array at words
words_from array [] at each = tt
words_from array (word ∷ words) at each =
    (ap (slice_index array) (sym (add-zero at)) ∙ each 0 (omega arith), words_from array words (at + 1) (λ k under. ap (slice_index array) (omega arith) ∙ each (suc k) (omega arith)))

-- an element at each index
pub there_is : {R : Type 0} (rows : List R) (k : ℕ) → k < length rows → (row : R) × (slice_get rows k ≡ Some row)
there_is [] k under = absurd (omega arith)
there_is (row ∷ rows) zero under = (row, refl)
there_is (row ∷ rows) (suc k) under = there_is rows k (omega arith)

module _ {R : Type 0} (form : RowForm R) (rows : List R) {table : Table} {initial b a : List ℕ} (fits : FitsTable table (length b)) (few : length rows ≤ table.pool.count) (whole : All form.Lengths rows) (filling : IsFilling table (map (entry_of form) rows) initial b) (finishes : Finishes table.pool (length rows) b a) where
  abbrev entries : List (List ℕ)
  entries = map (entry_of form) rows

  -- the words of a row's record stay, and so do the buckets' links
  record_stays : (k d : ℕ) → k < length rows → d < table.pool.size → slice_index a (record_at table.pool k + d) ≡ slice_index b (record_at table.pool k + d)
  record_stays k d under small =
      let header = fits.pool.apart (record_at table.pool k) (is_record (omega arith)) in
      finishes.others (record_at table.pool k + d) (omega (arith, header, small)) (omega (arith, header, small)) (λ j from below. omega (arith, record_before table.pool k j (omega arith), small))

  link_stays : (bucket : ℕ) → bucket < table.buckets → slice_index a (table.at + bucket) ≡ slice_index b (table.at + bucket)
  link_stays bucket under =
      finishes.others (table.at + bucket) (omega (arith, fits.header, under)) (omega (arith, fits.header, under)) (λ j from below. omega (arith, fits.records (record_at table.pool j) (is_record below), fits.pool.size, under))

  held : (i : ℕ) (row : R) → slice_get rows i ≡ Some row → HoldsRow form a (record_at table.pool i) row
  held i row is =
      let under : i < length rows = slice_get_within rows i row is in
      let long : i < length entries = omega (arith, under, length-map rows (entry_of form)) in
      let row_is : get_or rows i row ≡ row = get_or_from_slice_get rows i row row is in
      let entry_is : get_or entries i [] ≡ entry_of form row = get_or-map (entry_of form) rows i row [] under ∙ ap (entry_of form) row_is in
      let was : HasEntry b (record_at table.pool i) (entry_of form row) = subst (HasEntry b (record_at table.pool i)) entry_is (filling.held i long) in
      let room : length (entry_of form row) < table.pool.size = subst (λ e. length e < table.pool.size) entry_is (filling.room i long) in
      let here : record_at table.pool i + 0 ≡ record_at table.pool i = omega arith in
      record {
        key = ap (slice_index a) (sym here) ∙ record_stays i 0 under (omega (arith, room)) ∙ ap (slice_index b) here ∙ was.key;
        words = words_from a (form.words row) (record_at table.pool i + 2) (λ k small.
            let place : record_at table.pool i + 2 + k ≡ record_at table.pool i + (2 + k) = omega arith in
            let field : record_at table.pool i + (2 + k) ≡ record_at table.pool i + 1 + (k + 1) = omega arith in
            let next : k + 1 ≡ suc k = omega arith in
            ap (slice_index a) place ∙ record_stays i (2 + k) under (omega (arith, room, small)) ∙ ap (slice_index b) field
            ∙ was.fields (k + 1) (omega arith) (omega (arith, small)) ∙ ap (slice_index (entry_of form row)) next);
        lengths = subst form.Lengths row_is (whole i row under);
      }

  chains : (bucket : ℕ) → bucket < table.buckets → Linked a (table.at + bucket) (chain_for table (map form.key rows) bucket)
  chains bucket under =
      let keys = map key_of entries in
      let Q : ℕ → Type 0 = λ x. slice_index a (x + 1) ≡ slice_index b (x + 1) in
      let links = each_weaker {P = IsChained table keys bucket} {Q = Q} (chain_for table keys bucket)
      (λ x (chained : IsChained table keys bucket x).
      let inside : chained.index < length rows = omega (arith, chained.below, length-map entries key_of, length-map rows (entry_of form)) in
      ap (λ y. slice_index a (y + 1)) chained.is ∙ record_stays chained.index 1 inside (omega (arith, fits.pool.size)) ∙ ap (λ y. slice_index b (y + 1)) (sym chained.is))
      (chain_each table keys bucket) in
      subst (λ l. Linked a (table.at + bucket) (chain_for table l bucket)) (keys_same form rows)
      (linked_from b a (table.at + bucket) (table.at + bucket) (chain_for table keys bucket) (link_stays bucket under) links (filling.chains bucket under))

  others : (i : ℕ) → IsUnused form table rows i → slice_index a i ≡ slice_index initial i
  others i unused =
      finishes.others i unused.first unused.live unused.free
      ∙ filling.others i (record {
        links = unused.links;
        taken = λ k under.
            let inside : k < length rows = omega (arith, under, length-map rows (entry_of form)) in
            let there = there_is rows k inside in
            let row = there.0 in
            let entry_is : get_or entries k [] ≡ entry_of form row = get_or-map (entry_of form) rows k row [] inside ∙ ap (entry_of form) (get_or_from_slice_get rows k row row there.1) in
            let long : 2 + length (form.words row) ≡ 1 + length (entry_of form row) = omega arith in
            subst (λ e. AreApart (record_at table.pool k) (1 + length e) i 1) (sym entry_is) (subst (λ n. AreApart (record_at table.pool k) n i 1) long (unused.taken k row there.1));
      })

  pub fills_from : Fills form table rows initial a
  fills_from = record { filled = record { few = few; held = held; chains = chains; free = finishes.free; live = finishes.live }; others = others }

-- a table that was filled with the entries of these rows
pub fills_rows : {R : Type 0} (form : RowForm R) (rows : List R) {table : Table} {entries : List (List ℕ)} {initial a : List ℕ} → entries ≡ map (entry_of form) rows → All form.Lengths rows → FillsWith table entries initial a → Fills form table rows initial a
fills_rows {R} form rows {table} {entries} {initial} {a} is whole done =
    let count : length entries ≡ length rows = ap length is ∙ length-map rows (entry_of form) in
    fills_from form rows (subst (FitsTable table) (sym done.filling.size) done.fits) (let few = done.few in omega (arith, few, count)) whole
    (subst (λ l. IsFilling table l initial done.between) is done.filling)
    (subst (λ k. Finishes table.pool k done.between a) count done.finishes)
