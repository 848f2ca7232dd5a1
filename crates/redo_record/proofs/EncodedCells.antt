-- The cells that `encode` gives hold their record, and hold nothing else.
use Rattle.std.proofs.Common.{◌≡◌, ◌≢◌, ℕ, zero, suc, ◌+◌, ◌*◌, ◌/◌, ◌%◌, ◌<◌, ◌≤◌, List, ◌++◌, length, length-append, get_or, slice_index, map, flat_map, refl, sym, ap, ◌∙◌, subst, arith, ne_eqb}
use Rattle.std.specs.List.{range_with_len}
use Rattle.std.proofs.Math.ListN.{get_or-append}
use Rattle.std.proofs.lemmas.List.{get_or_default, get_or-append_right}
use Rattle.std.proofs.lemmas.List.FromFn.{length-map-range_with_len, get_or-map-range_with_len}
use Rattle.dude_base.specs.declared.write.Write.{Write}
use Rattle.dude_base.specs.Records.{RedoBundle}
use Rattle.dude_base.specs.Writes.{HasDistinctPlaces}
use Rattle.redo_record.specs.Tags.{kind_of, number_of, head_tag, continuation_tag}
use Rattle.redo_record.specs.Record.{cells_for, count_of, span_of, write_of, writes_of, record_of, HoldRecord}
use Rattle.redo_record.specs.Encoding.{IsEncodable, write_or_zeros, encoded, encoded_cells, word_in_slice, IsRead, LawOfEncoding, LawOfDecoding}
use Rattle.redo_record.proofs.HeldRecords.{map_range, AreSame, holds_same, record_same, count_same}

-- word j of the record's k-th cell
abbrev pub cells_of_record : RedoBundle → ℕ → ℕ → ℕ
cells_of_record r k j = slice_index (encoded r k) j

-- the pair of write 3 k + m in the k-th cell
pub encoded_pair : (r : RedoBundle) (k m : ℕ) → m < 3
    → (slice_index (encoded r k) (2 + 2 * m) ≡ (write_or_zeros r.writes (3 * k + m)).at) × (slice_index (encoded r k) (3 + 2 * m) ≡ (write_or_zeros r.writes (3 * k + m)).value)
encoded_pair r k zero lt =
    let same : 3 * k ≡ 3 * k + 0 = omega arith in
    (ap (λ i. (write_or_zeros r.writes i).at) same, ap (λ i. (write_or_zeros r.writes i).value) same)
encoded_pair r k (suc zero) lt = (refl, refl)
encoded_pair r k (suc (suc zero)) lt = (refl, refl)
encoded_pair r k (suc (suc (suc m))) lt = absurd (omega arith)

encoded_write : (r : RedoBundle) (i : ℕ) (d : Write) → i < length r.writes → write_of (cells_of_record r) i ≡ get_or r.writes i d
encoded_write r i d lt =
    let pair = encoded_pair r (i / 3) (i % 3) (omega arith) in
    let same : 3 * (i / 3) + i % 3 ≡ i = omega arith in
    let w : write_or_zeros r.writes (3 * (i / 3) + i % 3) ≡ get_or r.writes i d = ap (write_or_zeros r.writes) same ∙ get_or_default r.writes i (record { at = 0; value = 0 }) d lt in
    let at : slice_index (encoded r (i / 3)) (2 + 2 * (i % 3)) ≡ (get_or r.writes i d).at = pair.0 ∙ ap (λ (v : Write). v.at) w in
    let value : slice_index (encoded r (i / 3)) (3 + 2 * (i % 3)) ≡ (get_or r.writes i d).value = pair.1 ∙ ap (λ (v : Write). v.value) w in
    of_parts at value
  where
    of_parts : {w : Write} {a v : ℕ} → a ≡ w.at → v ≡ w.value → ◌≡◌ {A = Write} (record { at = a; value = v }) w
    of_parts {w} {v = v} p q =
        let by_at : ℕ → Write = λ x. record { at = x; value = v } in
        let by_value : ℕ → Write = λ x. record { at = w.at; value = x } in
        ap by_at p ∙ ap by_value q

-- the parts of the head's word 1
pub encoded_count : (r : RedoBundle) → length r.writes ≤ 96 → count_of (cells_of_record r) ≡ length r.writes
encoded_count r few = omega arith

pub encoded_span : (r : RedoBundle) → length r.writes ≤ 96 → span_of (cells_of_record r) ≡ r.span
encoded_span r few = omega arith

pub encoded_writes : (r : RedoBundle) → length r.writes ≤ 96 → writes_of (cells_of_record r) ≡ r.writes
encoded_writes r few = ap (λ (n : ℕ). map (write_of (cells_of_record r)) (range_with_len 0 n)) (encoded_count r few) ∙ map_range (write_of (cells_of_record r)) 0 r.writes (λ i d lt. let same : 0 + i ≡ i = omega arith in ap (write_of (cells_of_record r)) same ∙ encoded_write r i d lt)

-- the tag and the index of a continuation
pub encoded_continuation : (r : RedoBundle) (k : ℕ) → 1 ≤ k → (slice_index (encoded r k) 0 ≡ continuation_tag r.last) × (slice_index (encoded r k) 1 ≡ k)
encoded_continuation r k low =
    let ne : k ≢ 0 = omega arith in
    rw (ne_eqb k 0 ne) (refl, refl)

pub encoded_holds : (r : RedoBundle) → IsEncodable r → HoldRecord (cells_of_record r)
encoded_holds r fine =
    let few = fine.writes_are.few in
    let low = fine.number_is.low in
    let high = fine.number_is.high in
    record {
      head = omega arith;
      number = record { low = omega arith; high = omega arith };
      span = subst (λ (n : ℕ). n ≤ 255) (sym (encoded_span r few)) fine.span_is;
      first = (let span = encoded_span r few in let first = fine.first_is in omega arith);
      count = subst (λ (n : ℕ). n ≤ 96) (sym (encoded_count r few)) few;
      continued = λ k above below.
          let next = encoded_continuation r k above in
          record { kind = ap kind_of next.0 ∙ omega arith; same_number = ap number_of next.0 ∙ omega arith; same_index = next.1 };
      distinct = subst HasDistinctPlaces (sym (encoded_writes r few)) fine.writes_are.distinct;
    }

pub encoded_record : (r : RedoBundle) → IsEncodable r → record_of (cells_of_record r) ≡ r
encoded_record r fine =
    let low = fine.number_is.low in
    let high = fine.number_is.high in
    let few = fine.writes_are.few in
    let last : number_of (head_tag r.last) ≡ r.last = omega arith in
    of_parts last (encoded_span r few) (encoded_writes r few)
  where
    of_parts : {n m : ℕ} {ws : List Write} → n ≡ r.last → m ≡ r.span → ws ≡ r.writes → ◌≡◌ {A = RedoBundle} (record { last = n; span = m; writes = ws }) r
    of_parts {n} {m} {ws} p o q =
        let by_last : ℕ → RedoBundle = λ x. record { last = x; span = m; writes = ws } in
        let by_span : ℕ → RedoBundle = λ x. record { last = r.last; span = x; writes = ws } in
        let by_writes : List Write → RedoBundle = λ x. record { last = r.last; span = r.span; writes = x } in
        ap by_last p ∙ (ap by_span o ∙ ap by_writes q)

-- the record's cells, as many as its head counts
pub counted : (r : RedoBundle) {others : ℕ → ℕ → ℕ} → length r.writes ≤ 96 → AreSame (cells_of_record r) others (cells_for (length r.writes)) → AreSame (cells_of_record r) others (cells_for (count_of (cells_of_record r)))
counted r {others} few same = subst (λ (n : ℕ). AreSame (cells_of_record r) others (cells_for n)) (sym (encoded_count r few)) same

-- Cells of eight words, one after another in a list.
module _ (f : ℕ → List ℕ) (eight : (k : ℕ) → length (f k) ≡ 8) where
  length_of_cells : (a n : ℕ) → length (flat_map f (range_with_len a n)) ≡ 8 * n
  length_of_cells a zero = refl
  length_of_cells a (suc n) = omega (arith, length-append (f a) (flat_map f (range_with_len (a + 1) n)), eight a, length_of_cells (a + 1) n)

  word_of_cells : (a n k j : ℕ) → k < n → j < 8 → slice_index (flat_map f (range_with_len a n)) (8 * k + j) ≡ slice_index (f (a + k)) j
  word_of_cells a zero k j lt below = absurd (omega arith)
  word_of_cells a (suc n) zero j lt below =
      ap (slice_index (f a ++ flat_map f (range_with_len (a + 1) n))) (omega arith)
      ∙ (get_or-append (f a) (flat_map f (range_with_len (a + 1) n)) 0 j (omega (arith, eight a)) ∙ ap (λ i. slice_index (f i) j) (omega arith))
  word_of_cells a (suc n) (suc k) j lt below =
      get_or-append_right (f a) (flat_map f (range_with_len (a + 1) n)) 8 (8 * suc k + j) 0 (eight a) (omega arith)
      ∙ (ap (slice_index (flat_map f (range_with_len (a + 1) n))) (omega arith)
      ∙ (word_of_cells (a + 1) n k j (omega arith) below ∙ ap (λ i. slice_index (f i) j) (omega arith)))

slice_same : (r : RedoBundle) → AreSame (cells_of_record r) (word_in_slice (encoded_cells r)) (cells_for (length r.writes))
slice_same r = record {
  word = λ k j lt below. word_of_cells (encoded r) (λ k. refl) 0 (cells_for (length r.writes)) k j lt below ∙ ap (λ i. slice_index (encoded r i) j) (omega arith);
}

pub encoding_law : LawOfEncoding
encoding_law r fine =
    let few = fine.writes_are.few in
    let same = counted r few (slice_same r) in (
      encoded_holds r fine,
      encoded_record r fine,
      record {
        whole = holds_same same (encoded_holds r fine);
        size = length_of_cells (encoded r) (λ k. refl) 0 (cells_for (length r.writes)) ∙ ap (λ n. 8 * cells_for n) (sym (count_same same ∙ encoded_count r few));
      },
      record_same same ∙ encoded_record r fine,
    )

-- What cells that hold a record have.
module _ (cells : ℕ → ℕ → ℕ) (held : HoldRecord cells) where
  read_tag : (k : ℕ) → k < cells_for (count_of cells) → cells k 0 ≡ slice_index (encoded (record_of cells) k) 0
  read_tag zero lt = let head = held.head in omega arith
  read_tag (suc k) lt =
      let next = held.continued (suc k) (omega arith) lt in
      let kind = next.kind in
      let number = next.same_number in
      let tag : cells (suc k) 0 ≡ continuation_tag (number_of (cells 0 0)) = omega arith in
      tag ∙ sym (encoded_continuation (record_of cells) (suc k) (omega arith)).0

  read_index : (k : ℕ) → k < cells_for (count_of cells) → cells k 1 ≡ slice_index (encoded (record_of cells) k) 1
  read_index zero lt = let count = length-map-range_with_len (write_of cells) 0 (count_of cells) in omega arith
  read_index (suc k) lt = (held.continued (suc k) (omega arith) lt).same_index ∙ sym (encoded_continuation (record_of cells) (suc k) (omega arith)).1

  read_pair : (k m : ℕ) → m < 3 → 3 * k + m < count_of cells
      → (cells k (2 + 2 * m) ≡ slice_index (encoded (record_of cells) k) (2 + 2 * m)) × (cells k (3 + 2 * m) ≡ slice_index (encoded (record_of cells) k) (3 + 2 * m))
  read_pair k m small lt =
      let pair = encoded_pair (record_of cells) k m small in
      let is : write_or_zeros (writes_of cells) (3 * k + m) ≡ write_of cells (3 * k + m) = get_or-map-range_with_len (write_of cells) 0 (count_of cells) (3 * k + m) (3 * k + m) _ lt (omega arith) in
      let third : (3 * k + m) / 3 ≡ k = omega arith in
      let rest : (3 * k + m) % 3 ≡ m = omega arith in
      let at : cells ((3 * k + m) / 3) (2 + 2 * ((3 * k + m) % 3)) ≡ cells k (2 + 2 * m) = ap (λ i. cells i (2 + 2 * ((3 * k + m) % 3))) third ∙ ap (λ i. cells k (2 + 2 * i)) rest in
      let value : cells ((3 * k + m) / 3) (3 + 2 * ((3 * k + m) % 3)) ≡ cells k (3 + 2 * m) = ap (λ i. cells i (3 + 2 * ((3 * k + m) % 3))) third ∙ ap (λ i. cells k (3 + 2 * i)) rest in
      (sym at ∙ (sym (ap (λ (w : Write). w.at) is) ∙ sym pair.0), sym value ∙ (sym (ap (λ (w : Write). w.value) is) ∙ sym pair.1))

  read_word : (k j : ℕ) → IsRead (count_of cells) k j → cells k j ≡ slice_index (encoded (record_of cells) k) j
  read_word k zero is = read_tag k is.0
  read_word k (suc zero) is = read_index k is.0
  read_word k (suc (suc zero)) is = let few = is.1 in (read_pair k 0 (omega arith) (omega arith)).0
  read_word k (suc (suc (suc zero))) is = let few = is.1 in (read_pair k 0 (omega arith) (omega arith)).1
  read_word k (suc (suc (suc (suc zero)))) is = let few = is.1 in (read_pair k 1 (omega arith) (omega arith)).0
  read_word k (suc (suc (suc (suc (suc zero))))) is = let few = is.1 in (read_pair k 1 (omega arith) (omega arith)).1
  read_word k (suc (suc (suc (suc (suc (suc zero)))))) is = let few = is.1 in (read_pair k 2 (omega arith) (omega arith)).0
  read_word k (suc (suc (suc (suc (suc (suc (suc zero))))))) is = let few = is.1 in (read_pair k 2 (omega arith) (omega arith)).1
  read_word k (suc (suc (suc (suc (suc (suc (suc (suc j)))))))) is = let small = is.2 in absurd (omega arith)

pub decoding_law : LawOfDecoding
decoding_law cells held k j is = read_word cells held k j is
