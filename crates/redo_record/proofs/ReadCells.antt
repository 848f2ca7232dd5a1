-- What `decode` finds in a slice of cells.
use Rattle.std.proofs.Common.{◌≡◌, ◌≢◌, ℕ, ◌+◌, ◌*◌, ◌%◌, ◌^◌, ◌<◌, ◌≤◌, List, [], ◌∷◌, ◌++◌, map, get_or, slice_index, true, true≢false, None, is_some, sym, ap, ◌∙◌, subst, arith, All, Result, Ok, Err, IfOk, OnErr}
use Rattle.std.specs.List.{range_with_len}
use Rattle.std.proofs.lemmas.List.FromFn.{length-map-range_with_len, get_or-map-range_with_len, map-range_with_len_more}
use Rattle.std.proofs.lemmas.List.Quantifiers.{all_pairs_push}
use Rattle.dude_base.specs.declared.write.Write.{Write}
use Rattle.dude_base.specs.Records.{RedoBundle}
use Rattle.dude_base.specs.Writes.{written, put_write, HasDistinctPlaces}
use Rattle.dude_base.proofs.WriteLists.{written_absent, absent_written, put_absent}
use Rattle.redo_record.specs.Record.{cells_for, write_of, record_of}
use Rattle.redo_record.specs.declared.bad_record.BadRecord.{BadRecord}
use Rattle.redo_record.specs.Encoding.{word_in_slice, encoded_cells, IsEncodable, IsRecordSlice}
use Rattle.redo_record.specs.Decoding.{HasHeadFor, Continues}
use Rattle.redo_record.proofs.EncodedCells.{encoding_law}

-- a continuation of a record's slice
pub slice_continues : (words : List ℕ) (count k : ℕ) → HasHeadFor words count → IsRecordSlice words → 1 ≤ k → k < cells_for count
    → (get_or words (8 * k) 0 ≡ 2 * 2 ^ 62 + slice_index words 0 % 2 ^ 62) × (get_or words (8 * k + 1) 0 ≡ k)
slice_continues words count k head slice low high =
    let next = slice.whole.continued k low (subst (λ (n : ℕ). k < cells_for n) (sym head.count_is) high) in
    let at : get_or words (8 * k) 0 ≡ word_in_slice words k 0 = ap (slice_index words) (omega arith) in
    let kind = next.kind in
    let number = next.same_number in
    (omega arith, next.same_index)

module _ (cells : ℕ → ℕ → ℕ) where
  -- one write more, of a new word
  pub read_more : (i : ℕ) (ws : List Write) (w : Write) → ws ≡ map (write_of cells) (range_with_len 0 i) → HasDistinctPlaces ws → w ≡ write_of cells i → written ws w.at ≡ None
      → (put_write ws w ≡ map (write_of cells) (range_with_len 0 (i + 1))) × HasDistinctPlaces (put_write ws w)
  read_more i ws w before distinct is new =
      let absent = absent_written ws w.at new in
      let put : put_write ws w ≡ ws ++ w ∷ [] = put_absent ws w absent in
      let whole : ws ++ w ∷ [] ≡ map (write_of cells) (range_with_len 0 (i + 1)) =
      ap (λ (l : List Write). l ++ w ∷ []) before ∙ (ap (λ (v : Write). map (write_of cells) (range_with_len 0 i) ++ v ∷ []) is
      ∙ sym (map-range_with_len_more (write_of cells) 0 i i (omega arith))) in
      (put ∙ whole, subst HasDistinctPlaces (sym put) (all_pairs_push (λ v u. v.at ≢ u.at) ws w distinct absent))

  -- a word that was read before isn't distinct
  pub read_twice : (count i : ℕ) (w : Write) → HasDistinctPlaces (map (write_of cells) (range_with_len 0 count)) → i < count → w ≡ write_of cells i
      → is_some (written (map (write_of cells) (range_with_len 0 i)) w.at) ≡ true → ⊥
  read_twice count i w distinct lt is there =
      let none = written_absent (map (write_of cells) (range_with_len 0 i)) w.at other in
      true≢false (sym there ∙ ap is_some none)
    where
      at_all : (j : ℕ) (d : Write) → j < count → get_or (map (write_of cells) (range_with_len 0 count)) j d ≡ write_of cells j
      at_all j d small = get_or-map-range_with_len (write_of cells) 0 count j j d small (omega arith)

      other : All (λ v. v.at ≢ w.at) (map (write_of cells) (range_with_len 0 i))
      other j d below same =
          let before : j < i = omega (arith, length-map-range_with_len (write_of cells) 0 i) in
          let prefix : get_or (map (write_of cells) (range_with_len 0 i)) j d ≡ write_of cells j = get_or-map-range_with_len (write_of cells) 0 i j j d before (omega arith) in
          distinct j i d before (omega (arith, length-map-range_with_len (write_of cells) 0 count))
          (ap (λ (v : Write). v.at) (at_all j d (omega arith) ∙ sym prefix) ∙ (same ∙ ap (λ (v : Write). v.at) (is ∙ sym (at_all i d lt))))

-- the slice is that of a record, whose writes these are
pub slice_is_record : (words : List ℕ) (count : ℕ) → HasHeadFor words count → Continues words (cells_for count)
    → HasDistinctPlaces (map (write_of (word_in_slice words)) (range_with_len 0 count)) → IsRecordSlice words
slice_is_record words count head continues distinct =
    let back = sym head.count_is in
    record {
      whole = record {
        head = head.head;
        number = head.number;
        span = head.span;
        first = head.first;
        count = subst (λ (n : ℕ). n ≤ 96) back head.few;
        continued = λ k low high. continues k low (subst (λ (n : ℕ). k < cells_for n) head.count_is high);
        distinct = subst (λ (n : ℕ). HasDistinctPlaces (map (write_of (word_in_slice words)) (range_with_len 0 n))) back distinct;
      };
      size = head.size ∙ ap (λ n. 8 * cells_for n) back;
    }

-- the writes of a record's slice are distinct
pub slice_distinct : (words : List ℕ) (count : ℕ) → HasHeadFor words count → IsRecordSlice words → HasDistinctPlaces (map (write_of (word_in_slice words)) (range_with_len 0 count))
slice_distinct words count head slice = subst (λ (n : ℕ). HasDistinctPlaces (map (write_of (word_in_slice words)) (range_with_len 0 n))) head.count_is slice.whole.distinct

-- what is read from the cells that a record has is this record
pub decodes_back : {words : List ℕ} (answer : Result RedoBundle BadRecord) → IfOk answer (λ r. IsRecordSlice words × (r ≡ record_of (word_in_slice words))) → OnErr answer (¬ IsRecordSlice words)
    → (r : RedoBundle) → IsEncodable r → words ≡ encoded_cells r → answer ≡ Ok r
decodes_back (Ok found) ok bad r fine is = ap (λ (x : RedoBundle). let it : Result RedoBundle BadRecord = Ok x in it) (ok.1 ∙ (ap (λ (l : List ℕ). record_of (word_in_slice l)) is ∙ (encoding_law r fine).3))
decodes_back (Err e) ok bad r fine is = absurd (bad (subst IsRecordSlice (sym is) (encoding_law r fine).2))
