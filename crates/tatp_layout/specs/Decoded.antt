-- Rows from the words of their records.
use Rattle.std.proofs.Common.{◌≡◌, ℕ, zero, suc, ◌+◌, ◌*◌, ◌/◌, ◌%◌, ◌^◌, ◌<◌, List, [], ◌∷◌, ◌++◌, length, take, drop, All, slice_index, refl, ap, ap₂, ◌∙◌, arith, add-zero, length-drop, length-take-le}
use Rattle.std.proofs.lemmas.List.{take-append-drop}
use Rattle.std.proofs.lemmas.List.Elements.{All-take, All-drop}
use Rattle.tatp_model.specs.declared.sub_row.SubRow.{SubRow}
use Rattle.tatp_model.specs.declared.access_row.AccessRow.{AccessRow}
use Rattle.tatp_model.specs.declared.fac_row.FacRow.{FacRow}
use Rattle.tatp_model.specs.declared.call_row.CallRow.{CallRow}
use Rattle.tatp_model.specs.Database.{IsSubRow, IsAccessRow, IsFacRow, IsCallRow}
use Rattle.tatp_layout.specs.Decoding.{subscriber_in, access_in, facility_in, call_in}
use Rattle.tatp_layout.specs.Digits.{from_digits, to_digits}
use Rattle.tatp_layout.specs.Records.{RowForm, HasWords, HoldsRow, subscriber_form, access_form, facility_form, call_form}
use Rattle.tatp_layout.specs.RecordWords.{AreOfRecord}
use Rattle.tatp_layout.specs.DigitLists.{digits_below, digits_from}

-- a record's words apart from the array tell the row that they tell in it
pub subscriber_apart : {array words : List ℕ} {at : ℕ} → AreOfRecord 8 array at words → subscriber_in words 0 ≡ subscriber_in array at
subscriber_apart {array} {words} {at} h =
    let key = h.key in
    let w2 : slice_index words 2 ≡ slice_index array (at + 2) = h.fields 2 (omega arith) (omega arith) in
    let w3 : slice_index words 3 ≡ slice_index array (at + 3) = h.fields 3 (omega arith) (omega arith) in
    let w4 : slice_index words 4 ≡ slice_index array (at + 4) = h.fields 4 (omega arith) (omega arith) in
    let w5 : slice_index words 5 ≡ slice_index array (at + 5) = h.fields 5 (omega arith) (omega arith) in
    let w6 : slice_index words 6 ≡ slice_index array (at + 6) = h.fields 6 (omega arith) (omega arith) in
    let w7 : slice_index words 7 ≡ slice_index array (at + 7) = h.fields 7 (omega arith) (omega arith) in
    λ i. record {
      s_id = key i;
      sub_nbr = w7 i;
      bits = to_digits 2 10 (w2 i);
      hexes = to_digits 16 10 (w2 i / 2 ^ 10);
      bytes = to_digits 256 8 (w3 i) ++ to_digits 256 2 (w4 i);
      msc = w5 i;
      vlr = w6 i;
    }

-- a word among others that stand from one on
has_word : (array words : List ℕ) (at k place : ℕ) → HasWords array at words → k < length words → place ≡ at + k → slice_index array place ≡ slice_index words k
has_word array [] at k place has under is = absurd (omega arith)
has_word array (word ∷ words) at zero place has under is = ap (slice_index array) (is ∙ add-zero at) ∙ has.0
has_word array (word ∷ words) at (suc k) place has under is = has_word array words (at + 1) k place has.1 (omega arith) (omega arith)

-- a word of a record that holds a row, from 2 on
pub held_word : {R : Type 0} {form : RowForm R} {array : List ℕ} {at : ℕ} {row : R} (k place : ℕ) → HoldsRow form array at row → k < length (form.words row) → place ≡ at + 2 + k → slice_index array place ≡ slice_index (form.words row) k
held_word {R} {form} {array} {at} {row} k place held = has_word array (form.words row) (at + 2) k place held.words

-- the words of a row in range tell it
pub subscriber_back : {array : List ℕ} {at : ℕ} {r : SubRow} → IsSubRow r → HoldsRow subscriber_form array at r → subscriber_in array at ≡ r
subscriber_back {array} {at} {r} range held =
    let few : from_digits 2 r.bits < 1024 = digits_below r.bits 10 held.lengths.0 (λ i d under. omega (arith, range.bits i d under)) in
    let bits : to_digits 2 10 (slice_index array (at + 2)) ≡ r.bits = digits_from 2 10 _ (from_digits 16 r.hexes) (omega arith) held.lengths.0 (λ i d under. omega (arith, range.bits i d under)) held.words.0 in
    let hexes : to_digits 16 10 (slice_index array (at + 2) / 1024) ≡ r.hexes = digits_from 16 10 _ 0 (omega arith) held.lengths.1 range.hexes (omega (arith, held.words.0)) in
    let first : to_digits 256 8 (slice_index array (at + 3)) ≡ take 8 r.bytes = digits_from 256 8 _ 0 (omega arith) (length-take-le 8 r.bytes (omega (arith, held.lengths.2))) (All-take (λ d. d < 256) 8 r.bytes range.bytes) (omega (arith, held_word 1 (at + 3) held (omega arith) (omega arith))) in
    let second : to_digits 256 2 (slice_index array (at + 4)) ≡ drop 8 r.bytes = digits_from 256 2 _ 0 (omega arith) (omega (arith, length-drop 8 r.bytes, held.lengths.2)) (All-drop (λ d. d < 256) 8 r.bytes range.bytes) (omega (arith, held_word 2 (at + 4) held (omega arith) (omega arith))) in
    let bytes : to_digits 256 8 (slice_index array (at + 3)) ++ to_digits 256 2 (slice_index array (at + 4)) ≡ r.bytes = ap₂ (λ (xs ys : List ℕ). xs ++ ys) first second ∙ take-append-drop 8 r.bytes in
    let msc : slice_index array (at + 5) ≡ r.msc = held_word 3 (at + 5) held (omega arith) (omega arith) in
    let vlr : slice_index array (at + 6) ≡ r.vlr = held_word 4 (at + 6) held (omega arith) (omega arith) in
    let phone : slice_index array (at + 7) ≡ r.sub_nbr = held_word 5 (at + 7) held (omega arith) (omega arith) in
    let id : slice_index array at ≡ r.s_id = held.key in
    λ i. record { s_id = id i; sub_nbr = phone i; bits = bits i; hexes = hexes i; bytes = bytes i; msc = msc i; vlr = vlr i }

-- ---- records of four words

-- their key and the two words behind the link
four_words : {array words : List ℕ} {at : ℕ} → AreOfRecord 4 array at words
    → (slice_index words 0 ≡ slice_index array at) × (slice_index words 2 ≡ slice_index array (at + 2)) × (slice_index words 3 ≡ slice_index array (at + 3))
four_words h = (h.key, h.fields 2 (omega arith) (omega arith), h.fields 3 (omega arith) (omega arith))

-- those of an access row
pub access_apart : {array words : List ℕ} {at : ℕ} → AreOfRecord 4 array at words → access_in words 0 ≡ access_in array at
access_apart h = let w = four_words h in λ i. record {
  s_id = w.0 i / 4;
  ai_type = w.0 i % 4 + 1;
  info = record {
    data1 = slice_index (to_digits 256 5 (w.1 i)) 0;
    data2 = slice_index (to_digits 256 5 (w.1 i)) 1;
    data3 = drop 2 (to_digits 256 5 (w.1 i));
    data4 = to_digits 256 5 (w.2 i);
  };
}

-- of a facility
pub facility_apart : {array words : List ℕ} {at : ℕ} → AreOfRecord 4 array at words → facility_in words 0 ≡ facility_in array at
facility_apart h = let w = four_words h in λ i. record {
  s_id = w.0 i / 4;
  sf_type = w.0 i % 4 + 1;
  is_active = slice_index (to_digits 256 3 (w.1 i)) 0;
  error_cntrl = slice_index (to_digits 256 3 (w.1 i)) 1;
  data_a = slice_index (to_digits 256 3 (w.1 i)) 2;
  data_b = to_digits 256 5 (w.2 i);
}

-- and of a call row
pub call_apart : {array words : List ℕ} {at : ℕ} → AreOfRecord 4 array at words → call_in words 0 ≡ call_in array at
call_apart h =
    let w = four_words h in
    λ i. record { s_id = w.0 i / 3 / 4; sf_type = w.0 i / 3 % 4 + 1; start_time = w.0 i % 3 * 8; end_time = w.1 i; numberx = w.2 i }

-- one more byte in front
bytes_more : (x : ℕ) (xs : List ℕ) → x < 256 → All (λ d. d < 256) xs → All (λ d. d < 256) (x ∷ xs)
bytes_more x xs here rest zero d under = here
bytes_more x xs here rest (suc i) d under = rest i d (omega arith)

-- the words of an access row in range tell it
pub access_back : {array : List ℕ} {at : ℕ} {r : AccessRow} → IsAccessRow r → HoldsRow access_form array at r → access_in array at ≡ r
access_back {array} {at} {r} range held =
    let letters : All (λ d. d < 256) r.info.data3 = λ i d under. omega (arith, (range.data3 i d under).1) in
    let bytes : to_digits 256 5 (slice_index array (at + 2)) ≡ r.info.data1 ∷ r.info.data2 ∷ r.info.data3 =
    digits_from 256 5 _ 0 (omega arith) (omega (arith, held.lengths.0)) (bytes_more r.info.data1 (r.info.data2 ∷ r.info.data3) range.data1 (bytes_more r.info.data2 r.info.data3 range.data2 letters)) (omega (arith, held.words.0)) in
    let more : to_digits 256 5 (slice_index array (at + 3)) ≡ r.info.data4 =
    digits_from 256 5 _ 0 (omega arith) held.lengths.1 (λ i d under. omega (arith, (range.data4 i d under).1)) (omega (arith, held_word 1 (at + 3) held (omega arith) (omega arith))) in
    let id : slice_index array at / 4 ≡ r.s_id = omega (arith, held.key, range.s_id, range.ai_type) in
    let kind : slice_index array at % 4 + 1 ≡ r.ai_type = omega (arith, held.key, range.s_id, range.ai_type) in
    λ i. record {
      s_id = id i;
      ai_type = kind i;
      info = record { data1 = slice_index (bytes i) 0; data2 = slice_index (bytes i) 1; data3 = drop 2 (bytes i); data4 = more i };
    }

-- those of a facility
pub facility_back : {array : List ℕ} {at : ℕ} {r : FacRow} → IsFacRow r → HoldsRow facility_form array at r → facility_in array at ≡ r
facility_back {array} {at} {r} range held =
    let none : All (λ d. d < 256) [] = λ i d under. absurd (omega arith) in
    let bytes : to_digits 256 3 (slice_index array (at + 2)) ≡ r.is_active ∷ r.error_cntrl ∷ r.data_a ∷ [] =
    digits_from 256 3 _ 0 (omega arith) refl (bytes_more r.is_active (r.error_cntrl ∷ r.data_a ∷ []) (omega (arith, range.is_active)) (bytes_more r.error_cntrl (r.data_a ∷ []) range.error_cntrl (bytes_more r.data_a [] range.data_a none))) (omega (arith, held.words.0)) in
    let letters : to_digits 256 5 (slice_index array (at + 3)) ≡ r.data_b =
    digits_from 256 5 _ 0 (omega arith) held.lengths (λ i d under. omega (arith, (range.data_b i d under).1)) (omega (arith, held_word 1 (at + 3) held (omega arith) (omega arith))) in
    let id : slice_index array at / 4 ≡ r.s_id = omega (arith, held.key, range.s_id, range.sf_type) in
    let kind : slice_index array at % 4 + 1 ≡ r.sf_type = omega (arith, held.key, range.s_id, range.sf_type) in
    λ i. record { s_id = id i; sf_type = kind i; is_active = slice_index (bytes i) 0; error_cntrl = slice_index (bytes i) 1; data_a = slice_index (bytes i) 2; data_b = letters i }

-- and those of a call row
pub call_back : {array : List ℕ} {at : ℕ} {r : CallRow} → IsCallRow r → HoldsRow call_form array at r → call_in array at ≡ r
call_back {array} {at} {r} range held =
    let number : slice_index array (at + 3) ≡ r.numberx = held_word 1 (at + 3) held (omega arith) (omega arith) in
    let ends : slice_index array (at + 2) ≡ r.end_time = held.words.0 in
    let id : slice_index array at / 3 / 4 ≡ r.s_id = omega (arith, held.key, range.s_id, range.sf_type, range.start_time) in
    let kind : slice_index array at / 3 % 4 + 1 ≡ r.sf_type = omega (arith, held.key, range.s_id, range.sf_type, range.start_time) in
    let starts : slice_index array at % 3 * 8 ≡ r.start_time = omega (arith, held.key, range.s_id, range.sf_type, range.start_time) in
    λ i. record { s_id = id i; sf_type = kind i; start_time = starts i; end_time = ends i; numberx = number i }
