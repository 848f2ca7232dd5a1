-- Facilities' records: the tests of their words tell just the rows in range.
use Rattle.std.proofs.Common.{◌≡◌, ℕ, ◌+◌, ◌/◌, ◌%◌, ◌^◌, ◌<◌, ◌≤◌, inl, inr, List, [], ◌∷◌, true, slice_index, refl, sym, ap, ◌∙◌, arith}
use Rattle.std.proofs.lemmas.Bool.{cases_eq}
use Rattle.std.proofs.lemmas.Bool.Decides.{nat_tests}
use Rattle.tatp_model.specs.Database.{IsFacRow}
use Rattle.tatp_layout.specs.Decoding.{facility_in}
use Rattle.tatp_layout.specs.Digits.{from_digits, to_digits}
use Rattle.tatp_layout.specs.Records.{HoldsRow, facility_form}
use Rattle.tatp_layout.specs.DigitLists.{digits_front}
use Rattle.tatp_check.specs.Content.{MayHold}
use Rattle.tatp_check.specs.Tests.{is_kind_key, are_letters, facility_word}
use Rattle.tatp_check.proofs.Held.{may_hold, may_past, may_link, at_offset, long, made, kind_key_range, is_kind_key-true}
use Rattle.tatp_check.proofs.Letters.{letters_small, letters_all, letters_made}

pub record PassesFacility (array : List ℕ) (at : ℕ) : Type 0 where
  pub key : is_kind_key (slice_index array at) ≡ true
  pub front : slice_index array (at + 2) < 2 ^ 24
  pub active : slice_index array (at + 2) % 256 ≤ 1
  pub letters : are_letters 5 (slice_index array (at + 3)) ≡ true

-- three bytes
three_bytes : (word : ℕ) → to_digits 256 3 word ≡ (word % 256) ∷ (word / 256 % 256) ∷ (word / 256 / 256 % 256) ∷ []
three_bytes word =
    digits_front 256 2 word ∙ ap (λ (l : List ℕ). (word % 256) ∷ l) (digits_front 256 1 (word / 256) ∙ ap (λ (l : List ℕ). (word / 256 % 256) ∷ l) (digits_front 256 0 (word / 256 / 256)))

module _ (array : List ℕ) (at : ℕ) (passes : PassesFacility array at) where
  pub facility_in_range : IsFacRow (facility_in array at)
  facility_in_range =
      let w = slice_index array (at + 2) in
      let key = kind_key_range (slice_index array at) passes.key in
      let b0 : slice_index (to_digits 256 3 w) 0 ≡ w % 256 = ap (λ l. slice_index l 0) (three_bytes w) in
      let b1 : slice_index (to_digits 256 3 w) 1 ≡ w / 256 % 256 = ap (λ l. slice_index l 1) (three_bytes w) in
      let b2 : slice_index (to_digits 256 3 w) 2 ≡ w / 256 / 256 % 256 = ap (λ l. slice_index l 2) (three_bytes w) in
      record {
        s_id = (omega (arith, key), omega (arith, key));
        sf_type = (omega arith, omega arith);
        is_active = omega (arith, b0, passes.active);
        error_cntrl = omega (arith, b1);
        data_a = omega (arith, b2);
        data_b = letters_all 5 (slice_index array (at + 3)) passes.letters;
      }

  pub facility_held : HoldsRow facility_form array at (facility_in array at)
  facility_held =
      let w = slice_index array (at + 2) in
      let key = kind_key_range (slice_index array at) passes.key in
      let at3 : at + 2 + 1 ≡ at + 3 = omega arith in
      let same : to_digits 256 3 w ≡ slice_index (to_digits 256 3 w) 0 ∷ slice_index (to_digits 256 3 w) 1 ∷ slice_index (to_digits 256 3 w) 2 ∷ [] =
      three_bytes w ∙ sym (ap (λ (l : List ℕ). slice_index l 0 ∷ slice_index l 1 ∷ slice_index l 2 ∷ []) (three_bytes w)) in
      record {
        key = omega (arith, key);
        words = (
          sym (ap (from_digits 256) (sym same) ∙ made 256 3 w (omega arith) passes.front),
          (ap (slice_index array) at3 ∙ sym (made 256 5 (slice_index array (at + 3)) (omega arith) (letters_small 5 (slice_index array (at + 3)) passes.letters)), tt),
        );
        lengths = long 256 5 (slice_index array (at + 3));
      }

module _ (word : ℕ) where
  key_passes : MayHold facility_form IsFacRow 0 word → facility_word 0 word ≡ true
  key_passes (r, range, lengths, is) = is_kind_key-true word (omega (arith, is, range.s_id, range.sf_type)) (omega (arith, is, range.s_id, range.sf_type))

  front_passes : MayHold facility_form IsFacRow 2 word → facility_word 2 word ≡ true
  front_passes (r, range, lengths, is) =
      let high : word < 2 ^ 24 = omega (arith, is, range.is_active, range.error_cntrl, range.data_a) in
      let active : word % 256 ≤ 1 = omega (arith, is, range.is_active, range.error_cntrl, range.data_a) in
      grind (arith, nat_tests)

  letters_pass : MayHold facility_form IsFacRow 3 word → facility_word 3 word ≡ true
  letters_pass (r, range, lengths, is) = letters_made 5 word r.data_b lengths range.data_b (sym is)

  pub facility_passes : (offset : ℕ) → MayHold facility_form IsFacRow offset word → facility_word offset word ≡ true
  facility_passes offset h =
      let P : ℕ → Type 0 = λ o. MayHold facility_form IsFacRow o word → facility_word o word ≡ true in
      elim (cases_eq offset 0) [
        | inl e ↦ at_offset P offset 0 e key_passes h
        | inr n0 ↦ elim (cases_eq offset 2) [
          | inl e ↦ at_offset P offset 2 e front_passes h
          | inr n2 ↦ elim (cases_eq offset 3) [
            | inl e ↦ at_offset P offset 3 e letters_pass h
            | inr n3 ↦ grind (arith, nat_tests)
          ]
        ]
      ]

  pub front_range : facility_word 2 word ≡ true → (word < 2 ^ 24) × (word % 256 ≤ 1)
  front_range is = (grind (arith, nat_tests), grind (arith, nat_tests))

  may_with : (key front letters : ℕ) → PassesFacility (key ∷ 0 ∷ front ∷ letters ∷ []) 0 → (offset : ℕ) → MayHold facility_form IsFacRow offset (slice_index (key ∷ 0 ∷ front ∷ letters ∷ []) (0 + offset))
  may_with key front letters passes offset = may_hold (facility_in_range (key ∷ 0 ∷ front ∷ letters ∷ []) 0 passes) (facility_held (key ∷ 0 ∷ front ∷ letters ∷ []) 0 passes) offset

  -- five letters A
  pub facility_may : (offset : ℕ) → facility_word offset word ≡ true → MayHold facility_form IsFacRow offset word
  facility_may offset passes =
      let P : ℕ → Type 0 = λ o. facility_word o word ≡ true → MayHold facility_form IsFacRow o word in
      let some : PassesFacility (4 ∷ 0 ∷ 0 ∷ 280267669825 ∷ []) 0 = record { key = refl; front = omega arith; active = omega arith; letters = refl } in
      let range = facility_in_range (4 ∷ 0 ∷ 0 ∷ 280267669825 ∷ []) 0 some in
      let held = facility_held (4 ∷ 0 ∷ 0 ∷ 280267669825 ∷ []) 0 some in
      elim (cases_eq offset 0) [
        | inl e ↦ at_offset P offset 0 e (λ t. may_with word 0 280267669825 (record { key = t; front = omega arith; active = omega arith; letters = refl }) 0) passes
        | inr n0 ↦ elim (cases_eq offset 2) [
          | inl e ↦ at_offset P offset 2 e (λ t. may_with 4 word 280267669825 (record { key = refl; front = (front_range t).0; active = (front_range t).1; letters = refl }) 2) passes
          | inr n2 ↦ elim (cases_eq offset 3) [
            | inl e ↦ at_offset P offset 3 e (λ t. may_with 4 0 word (record { key = refl; front = omega arith; active = omega arith; letters = t }) 3) passes
            | inr n3 ↦ elim (cases_eq offset 1) [
              | inl e ↦ at_offset P offset 1 e (λ t. may_link facility_form IsFacRow (facility_in (4 ∷ 0 ∷ 0 ∷ 280267669825 ∷ []) 0) range held.lengths word) passes
              | inr n1 ↦ may_past facility_form IsFacRow (facility_in (4 ∷ 0 ∷ 0 ∷ 280267669825 ∷ []) 0) range held.lengths offset word (omega arith)
            ]
          ]
        ]
      ]
