-- Access records: the tests of their words tell just the rows in range.
use Rattle.std.proofs.Common.{◌≡◌, ℕ, ◌+◌, ◌/◌, ◌%◌, ◌<◌, ◌≤◌, inl, inr, List, [], ◌∷◌, All, drop, length, true, slice_index, refl, sym, ap, ◌∙◌, subst, arith}
use Rattle.std.proofs.lemmas.Bool.{cases_eq}
use Rattle.std.proofs.lemmas.Bool.Decides.{nat_tests}
use Rattle.tatp_model.specs.Database.{IsAccessRow}
use Rattle.tatp_layout.specs.Decoding.{access_in}
use Rattle.tatp_layout.specs.Digits.{from_digits, to_digits}
use Rattle.tatp_layout.specs.Records.{HoldsRow, access_form}
use Rattle.tatp_layout.specs.DigitLists.{digits_front}
use Rattle.tatp_check.specs.Content.{MayHold}
use Rattle.tatp_check.specs.Tests.{is_kind_key, are_letters, access_word}
use Rattle.tatp_check.proofs.Held.{may_hold, may_past, may_link, at_offset, long, made, kind_key_range, is_kind_key-true}
use Rattle.tatp_check.proofs.Letters.{letters_small, letters_all, letters_made}

pub record PassesAccess (array : List ℕ) (at : ℕ) : Type 0 where
  pub key : is_kind_key (slice_index array at) ≡ true
  pub front : are_letters 3 (slice_index array (at + 2) / 65536) ≡ true
  pub back : are_letters 5 (slice_index array (at + 3)) ≡ true

-- two bytes and three more
five_bytes : (word : ℕ) → to_digits 256 5 word ≡ (word % 256) ∷ (word / 256 % 256) ∷ to_digits 256 3 (word / 65536)
five_bytes word =
    let rest : word / 256 / 256 ≡ word / 65536 = omega arith in
    digits_front 256 4 word ∙ ap (λ (l : List ℕ). (word % 256) ∷ l) (digits_front 256 3 (word / 256) ∙ ap (λ n. (word / 256 % 256) ∷ to_digits 256 3 n) rest)

module _ (array : List ℕ) (at : ℕ) (passes : PassesAccess array at) where
  pub access_in_range : IsAccessRow (access_in array at)
  access_in_range =
      let w = slice_index array (at + 2) in
      let key = kind_key_range (slice_index array at) passes.key in
      let b0 : slice_index (to_digits 256 5 w) 0 ≡ w % 256 = ap (λ l. slice_index l 0) (five_bytes w) in
      let b1 : slice_index (to_digits 256 5 w) 1 ≡ w / 256 % 256 = ap (λ l. slice_index l 1) (five_bytes w) in
      let more : drop 2 (to_digits 256 5 w) ≡ to_digits 256 3 (w / 65536) = ap (drop 2) (five_bytes w) in
      record {
        s_id = (omega (arith, key), omega (arith, key));
        ai_type = (omega arith, omega arith);
        data1 = omega (arith, b0);
        data2 = omega (arith, b1);
        data3 = subst (All (λ d. (65 ≤ d) × (d ≤ 90))) (sym more) (letters_all 3 (w / 65536) passes.front);
        data4 = letters_all 5 (slice_index array (at + 3)) passes.back;
      }

  pub access_held : HoldsRow access_form array at (access_in array at)
  access_held =
      let w = slice_index array (at + 2) in
      let key = kind_key_range (slice_index array at) passes.key in
      let at3 : at + 2 + 1 ≡ at + 3 = omega arith in
      let same : to_digits 256 5 w ≡ slice_index (to_digits 256 5 w) 0 ∷ slice_index (to_digits 256 5 w) 1 ∷ drop 2 (to_digits 256 5 w) =
      five_bytes w ∙ sym (ap (λ (l : List ℕ). slice_index l 0 ∷ slice_index l 1 ∷ drop 2 l) (five_bytes w)) in
      let few : w < 1099511627776 = omega (arith, letters_small 3 (w / 65536) passes.front) in
      record {
        key = omega (arith, key);
        words = (
          sym (ap (from_digits 256) (sym same) ∙ made 256 5 w (omega arith) few),
          (ap (slice_index array) at3 ∙ sym (made 256 5 (slice_index array (at + 3)) (omega arith) (letters_small 5 (slice_index array (at + 3)) passes.back)), tt),
        );
        lengths = (
          ap (λ (l : List ℕ). length (drop 2 l)) (five_bytes w) ∙ long 256 3 (w / 65536),
          long 256 5 (slice_index array (at + 3)),
        );
      }

module _ (word : ℕ) where
  key_passes : MayHold access_form IsAccessRow 0 word → access_word 0 word ≡ true
  key_passes (r, range, lengths, is) = is_kind_key-true word (omega (arith, is, range.s_id, range.ai_type)) (omega (arith, is, range.s_id, range.ai_type))

  front_passes : MayHold access_form IsAccessRow 2 word → access_word 2 word ≡ true
  front_passes (r, range, lengths, is) = letters_made 3 (word / 65536) r.info.data3 lengths.0 range.data3 (omega (arith, is, range.data1, range.data2))

  back_passes : MayHold access_form IsAccessRow 3 word → access_word 3 word ≡ true
  back_passes (r, range, lengths, is) = letters_made 5 word r.info.data4 lengths.1 range.data4 (sym is)

  pub access_passes : (offset : ℕ) → MayHold access_form IsAccessRow offset word → access_word offset word ≡ true
  access_passes offset h =
      let P : ℕ → Type 0 = λ o. MayHold access_form IsAccessRow o word → access_word o word ≡ true in
      elim (cases_eq offset 0) [
        | inl e ↦ at_offset P offset 0 e key_passes h
        | inr n0 ↦ elim (cases_eq offset 2) [
          | inl e ↦ at_offset P offset 2 e front_passes h
          | inr n2 ↦ elim (cases_eq offset 3) [
            | inl e ↦ at_offset P offset 3 e back_passes h
            | inr n3 ↦ grind (arith, nat_tests)
          ]
        ]
      ]

  may_with : (key front back : ℕ) → PassesAccess (key ∷ 0 ∷ front ∷ back ∷ []) 0 → (offset : ℕ) → MayHold access_form IsAccessRow offset (slice_index (key ∷ 0 ∷ front ∷ back ∷ []) (0 + offset))
  may_with key front back passes offset = may_hold (access_in_range (key ∷ 0 ∷ front ∷ back ∷ []) 0 passes) (access_held (key ∷ 0 ∷ front ∷ back ∷ []) 0 passes) offset

  -- all letters are A
  pub access_may : (offset : ℕ) → access_word offset word ≡ true → MayHold access_form IsAccessRow offset word
  access_may offset passes =
      let P : ℕ → Type 0 = λ o. access_word o word ≡ true → MayHold access_form IsAccessRow o word in
      let some : PassesAccess (4 ∷ 0 ∷ 280267653120 ∷ 280267669825 ∷ []) 0 = record { key = refl; front = refl; back = refl } in
      let range = access_in_range (4 ∷ 0 ∷ 280267653120 ∷ 280267669825 ∷ []) 0 some in
      let held = access_held (4 ∷ 0 ∷ 280267653120 ∷ 280267669825 ∷ []) 0 some in
      elim (cases_eq offset 0) [
        | inl e ↦ at_offset P offset 0 e (λ t. may_with word 280267653120 280267669825 (record { key = t; front = refl; back = refl }) 0) passes
        | inr n0 ↦ elim (cases_eq offset 2) [
          | inl e ↦ at_offset P offset 2 e (λ t. may_with 4 word 280267669825 (record { key = refl; front = t; back = refl }) 2) passes
          | inr n2 ↦ elim (cases_eq offset 3) [
            | inl e ↦ at_offset P offset 3 e (λ t. may_with 4 280267653120 word (record { key = refl; front = refl; back = t }) 3) passes
            | inr n3 ↦ elim (cases_eq offset 1) [
              | inl e ↦ at_offset P offset 1 e (λ t. may_link access_form IsAccessRow (access_in (4 ∷ 0 ∷ 280267653120 ∷ 280267669825 ∷ []) 0) range held.lengths word) passes
              | inr n1 ↦ may_past access_form IsAccessRow (access_in (4 ∷ 0 ∷ 280267653120 ∷ 280267669825 ∷ []) 0) range held.lengths offset word (omega arith)
            ]
          ]
        ]
      ]
