-- Subscribers' records: the tests of their words tell just the rows in range.
use Rattle.std.proofs.Common.{◌≡◌, inl, inr, ℕ, ◌+◌, ◌*◌, ◌/◌, ◌%◌, ◌^◌, ◌<◌, ◌≤◌, List, [], ◌∷◌, ◌++◌, take, drop, true, slice_index, refl, sym, ap, ap₂, ◌∙◌, arith, length-append, length-drop, length-take-le}
use Rattle.std.proofs.lemmas.Bool.{cases_eq, ltb-true}
use Rattle.std.proofs.lemmas.Bool.Decides.{nat_tests}
use Rattle.std.proofs.lemmas.List.{take_at, drop_at}
use Rattle.std.proofs.lemmas.List.Elements.{All-append, All-take, All-drop}
use Rattle.tatp_model.specs.Database.{IsSubRow}
use Rattle.tatp_layout.specs.Decoding.{subscriber_in}
use Rattle.tatp_layout.specs.Digits.{from_digits, to_digits}
use Rattle.tatp_layout.specs.Records.{HoldsRow, subscriber_form}
use Rattle.tatp_layout.specs.DigitLists.{digits_below, digits_whole}
use Rattle.tatp_check.specs.Content.{MayHold}
use Rattle.tatp_check.specs.Tests.{is_id, subscriber_word}
use Rattle.tatp_check.proofs.Held.{may_hold, may_past, may_link, long, each_digit, made, at_offset, small, is_id-true, id_range}

-- ---- the row of a record whose words pass the tests

pub record PassesSubscriber (array : List ℕ) (at : ℕ) : Type 0 where
  pub key : is_id (slice_index array at) ≡ true
  pub flags : slice_index array (at + 2) < 2 ^ 50
  pub front : slice_index array (at + 3) < 2 ^ 64
  pub back : slice_index array (at + 4) < 2 ^ 16
  pub msc : slice_index array (at + 5) < 2 ^ 32
  pub vlr : slice_index array (at + 6) < 2 ^ 32
  pub phone : slice_index array (at + 7) < 10 ^ 15

module _ (array : List ℕ) (at : ℕ) (passes : PassesSubscriber array at) where
  pub subscriber_in_range : IsSubRow (subscriber_in array at)
  subscriber_in_range = record {
    s_id = id_range (slice_index array at) passes.key;
    sub_nbr = passes.phone;
    bits = each_digit (λ d. d ≤ 1) 2 10 (slice_index array (at + 2)) (λ n. omega arith);
    hexes = each_digit (λ d. d < 16) 16 10 (slice_index array (at + 2) / 2 ^ 10) (λ n. omega arith);
    bytes = All-append (λ d. d < 256) (to_digits 256 8 (slice_index array (at + 3))) (to_digits 256 2 (slice_index array (at + 4)))
        (each_digit (λ d. d < 256) 256 8 (slice_index array (at + 3)) (λ n. omega arith)) (each_digit (λ d. d < 256) 256 2 (slice_index array (at + 4)) (λ n. omega arith));
    msc = passes.msc;
    vlr = passes.vlr;
  }

  flags_made : slice_index array (at + 2) ≡ from_digits 2 (to_digits 2 10 (slice_index array (at + 2))) + 2 ^ 10 * from_digits 16 (to_digits 16 10 (slice_index array (at + 2) / 2 ^ 10))
  flags_made =
      let w = slice_index array (at + 2) in
      let low : from_digits 2 (to_digits 2 10 w) ≡ w % 1024 = digits_whole 2 10 w (omega arith) in
      let high : from_digits 16 (to_digits 16 10 (w / 1024)) ≡ w / 1024 = made 16 10 (w / 1024) (omega arith) (omega (arith, passes.flags)) in
      omega (arith, low, high)

  pub subscriber_held : HoldsRow subscriber_form array at (subscriber_in array at)
  subscriber_held =
      let w3 = slice_index array (at + 3) in
      let w4 = slice_index array (at + 4) in
      let eight = long 256 8 w3 in
      let front : take 8 (to_digits 256 8 w3 ++ to_digits 256 2 w4) ≡ to_digits 256 8 w3 = take_at (to_digits 256 8 w3) (to_digits 256 2 w4) 8 eight in
      let back : drop 8 (to_digits 256 8 w3 ++ to_digits 256 2 w4) ≡ to_digits 256 2 w4 = drop_at (to_digits 256 8 w3) (to_digits 256 2 w4) 8 eight in
      let at3 : at + 2 + 1 ≡ at + 3 = omega arith in
      let at4 : at + 2 + 1 + 1 ≡ at + 4 = omega arith in
      let at5 : at + 2 + 1 + 1 + 1 ≡ at + 5 = omega arith in
      let at6 : at + 2 + 1 + 1 + 1 + 1 ≡ at + 6 = omega arith in
      let at7 : at + 2 + 1 + 1 + 1 + 1 + 1 ≡ at + 7 = omega arith in
      record {
        key = refl;
        words = (
          flags_made,
          (
            ap (slice_index array) at3 ∙ sym (ap (from_digits 256) front ∙ made 256 8 w3 (omega arith) passes.front),
            (
              ap (slice_index array) at4 ∙ sym (ap (from_digits 256) back ∙ made 256 2 w4 (omega arith) passes.back),
              (ap (slice_index array) at5, (ap (slice_index array) at6, (ap (slice_index array) at7, tt))),
            ),
          ),
        );
        lengths = (
          long 2 10 (slice_index array (at + 2)),
          long 16 10 (slice_index array (at + 2) / 2 ^ 10),
          length-append (to_digits 256 8 w3) (to_digits 256 2 w4) ∙ ap₂ (λ m n. m + n) eight (long 256 2 w4),
        );
      }

-- ---- the words of a row in range pass the tests

-- the word at this offset, of a row in range
module _ (word : ℕ) where
  key_passes : MayHold subscriber_form IsSubRow 0 word → subscriber_word 0 word ≡ true
  key_passes (r, range, lengths, is) = ap is_id (sym is) ∙ is_id-true r.s_id range.s_id.0 range.s_id.1

  flags_pass : MayHold subscriber_form IsSubRow 2 word → subscriber_word 2 word ≡ true
  flags_pass (r, range, lengths, is) =
      let bits : from_digits 2 r.bits < 1024 = digits_below r.bits 10 lengths.0 (λ i d under. omega (arith, range.bits i d under)) in
      let hexes : from_digits 16 r.hexes < 1099511627776 = digits_below r.hexes 10 lengths.1 range.hexes in
      small word (2 ^ 50) (omega (arith, bits, hexes, is))

  back_passes : MayHold subscriber_form IsSubRow 4 word → subscriber_word 4 word ≡ true
  back_passes (r, range, lengths, is) =
      let bytes : from_digits 256 (drop 8 r.bytes) < 65536 = digits_below (drop 8 r.bytes) 2 (omega (arith, length-drop 8 r.bytes, lengths.2)) (All-drop (λ d. d < 256) 8 r.bytes range.bytes) in
      small word (2 ^ 16) (omega (arith, bytes, is))

  -- of all words alone a row in range tells that they have 64 bits
  pub front_small : MayHold subscriber_form IsSubRow 3 word → word < 2 ^ 64
  front_small (r, range, lengths, is) =
      let bytes : from_digits 256 (take 8 r.bytes) < 18446744073709551616 = digits_below (take 8 r.bytes) 8 (length-take-le 8 r.bytes (omega (arith, lengths.2))) (All-take (λ d. d < 256) 8 r.bytes range.bytes) in
      omega (arith, bytes, is)

  msc_passes : MayHold subscriber_form IsSubRow 5 word → subscriber_word 5 word ≡ true
  msc_passes (r, range, lengths, is) = small word (2 ^ 32) (omega (arith, range.msc, is))

  vlr_passes : MayHold subscriber_form IsSubRow 6 word → subscriber_word 6 word ≡ true
  vlr_passes (r, range, lengths, is) = small word (2 ^ 32) (omega (arith, range.vlr, is))

  phone_passes : MayHold subscriber_form IsSubRow 7 word → subscriber_word 7 word ≡ true
  phone_passes (r, range, lengths, is) = small word (10 ^ 15) (omega (arith, range.sub_nbr, is))

pub subscriber_passes : (offset word : ℕ) → MayHold subscriber_form IsSubRow offset word → subscriber_word offset word ≡ true
subscriber_passes offset word h =
    let P : ℕ → Type 0 = λ o. MayHold subscriber_form IsSubRow o word → subscriber_word o word ≡ true in
    elim (cases_eq offset 0) [
      | inl e ↦ at_offset P offset 0 e (key_passes word) h
      | inr n0 ↦ elim (cases_eq offset 2) [
        | inl e ↦ at_offset P offset 2 e (flags_pass word) h
        | inr n2 ↦ elim (cases_eq offset 4) [
          | inl e ↦ at_offset P offset 4 e (back_passes word) h
          | inr n4 ↦ elim (cases_eq offset 5) [
            | inl e ↦ at_offset P offset 5 e (msc_passes word) h
            | inr n5 ↦ elim (cases_eq offset 6) [
              | inl e ↦ at_offset P offset 6 e (vlr_passes word) h
              | inr n6 ↦ elim (cases_eq offset 7) [
                | inl e ↦ at_offset P offset 7 e (phone_passes word) h
                | inr n7 ↦ grind (arith, nat_tests)
              ]
            ]
          ]
        ]
      ]
    ]

-- ---- a word that passes its test is one of a row in range

-- a record with these words, where the others are least
pub passes_with : (key flags front back msc vlr phone : ℕ) → is_id key ≡ true → flags < 2 ^ 50 → front < 2 ^ 64 → back < 2 ^ 16 → msc < 2 ^ 32 → vlr < 2 ^ 32 → phone < 10 ^ 15
    → PassesSubscriber (key ∷ 0 ∷ flags ∷ front ∷ back ∷ msc ∷ vlr ∷ phone ∷ []) 0
passes_with key flags front back msc vlr phone a b c d e f g = record { key = a; flags = b; front = c; back = d; msc = e; vlr = f; phone = g }

may_with : (array : List ℕ) → PassesSubscriber array 0 → (offset : ℕ) → MayHold subscriber_form IsSubRow offset (slice_index array (0 + offset))
may_with array passes offset = may_hold (subscriber_in_range array 0 passes) (subscriber_held array 0 passes) offset

module _ (word : ℕ) where
  some : PassesSubscriber (1 ∷ 0 ∷ 0 ∷ 0 ∷ 0 ∷ 0 ∷ 0 ∷ 0 ∷ []) 0
  some = passes_with 1 0 0 0 0 0 0 refl (omega arith) (omega arith) (omega arith) (omega arith) (omega arith) (omega arith)

  past : (offset : ℕ) → 8 ≤ offset → MayHold subscriber_form IsSubRow offset word
  past offset behind =
      let array : List ℕ = 1 ∷ 0 ∷ 0 ∷ 0 ∷ 0 ∷ 0 ∷ 0 ∷ 0 ∷ [] in
      let held = subscriber_held array 0 some in
      may_past subscriber_form IsSubRow (subscriber_in array 0) (subscriber_in_range array 0 some) held.lengths offset word behind

  pub subscriber_may : (offset : ℕ) → word < 2 ^ 64 → subscriber_word offset word ≡ true → MayHold subscriber_form IsSubRow offset word
  subscriber_may offset fits passes =
      let P : ℕ → Type 0 = λ o. subscriber_word o word ≡ true → MayHold subscriber_form IsSubRow o word in
      elim (cases_eq offset 0) [
        | inl e ↦ at_offset P offset 0 e (λ t. may_with _ (passes_with word 0 0 0 0 0 0 t (omega arith) (omega arith) (omega arith) (omega arith) (omega arith) (omega arith)) 0) passes
        | inr n0 ↦ elim (cases_eq offset 2) [
          | inl e ↦ at_offset P offset 2 e (λ t. may_with _ (passes_with 1 word 0 0 0 0 0 refl (ltb-true word (2 ^ 50) t) (omega arith) (omega arith) (omega arith) (omega arith) (omega arith)) 2) passes
          | inr n2 ↦ elim (cases_eq offset 4) [
            | inl e ↦ at_offset P offset 4 e (λ t. may_with _ (passes_with 1 0 0 word 0 0 0 refl (omega arith) (omega arith) (ltb-true word (2 ^ 16) t) (omega arith) (omega arith) (omega arith)) 4) passes
            | inr n4 ↦ elim (cases_eq offset 5) [
              | inl e ↦ at_offset P offset 5 e (λ t. may_with _ (passes_with 1 0 0 0 word 0 0 refl (omega arith) (omega arith) (omega arith) (ltb-true word (2 ^ 32) t) (omega arith) (omega arith)) 5) passes
              | inr n5 ↦ elim (cases_eq offset 6) [
                | inl e ↦ at_offset P offset 6 e (λ t. may_with _ (passes_with 1 0 0 0 0 word 0 refl (omega arith) (omega arith) (omega arith) (omega arith) (ltb-true word (2 ^ 32) t) (omega arith)) 6) passes
                | inr n6 ↦ elim (cases_eq offset 7) [
                  | inl e ↦ at_offset P offset 7 e (λ t. may_with _ (passes_with 1 0 0 0 0 0 word refl (omega arith) (omega arith) (omega arith) (omega arith) (omega arith) (ltb-true word (10 ^ 15) t)) 7) passes
                  | inr n7 ↦ elim (cases_eq offset 3) [
                    | inl e ↦ at_offset P offset 3 e (λ t. may_with _ (passes_with 1 0 word 0 0 0 0 refl (omega arith) fits (omega arith) (omega arith) (omega arith) (omega arith)) 3) passes
                    | inr n3 ↦ elim (cases_eq offset 1) [
                      | inl e ↦ at_offset P offset 1 e (λ t. may_link subscriber_form IsSubRow _ (subscriber_in_range _ 0 some) (subscriber_held _ 0 some).lengths word) passes
                      | inr n1 ↦ past offset (omega arith)
                    ]
                  ]
                ]
              ]
            ]
          ]
        ]
      ]
