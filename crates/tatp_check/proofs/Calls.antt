-- Call records: the tests of their words tell just the rows in range.
use Rattle.std.proofs.Common.{◌≡◌, ◌⊎◌, ℕ, ◌+◌, ◌*◌, ◌%◌, ◌^◌, ◌<◌, ◌≤◌, inl, inr, List, [], ◌∷◌, true, slice_index, refl, ap, arith}
use Rattle.std.proofs.lemmas.Bool.{cases_eq}
use Rattle.std.proofs.lemmas.Bool.Decides.{nat_tests}
use Rattle.tatp_model.specs.Database.{IsCallRow}
use Rattle.tatp_layout.specs.Decoding.{call_in}
use Rattle.tatp_layout.specs.Records.{HoldsRow, call_form}
use Rattle.tatp_check.specs.Content.{MayHold}
use Rattle.tatp_check.specs.Tests.{call_word}
use Rattle.tatp_check.proofs.Held.{may_hold, may_past, may_link, at_offset}

pub record PassesCall (array : List ℕ) (at : ℕ) : Type 0 where
  pub key : (12 ≤ slice_index array at) × (slice_index array at < 12 * 2 ^ 32)
  pub ends : (1 ≤ slice_index array (at + 2)) × (slice_index array (at + 2) ≤ 24)
  pub number : slice_index array (at + 3) < 10 ^ 15

-- an hour of three
starts : (k : ℕ) → (k % 3 * 8 ≡ 0) ⊎ ((k % 3 * 8 ≡ 8) ⊎ (k % 3 * 8 ≡ 16))
starts k = elim (cases_eq (k % 3) 0) [
  | inl zero_left ↦ inl (omega (arith, zero_left))
  | inr n0 ↦ elim (cases_eq (k % 3) 1) [
    | inl one ↦ inr (inl (omega (arith, one)))
    | inr n1 ↦ inr (inr (omega (arith, n0, n1)))
  ]
]

module _ (array : List ℕ) (at : ℕ) (passes : PassesCall array at) where
  pub call_in_range : IsCallRow (call_in array at)
  call_in_range = record {
    s_id = (omega (arith, passes.key), omega (arith, passes.key));
    sf_type = (omega arith, omega arith);
    start_time = starts (slice_index array at);
    end_time = passes.ends;
    numberx = passes.number;
  }

  pub call_held : HoldsRow call_form array at (call_in array at)
  call_held =
      let at3 : at + 2 + 1 ≡ at + 3 = omega arith in
      record { key = omega (arith, passes.key); words = (refl, (ap (slice_index array) at3, tt)); lengths = tt }

module _ (word : ℕ) where
  key_passes : MayHold call_form IsCallRow 0 word → call_word 0 word ≡ true
  key_passes (r, range, lengths, is) =
      let low : 12 ≤ word = omega (arith, is, range.s_id, range.sf_type, range.start_time) in
      let high : word < 12 * 2 ^ 32 = omega (arith, is, range.s_id, range.sf_type, range.start_time) in
      grind (arith, nat_tests)

  ends_pass : MayHold call_form IsCallRow 2 word → call_word 2 word ≡ true
  ends_pass (r, range, lengths, is) =
      let low : 1 ≤ word = omega (arith, is, range.end_time) in
      let high : word ≤ 24 = omega (arith, is, range.end_time) in
      grind (arith, nat_tests)

  number_passes : MayHold call_form IsCallRow 3 word → call_word 3 word ≡ true
  number_passes (r, range, lengths, is) =
      let high : word < 10 ^ 15 = omega (arith, is, range.numberx) in
      grind (arith, nat_tests)

  pub call_passes : (offset : ℕ) → MayHold call_form IsCallRow offset word → call_word offset word ≡ true
  call_passes offset h =
      let P : ℕ → Type 0 = λ o. MayHold call_form IsCallRow o word → call_word o word ≡ true in
      elim (cases_eq offset 0) [
        | inl e ↦ at_offset P offset 0 e key_passes h
        | inr n0 ↦ elim (cases_eq offset 2) [
          | inl e ↦ at_offset P offset 2 e ends_pass h
          | inr n2 ↦ elim (cases_eq offset 3) [
            | inl e ↦ at_offset P offset 3 e number_passes h
            | inr n3 ↦ grind (arith, nat_tests)
          ]
        ]
      ]

  pub call_key_range : call_word 0 word ≡ true → (12 ≤ word) × (word < 12 * 2 ^ 32)
  call_key_range is = (grind (arith, nat_tests), grind (arith, nat_tests))

  pub ends_range : call_word 2 word ≡ true → (1 ≤ word) × (word ≤ 24)
  ends_range is = (grind (arith, nat_tests), grind (arith, nat_tests))

  pub number_range : call_word 3 word ≡ true → word < 10 ^ 15
  number_range is = grind (arith, nat_tests)

  may_with : (key ends number : ℕ) → PassesCall (key ∷ 0 ∷ ends ∷ number ∷ []) 0 → (offset : ℕ) → MayHold call_form IsCallRow offset (slice_index (key ∷ 0 ∷ ends ∷ number ∷ []) (0 + offset))
  may_with key ends number passes offset = may_hold (call_in_range (key ∷ 0 ∷ ends ∷ number ∷ []) 0 passes) (call_held (key ∷ 0 ∷ ends ∷ number ∷ []) 0 passes) offset

  pub call_may : (offset : ℕ) → call_word offset word ≡ true → MayHold call_form IsCallRow offset word
  call_may offset passes =
      let P : ℕ → Type 0 = λ o. call_word o word ≡ true → MayHold call_form IsCallRow o word in
      let some : PassesCall (12 ∷ 0 ∷ 1 ∷ 0 ∷ []) 0 = record { key = (omega arith, omega arith); ends = (omega arith, omega arith); number = omega arith } in
      let range = call_in_range (12 ∷ 0 ∷ 1 ∷ 0 ∷ []) 0 some in
      elim (cases_eq offset 0) [
        | inl e ↦ at_offset P offset 0 e (λ t. may_with word 1 0 (record { key = call_key_range t; ends = (omega arith, omega arith); number = omega arith }) 0) passes
        | inr n0 ↦ elim (cases_eq offset 2) [
          | inl e ↦ at_offset P offset 2 e (λ t. may_with 12 word 0 (record { key = (omega arith, omega arith); ends = ends_range t; number = omega arith }) 2) passes
          | inr n2 ↦ elim (cases_eq offset 3) [
            | inl e ↦ at_offset P offset 3 e (λ t. may_with 12 1 word (record { key = (omega arith, omega arith); ends = (omega arith, omega arith); number = number_range t }) 3) passes
            | inr n3 ↦ elim (cases_eq offset 1) [
              | inl e ↦ at_offset P offset 1 e (λ t. may_link call_form IsCallRow (call_in (12 ∷ 0 ∷ 1 ∷ 0 ∷ []) 0) range tt word) passes
              | inr n1 ↦ may_past call_form IsCallRow (call_in (12 ∷ 0 ∷ 1 ∷ 0 ∷ []) 0) range tt offset word (omega arith)
            ]
          ]
        ]
      ]
