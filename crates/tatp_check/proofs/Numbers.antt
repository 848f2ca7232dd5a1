-- Number records: the tests of their words tell just the rows in range.
use Rattle.std.proofs.Common.{◌≡◌, ℕ, ◌^◌, ◌<◌, inl, inr, List, [], ◌∷◌, true, refl, sym, ap, ◌∙◌, arith}
use Rattle.std.proofs.lemmas.Bool.{cases_eq, ltb-true}
use Rattle.std.proofs.lemmas.Bool.Decides.{nat_tests}
use Rattle.tatp_model.specs.Database.{IsSubRow}
use Rattle.tatp_layout.specs.Decoding.{subscriber_in}
use Rattle.tatp_layout.specs.Records.{number_form}
use Rattle.tatp_check.specs.Content.{MayHold}
use Rattle.tatp_check.specs.Tests.{is_id, number_word}
use Rattle.tatp_check.proofs.Held.{may_past, may_link, at_offset, small, is_id-true}
use Rattle.tatp_check.proofs.Subscribers.{PassesSubscriber, passes_with, subscriber_in_range}

module _ (word : ℕ) where
  phone_passes : MayHold number_form IsSubRow 0 word → number_word 0 word ≡ true
  phone_passes (r, range, lengths, is) = small word (10 ^ 15) (omega (arith, range.sub_nbr, is))

  id_passes : MayHold number_form IsSubRow 2 word → number_word 2 word ≡ true
  id_passes (r, range, lengths, is) = ap is_id (sym is) ∙ is_id-true r.s_id range.s_id.0 range.s_id.1

  pub number_passes : (offset : ℕ) → MayHold number_form IsSubRow offset word → number_word offset word ≡ true
  number_passes offset h =
      let P : ℕ → Type 0 = λ o. MayHold number_form IsSubRow o word → number_word o word ≡ true in
      elim (cases_eq offset 0) [
        | inl e ↦ at_offset P offset 0 e phone_passes h
        | inr n0 ↦ elim (cases_eq offset 2) [
          | inl e ↦ at_offset P offset 2 e id_passes h
          | inr n2 ↦ grind (arith, nat_tests)
        ]
      ]

  -- the subscriber with this id and phone number
  with_phone : (phone : ℕ) → phone < 10 ^ 15 → PassesSubscriber (1 ∷ 0 ∷ 0 ∷ 0 ∷ 0 ∷ 0 ∷ 0 ∷ phone ∷ []) 0
  with_phone phone fits = passes_with 1 0 0 0 0 0 phone refl (omega arith) (omega arith) (omega arith) (omega arith) (omega arith) fits

  with_id : (id : ℕ) → is_id id ≡ true → PassesSubscriber (id ∷ 0 ∷ 0 ∷ 0 ∷ 0 ∷ 0 ∷ 0 ∷ 0 ∷ []) 0
  with_id id is = passes_with id 0 0 0 0 0 0 is (omega arith) (omega arith) (omega arith) (omega arith) (omega arith) (omega arith)

  pub number_may : (offset : ℕ) → number_word offset word ≡ true → MayHold number_form IsSubRow offset word
  number_may offset passes =
      let P : ℕ → Type 0 = λ o. number_word o word ≡ true → MayHold number_form IsSubRow o word in
      let some : List ℕ = 1 ∷ 0 ∷ 0 ∷ 0 ∷ 0 ∷ 0 ∷ 0 ∷ 0 ∷ [] in
      elim (cases_eq offset 0) [
        | inl e ↦ at_offset P offset 0 e (λ t. (subscriber_in (1 ∷ 0 ∷ 0 ∷ 0 ∷ 0 ∷ 0 ∷ 0 ∷ word ∷ []) 0, subscriber_in_range _ 0 (with_phone word (ltb-true word (10 ^ 15) t)), tt, refl)) passes
        | inr n0 ↦ elim (cases_eq offset 2) [
          | inl e ↦ at_offset P offset 2 e (λ t. (subscriber_in (word ∷ 0 ∷ 0 ∷ 0 ∷ 0 ∷ 0 ∷ 0 ∷ 0 ∷ []) 0, subscriber_in_range _ 0 (with_id word t), tt, refl)) passes
          | inr n2 ↦ elim (cases_eq offset 1) [
            | inl e ↦ at_offset P offset 1 e (λ t. may_link number_form IsSubRow (subscriber_in some 0) (subscriber_in_range some 0 (with_id 1 refl)) tt word) passes
            | inr n1 ↦ may_past number_form IsSubRow (subscriber_in some 0) (subscriber_in_range some 0 (with_id 1 refl)) tt offset word (omega arith)
          ]
        ]
      ]
