-- The highest bit in which two words differ, by what is between them.
use Rattle.std.proofs.Common.{◌≡◌, ◌≢◌, ℕ, suc, ◌+◌, ◌/◌, ◌^◌, ◌<◌, ◌≤◌, ◌-◌, ◌*◌, inl, inr, bit_xor, sym, ap, ◌∙◌, subst, arith}
use Rattle.std.proofs.lemmas.Bool.{cases_lt}
use Rattle.std.proofs.lemmas.Nat.{le-div, pow_pos, xor_shr, xor_lt, leading_top, shr_below}
use Rattle.std.specs.Int.Bits.{xor_self, xor_assoc, xor_zero_l, xor_zero_r}
use Rattle.std.specs.Int.Count.{count_leading_zeros}

-- between a number and itself is nothing
none_between : (a b : ℕ) → a ≡ b → bit_xor a b ≡ 0
none_between a b same = ap (bit_xor a) (sym same) ∙ xor_self a

-- numbers with nothing between them are one
same_from_none : (a b : ℕ) → bit_xor a b ≡ 0 → a ≡ b
same_from_none a b none = sym (xor_zero_r a) ∙ ap (bit_xor a) (sym none) ∙ sym (xor_assoc a a b) ∙ ap (λ x. bit_xor x b) (xor_self a) ∙ xor_zero_l b

-- The highest bit in which two words differ is over as many bits as the leading zeros of what is between them leave.
pub record IsHighest (a b zeros : ℕ) : Type 0 where
  pub few : zeros ≤ 63
  pub above : a / 2 ^ (63 - zeros + 1) ≡ b / 2 ^ (63 - zeros + 1)
  pub here : a / 2 ^ (63 - zeros) ≢ b / 2 ^ (63 - zeros)

pub highest : (a b zeros : ℕ) → a < 2 ^ 64 → b < 2 ^ 64 → a ≢ b → zeros ≡ count_leading_zeros 64 (bit_xor a b) → IsHighest a b zeros
highest a b zeros small_a small_b differ counted =
    let between = bit_xor a b in
    let top = leading_top 64 between (some between (λ none. differ (same_from_none a b none))) (xor_lt 64 a b small_a small_b) in
    let is : 63 - zeros ≡ top.0 = omega (arith, counted, top.1) in
    record {
      few = omega (arith, counted, top.1);
      above = same_from_none _ _ (sym (xor_shr a b _) ∙ nothing (shr_below between 0 _ (below between is top.3)));
      here = λ same. absurd (omega (arith, le-div 1 between (2 ^ (63 - zeros)) (pow_pos (63 - zeros)) (reaches between is top.2), xor_shr a b (63 - zeros), none_between _ _ same));
    }
  where
    some : (n : ℕ) → (n ≡ 0 → ⊥) → 0 < n
    some n h = elim (cases_lt 0 n) [ inl lt ↦ lt | inr le ↦ absurd (h (omega (arith, le))) ]

    nothing : {n : ℕ} → n < 2 ^ 0 → n ≡ 0
    nothing lt = omega (arith, lt)

    below : (n : ℕ) {bit place : ℕ} → bit ≡ place → n < 2 ^ suc place → n < 2 ^ (0 + (bit + 1))
    below n is lt = subst (λ k. n < 2 ^ k) (omega (arith, is)) lt

    reaches : (n : ℕ) {bit place : ℕ} → bit ≡ place → 2 ^ place ≤ n → 1 * 2 ^ bit ≤ n
    reaches n is le = omega (arith, ap (λ k. 2 ^ k) is, le)
