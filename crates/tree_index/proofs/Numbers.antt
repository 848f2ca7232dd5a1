-- Numbers that agree from a bit on, and their order.
use Rattle.std.proofs.Common.{◌≡◌, ◌≢◌, ℕ, ◌+◌, ◌-◌, ◌*◌, ◌/◌, ◌%◌, ◌^◌, ◌<◌, ◌≤◌, inl, inr, sym, ap, ◌∙◌, arith, div-mul-le_self, div-add-mod'}
use Rattle.std.proofs.lemmas.Bool.{cases_lt, cases_order}
use Rattle.std.proofs.lemmas.Nat.{le-div, pow_pos, shr-shr, shr_le}
use Rattle.tree_index.specs.Shape.{bit_of}

-- numbers that agree from one bit on agree from each higher one on
pub agree_up : (m n a c : ℕ) → m ≤ n → a / 2 ^ m ≡ c / 2 ^ m → a / 2 ^ n ≡ c / 2 ^ n
agree_up m n a c le same =
    let k : m + (n - m) ≡ n = omega (arith, le) in
    ap (λ j. a / 2 ^ j) (sym k) ∙ sym (shr-shr a m (n - m)) ∙ ap (λ x. x / 2 ^ (n - m)) same ∙ shr-shr c m (n - m) ∙ ap (λ j. c / 2 ^ j) k

-- the bits above a bit
pub half : (b a : ℕ) → a / 2 ^ (b + 1) ≡ a / 2 ^ b / 2
half b a = sym (shr-shr a b 1)

-- what a number is from a bit on, by that bit and the bits above
pub from_bit : (b a : ℕ) → a / 2 ^ b ≡ 2 * (a / 2 ^ (b + 1)) + bit_of a b
from_bit b a = omega (arith, half b a, div-add-mod' (a / 2 ^ b) 2)

-- the greater from a bit on is the greater
pub below_from : (m a c : ℕ) → a / 2 ^ m < c / 2 ^ m → a < c
below_from m a c less =
    elim (cases_lt a c) [
      | inl lt ↦ lt
      | inr le ↦ absurd (omega (arith, less, le-div (c / 2 ^ m) a (2 ^ m) (pow_pos m) (omega (arith, div-mul-le_self c (2 ^ m), le))))
    ]

-- and the greater, where they differ from a bit on, is the greater from there
pub from_below : (m a c : ℕ) → a < c → a / 2 ^ m ≢ c / 2 ^ m → a / 2 ^ m < c / 2 ^ m
from_below m a c less differ =
    elim (cases_order (a / 2 ^ m) (c / 2 ^ m)) [
      | inl same ↦ absurd (differ same)
      | inr order ↦ elim order [
        | inl below ↦ below
        | inr above ↦ absurd (omega (arith, less, below_from m c a above))
      ]
    ]

-- a bit at a position over 63
pub far_bit : (key bit : ℕ) → key < 2 ^ 64 → 64 ≤ bit → bit_of key bit ≡ 0
far_bit key bit small far =
    let nothing : key / 2 ^ 64 ≡ 0 = omega (arith, small) in
    let none : key / 2 ^ bit ≡ 0 = agree_up 64 bit key 0 far nothing ∙ shr_zero bit in
    ap (λ x. x % 2) none
  where
    shr_zero : (k : ℕ) → 0 / 2 ^ k ≡ 0
    shr_zero k = omega (arith, div-mul-le_self 0 (2 ^ k), shr_le 0 k)
