-- Letters in the bytes of a word.
use Rattle.std.proofs.Common.{zero, ◌≡◌, ◌⊎◌, inl, inr, ℕ, suc, ◌/◌, ◌%◌, ◌^◌, ◌<◌, ◌≤◌, List, [], ◌∷◌, length, Bool, true, false, ◌&&◌, eqb, ltb, get_or, refl, sym, ap, ap₂, ◌∙◌, arith, eq-eqb, All, subst}
use Rattle.std.proofs.Math.Bool.{and-false}
use Rattle.std.proofs.Math.Nat.{one-le-pow, div-eq_of_lt, div-lt_iff_lt-mul}
use Rattle.std.proofs.lemmas.Bool.{eqb-true, false≢true, lt-ltb, ltb-true, ltb_from_iff}
use Rattle.std.proofs.lemmas.Bool.Decides.{nat_tests}
use Rattle.std.proofs.lemmas.List.FromFn.{get_or-map-range_with_len, length-map-range_with_len}
use Rattle.std.proofs.lemmas.List.Folds.{list_all_at}
use Rattle.std.specs.List.{list_all}
use Rattle.tatp_layout.specs.Digits.{from_digits, to_digits}
use Rattle.tatp_layout.specs.DigitLists.{digits_below, digits_from}
use Rattle.tatp_check.specs.Tests.{is_letter, are_letters}

list_all_from : (p : ℕ → Bool) (xs : List ℕ) → ((k : ℕ) → k < length xs → p (get_or xs k 0) ≡ true) → list_all p xs ≡ true
list_all_from p [] each = refl
list_all_from p (x ∷ xs) each = ap₂ (λ a b. a && b) (each 0 (omega arith)) (list_all_from p xs (λ k below. each (suc k) (omega arith)))

-- nothing is left where the word is small
left_test : (word p : ℕ) → 0 < p → eqb (word / p) 0 ≡ ltb word p
left_test word p some = ltb_from_iff (
  (λ is. omega (arith, (div-lt_iff_lt-mul {k = p} {x = word} {y = 1} some).0 (let zero_left = eqb-true (word / p) 0 is in omega arith))),
  (λ less. eq-eqb (word / p) 0 (div-eq_of_lt less)),
)

module _ (count word : ℕ) where
  byte_at : (k : ℕ) → k < count → get_or (to_digits 256 count word) k 0 ≡ word / 256 ^ k % 256
  byte_at k below = get_or-map-range_with_len (λ i. word / 256 ^ i % 256) 0 count k k 0 below (omega arith)

  long : length (to_digits 256 count word) ≡ count
  long = length-map-range_with_len (λ i. word / 256 ^ i % 256) 0 count

  -- a byte that is no letter
  pub not_letters : (k : ℕ) → k < count → is_letter (word / 256 ^ k % 256) ≡ false → false ≡ are_letters count word
  not_letters k below not =
      sym (ap (λ b. ltb word (256 ^ count) && b) (list_all_at is_letter (to_digits 256 count word) k 0 (omega (arith, long, below)) (ap is_letter (byte_at k below) ∙ not)) ∙ and-false (ltb word (256 ^ count)))

  -- all bytes are letters
  pub all_letters : (left : ℕ) → left ≡ word / 256 ^ count → ((k : ℕ) → k < count → is_letter (word / 256 ^ k % 256) ≡ true) → eqb left 0 ≡ are_letters count word
  all_letters left is each =
      ap (λ n. eqb n 0) is ∙ left_test word (256 ^ count) (one-le-pow count 256 (omega arith))
      ∙ sym (ap (λ b. ltb word (256 ^ count) && b) (list_all_from is_letter (to_digits 256 count word) (λ k below. ap is_letter (byte_at k (omega (arith, long, below))) ∙ each k (omega (arith, long, below)))) ∙ and_true (ltb word (256 ^ count)))
    where
      and_true : (b : Bool) → (b && true) ≡ b
      and_true true = refl
      and_true false = refl

pub is_letter-true : (byte : ℕ) → 65 ≤ byte → byte ≤ 90 → is_letter byte ≡ true
is_letter-true byte low high = grind (arith, nat_tests)

pub is_letter-false : (byte : ℕ) → (byte < 65) ⊎ ((65 ≤ byte) × (90 < byte)) → is_letter byte ≡ false
is_letter-false byte (inl low) = grind (arith, nat_tests)
is_letter-false byte (inr high) = grind (arith, nat_tests)

pub letter_range : (byte : ℕ) → is_letter byte ≡ true → (65 ≤ byte) × (byte ≤ 90)
letter_range byte is = (grind (arith, nat_tests), grind (arith, nat_tests))

-- ---- what the test tells

left_true : (a b : Bool) → (a && b) ≡ true → a ≡ true
left_true true b is = refl
left_true false b is = is

right_true : (a b : Bool) → (a && b) ≡ true → b ≡ true
right_true true b is = is
right_true false b is = absurd (false≢true is)

all_of : (p : ℕ → Bool) (xs : List ℕ) → list_all p xs ≡ true → (k d : ℕ) → k < length xs → p (get_or xs k d) ≡ true
all_of p [] is k d below = absurd (omega (arith, below))
all_of p (x ∷ xs) is zero d below = left_true (p x) (list_all p xs) is
all_of p (x ∷ xs) is (suc k) d below = all_of p xs (right_true (p x) (list_all p xs) is) k d (omega (arith, below))

pub letters_small : (count word : ℕ) → are_letters count word ≡ true → word < 256 ^ count
letters_small count word is = ltb-true word (256 ^ count) (left_true (ltb word (256 ^ count)) (list_all is_letter (to_digits 256 count word)) is)

pub letters_all : (count word : ℕ) → are_letters count word ≡ true → All (λ d. (65 ≤ d) × (d ≤ 90)) (to_digits 256 count word)
letters_all count word is k d below =
    letter_range (get_or (to_digits 256 count word) k d) (all_of is_letter (to_digits 256 count word) (right_true (ltb word (256 ^ count)) (list_all is_letter (to_digits 256 count word)) is) k d below)

pub letters_from : (count word : ℕ) → word < 256 ^ count → All (λ d. (65 ≤ d) × (d ≤ 90)) (to_digits 256 count word) → are_letters count word ≡ true
letters_from count word small all =
    ap₂ (λ a b. a && b) (lt-ltb word (256 ^ count) small) (list_all_from is_letter (to_digits 256 count word) (λ k below. is_letter-true (get_or (to_digits 256 count word) k 0) (all k 0 below).0 (all k 0 below).1))

-- letters make a word that passes
pub letters_made : (count word : ℕ) (letters : List ℕ) → length letters ≡ count → All (λ d. (65 ≤ d) × (d ≤ 90)) letters → word ≡ from_digits 256 letters → are_letters count word ≡ true
letters_made count word letters long all is =
    let bytes : All (λ d. d < 256) letters = λ k d below. omega (arith, (all k d below).1) in
    let few : from_digits 256 letters < 256 ^ count = digits_below letters count long bytes in
    let digits : to_digits 256 count word ≡ letters = digits_from 256 count word 0 (omega arith) long bytes (omega (arith, is)) in
    letters_from count word (subst (λ n. n < 256 ^ count) (sym is) few) (subst (All (λ d. (65 ≤ d) × (d ≤ 90))) (sym digits) all)
