-- Rows in range, word by word.
use Rattle.std.proofs.Common.{◌*◌, ◌≡◌, ℕ, zero, suc, ◌+◌, ◌/◌, ◌%◌, ◌^◌, ◌<◌, ◌≤◌, inl, inr, List, length, All, true, ltb, slice_index, refl, sym, ap, ◌∙◌, subst, arith}
use Rattle.std.proofs.Math.Nat.{mod-eq_of_lt}
use Rattle.std.proofs.lemmas.Bool.{cases_lt, lt-ltb}
use Rattle.std.proofs.lemmas.Bool.Decides.{nat_tests}
use Rattle.std.proofs.lemmas.List.{get_or_default, get_or_past}
use Rattle.std.proofs.lemmas.List.Elements.{All-from_get_or}
use Rattle.std.proofs.lemmas.List.FromFn.{get_or-map-range_with_len, length-map-range_with_len}
use Rattle.tatp_layout.specs.Digits.{from_digits, to_digits}
use Rattle.tatp_layout.specs.Records.{RowForm, HoldsRow}
use Rattle.tatp_layout.specs.Decoded.{held_word}
use Rattle.tatp_layout.specs.DigitLists.{digits_whole}
use Rattle.tatp_check.specs.Content.{MayHold}
use Rattle.tatp_check.specs.Tests.{is_id, is_kind_key}

-- the words of a row in range are such as a record may hold
pub may_hold : {R : Type 0} {form : RowForm R} {InRange : R → Type 0} {array : List ℕ} {at : ℕ} {row : R} → InRange row → HoldsRow form array at row → (offset : ℕ) → MayHold form InRange offset (slice_index array (at + offset))
may_hold {R} {form} {InRange} {array} {at} {row} range held zero = (row, range, held.lengths, sym held.key ∙ ap (slice_index array) (omega arith))
may_hold {R} {form} {InRange} {array} {at} {row} range held (suc zero) = (row, range, held.lengths, refl)
may_hold {R} {form} {InRange} {array} {at} {row} range held (suc (suc k)) = (
  row,
  range,
  held.lengths,
  elim (cases_lt k (length (form.words row))) [
    | inl inside ↦ get_or_default (form.words row) k (slice_index array (at + suc (suc k))) 0 inside ∙ sym (held_word k (at + suc (suc k)) held inside (omega arith))
    | inr past ↦ get_or_past (form.words row) k (slice_index array (at + suc (suc k))) past
  ],
)

-- behind a row's words there is any
pub may_past : {R : Type 0} (form : RowForm R) (InRange : R → Type 0) (row : R) → InRange row → form.Lengths row → (offset word : ℕ) → 2 + length (form.words row) ≤ offset → MayHold form InRange offset word
may_past form InRange row range lengths zero word behind = absurd (omega arith)
may_past form InRange row range lengths (suc zero) word behind = absurd (omega arith)
may_past form InRange row range lengths (suc (suc k)) word behind = (row, range, lengths, get_or_past (form.words row) k word (omega arith))

-- and any link
pub may_link : {R : Type 0} (form : RowForm R) (InRange : R → Type 0) (row : R) → InRange row → form.Lengths row → (word : ℕ) → MayHold form InRange 1 word
may_link form InRange row range lengths word = (row, range, lengths, refl)

-- ---- digits

pub long : (base count number : ℕ) → length (to_digits base count number) ≡ count
long base count number = length-map-range_with_len (λ i. number / base ^ i % base) 0 count

pub each_digit : (P : ℕ → Type 0) (base count number : ℕ) → ((n : ℕ) → P (n % base)) → All P (to_digits base count number)
each_digit P base count number holds = All-from_get_or P (to_digits base count number) 0 (λ k below.
    subst P (sym (get_or-map-range_with_len (λ i. number / base ^ i % base) 0 count k k 0 (omega (arith, below, long base count number)) (omega arith))) (holds (number / base ^ k)))

pub made : (base count number : ℕ) → 0 < base → number < base ^ count → from_digits base (to_digits base count number) ≡ number
made base count number some small = digits_whole base count number some ∙ mod-eq_of_lt small

-- ---- tests

-- at this offset
pub at_offset : (P : ℕ → Type 0) (offset other : ℕ) → offset ≡ other → P other → P offset
at_offset P offset other same h = subst P (sym same) h

pub small : (word most : ℕ) → word < most → ltb word most ≡ true
small word most less = lt-ltb word most less

pub is_id-true : (n : ℕ) → 1 ≤ n → n < 2 ^ 32 → is_id n ≡ true
is_id-true n low high = grind (arith, nat_tests)

pub id_range : (n : ℕ) → is_id n ≡ true → (1 ≤ n) × (n < 2 ^ 32)
id_range n is = (grind (arith, nat_tests), grind (arith, nat_tests))

-- ---- the key of one of a subscriber's four rows

pub kind_key_range : (key : ℕ) → is_kind_key key ≡ true → (4 ≤ key) × (key < 4 * 2 ^ 32)
kind_key_range key is = (grind (arith, nat_tests), grind (arith, nat_tests))

pub is_kind_key-true : (key : ℕ) → 4 ≤ key → key < 4 * 2 ^ 32 → is_kind_key key ≡ true
is_kind_key-true key low high = grind (arith, nat_tests)
