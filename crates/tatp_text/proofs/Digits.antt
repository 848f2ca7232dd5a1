-- Lemmas on the value of decimal digits.
use Rattle.std.proofs.Common.{ℕ, ◌≡◌, ◌+◌, ◌*◌, ◌-◌, ◌^◌, ◌<◌, ◌≤◌, true, List, length, take, get_or, Some, None, ap, ◌∙◌, arith, rules}
use Rattle.std.specs.List.{list_all}
use Rattle.std.specs.Char.{is_ascii_digit, digit_value}
use Rattle.std.specs.Str.Parse.{digits_value}
use Rattle.std.proofs.lemmas.Bool.Decides.{nat_tests}
use Rattle.std.proofs.lemmas.Grind.{common_steps}
use Rattle.std.proofs.lemmas.Str.Parse.{IsNumeralModel, IsDigitsTest, numerals_by_value, digits_value_short, digits_value-take-le}
use Rattle.std.proofs.lemmas.Int.Digits.{digits_value_more}
use Rattle.std.proofs.lemmas.List.Folds.{list_all_more}
use Rattle.tatp_text.specs.Number.{value_in}

abbrev pub IsDigits : List ℕ → Type 0
IsDigits text = list_all is_ascii_digit text ≡ true

tells_digits : IsDigitsTest IsDigits
tells_digits = search rules

pub numerals : IsNumeralModel IsDigits (digits_value 10)
numerals = numerals_by_value _ tells_digits

-- a text of few digits has a small value
pub digits_value-lt_power : (text : List ℕ) (most : ℕ) → list_all is_ascii_digit text ≡ true → length text ≤ most → digits_value 10 text < 10 ^ most
digits_value-lt_power text most digits short = digits_value_short numerals text most digits short

pub value_in_fits : (text : List ℕ) → list_all is_ascii_digit text ≡ true → digits_value 10 text < 2 ^ 64 → value_in text ≡ Some (digits_value 10 text)
value_in_fits text digits fits = grind (arith, common_steps, nat_tests)

-- a prefix whose value doesn't fit
pub value_in_past : (text : List ℕ) (i : ℕ) → 2 ^ 64 ≤ digits_value 10 (take i text) → value_in text ≡ None
value_in_past text i past =
    let all : 2 ^ 64 ≤ digits_value 10 text = omega (arith, digits_value-take-le 10 text i (omega arith)) in
    grind (arith, common_steps, nat_tests)

-- one digit more
pub digits_value-take_more : (text : List ℕ) (i : ℕ) → i < length text → is_ascii_digit (get_or text i 0) ≡ true → digits_value 10 (take (i + 1) text) ≡ digits_value 10 (take i text) * 10 + (get_or text i 0 - 48)
digits_value-take_more text i at digit =
    let value : digit_value (get_or text i 0) ≡ get_or text i 0 - 48 = grind (arith, common_steps, nat_tests) in
    digits_value_more 10 text i at ∙ ap (λ d. digits_value 10 (take i text) * 10 + d) value

-- one digit more makes a value that doesn't fit
pub value_in_past_more : (text : List ℕ) (i : ℕ) → i < length text → is_ascii_digit (get_or text i 0) ≡ true → 2 ^ 64 ≤ digits_value 10 (take i text) * 10 + (get_or text i 0 - 48) → value_in text ≡ None
value_in_past_more text i at digit past = value_in_past text (i + 1) (let more = digits_value-take_more text i at digit in omega arith)

pub list_all-take_more : (text : List ℕ) (i : ℕ) → i < length text → list_all is_ascii_digit (take i text) ≡ true → is_ascii_digit (get_or text i 0) ≡ true → list_all is_ascii_digit (take (i + 1) text) ≡ true
list_all-take_more text i at before digit = rw (list_all_more is_ascii_digit text i 0 at, before) digit
