-- What is written of a number is read back as that number.
use Rattle.std.proofs.Common.{ℕ, zero, suc, ◌≡◌, ◌-◌, ◌^◌, ◌<◌, ◌≤◌, ◌∙◌, true, List, ◌++◌, length, Some, refl, arith}
use Rattle.std.specs.Prelude.{decimal, replicate}
use Rattle.std.specs.List.{list_all}
use Rattle.std.specs.Char.{is_ascii_digit}
use Rattle.std.specs.Str.Parse.{digits_value}
use Rattle.std.proofs.lemmas.Bool.Decides.{nat_tests}
use Rattle.std.proofs.lemmas.Grind.{common_steps}
use Rattle.std.proofs.lemmas.Fmt.{digits_decimal, digits_value-decimal, decimal_nonempty, length-decimal-le}
use Rattle.std.proofs.lemmas.List.{length-append, length-replicate}
use Rattle.tatp_text.specs.Number.{number_in, phone_in, phone_text}
use Rattle.tatp_text.proofs.Digits.{numerals}

pub list_all-decimal : (n : ℕ) → n < 2 ^ 64 → list_all is_ascii_digit (decimal n) ≡ true
list_all-decimal n fits = digits_decimal numerals n fits

-- a number of at most `most` digits, within the limits
pub number_in-decimal : (most least greatest n : ℕ) → 0 < most → n < 10 ^ most → n < 2 ^ 64 → least ≤ n → n ≤ greatest → number_in most least greatest (decimal n) ≡ Some n
number_in-decimal most least greatest n some short fits low high =
    let value : digits_value 10 (decimal n) ≡ n = digits_value-decimal numerals n fits in
    grind (arith, common_steps, nat_tests, value, list_all-decimal n fits, decimal_nonempty n fits, length-decimal-le most n some short fits)

-- zeros before digits
list_all-zeros : (k : ℕ) (ds : List ℕ) → list_all is_ascii_digit ds ≡ true → list_all is_ascii_digit (replicate k 48 ++ ds) ≡ true
list_all-zeros zero ds digits = digits
list_all-zeros (suc k) ds digits = list_all-zeros k ds digits

digits_value-zeros : (k : ℕ) (ds : List ℕ) → digits_value 10 (replicate k 48 ++ ds) ≡ digits_value 10 ds
digits_value-zeros zero ds = refl
digits_value-zeros (suc k) ds = digits_value-zeros k ds

pub length-phone_text : (n : ℕ) → n < 10 ^ 15 → length (phone_text n) ≡ 15
length-phone_text n short =
    let few : length (decimal n) ≤ 15 = length-decimal-le 15 n (omega arith) short (omega arith) in
    length-append (replicate (15 - length (decimal n)) 48) (decimal n)
    ∙ omega (arith, few, length-replicate {A = ℕ} (15 - length (decimal n)) 48)

pub list_all-phone_text : (n : ℕ) → n < 2 ^ 64 → list_all is_ascii_digit (phone_text n) ≡ true
list_all-phone_text n fits = list_all-zeros (15 - length (decimal n)) (decimal n) (list_all-decimal n fits)

pub phone_in-phone_text : (n : ℕ) → n < 10 ^ 15 → phone_in (phone_text n) ≡ Some n
phone_in-phone_text n short =
    let fits : n < 2 ^ 64 = omega arith in
    let value : digits_value 10 (phone_text n) ≡ n =
    digits_value-zeros (15 - length (decimal n)) (decimal n) ∙ digits_value-decimal numerals n fits in
    rw (list_all-phone_text n fits, length-phone_text n short, value) refl
