-- Numbers written in decimal digits.
use Rattle.std.specs.Prelude.{ℕ, ◌^◌, ◌-◌, Bool, ◌&&◌, ◌==◌, nat_lt, nat_le, Option, Some, None, if◌then◌else◌, List, ◌++◌, length, replicate, decimal}
use Rattle.std.specs.List.{list_all}
use Rattle.std.specs.Char.{is_ascii_digit}
use Rattle.std.specs.Str.Parse.{digits_value}

-- the value of decimal digits that fits 64 bits
abbrev pub value_in : List ℕ → Option ℕ
value_in text =
    if list_all is_ascii_digit text && nat_lt (digits_value 10 text) (2 ^ 64) then Some (digits_value 10 text) else None

-- one to `most` decimal digits
abbrev pub is_decimal : ℕ → List ℕ → Bool
is_decimal most text = list_all is_ascii_digit text && nat_le 1 (length text) && nat_le (length text) most

-- the number from `least` to `greatest` that one to `most` decimal digits say
abbrev pub number_in : ℕ → ℕ → ℕ → List ℕ → Option ℕ
number_in most least greatest text =
    let number = digits_value 10 text in
    if is_decimal most text && nat_le least number && nat_le number greatest then Some number else None

-- the phone number that fifteen decimal digits say
abbrev pub phone_in : List ℕ → Option ℕ
phone_in text = if list_all is_ascii_digit text && (length text == 15) then Some (digits_value 10 text) else None

-- a phone number, with zeros before it where it has fewer than fifteen digits
abbrev pub phone_text : ℕ → List ℕ
phone_text number = replicate (15 - length (decimal number)) 48 ++ decimal number
