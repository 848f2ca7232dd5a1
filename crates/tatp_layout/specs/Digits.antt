-- Several numbers packed into one word.
use Rattle.std.specs.Prelude.{ℕ, ◌+◌, ◌*◌, ◌/◌, ◌%◌, ◌^◌, List, [], ◌∷◌, map}
use Rattle.std.specs.List.{range_with_len}

-- a number from its digits in a base, the lowest first
abbrev pub from_digits : ℕ → List ℕ → ℕ
from_digits base [] = 0
from_digits base (digit ∷ digits) = digit + base * from_digits base digits

-- so many digits of a number in a base, the lowest first
abbrev pub to_digits : ℕ → ℕ → ℕ → List ℕ
to_digits base count number = map (λ i. number / base ^ i % base) (range_with_len 0 count)
