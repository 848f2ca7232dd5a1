-- A number's digits, and the number that digits make.
use Rattle.std.proofs.Common.{◌≡◌, ℕ, zero, suc, ◌+◌, ◌*◌, ◌/◌, ◌%◌, ◌^◌, ◌<◌, ◌≤◌, List, [], ◌∷◌, length, map, All, refl, sym, ap, ap₂, subst, ◌∙◌, arith, add-one}
use Rattle.std.proofs.Math.Nat.{pow-suc, pow-succ', pow-zero, one-le-pow, div-div-eq-div-mul, div-one, mod-one, div-eq_of_lt, mod-eq_of_lt, add-mul-div_left, add-mul-mod_self_left, mul-le-mul_left}
use Rattle.std.proofs.Math.Arith.{mod-mul}
use Rattle.std.proofs.lemmas.List.Elements.{recursion_from_All}
use Rattle.std.proofs.lemmas.List.FromFn.{fill_by_all, get_or-map-range_with_len, length-map-range_with_len}
use Rattle.std.specs.List.{AllByRecursion, range_with_len}
use Rattle.tatp_layout.specs.Digits.{from_digits, to_digits}

-- one digit further
pub shifted_more : (base number k : ℕ) → number / base ^ k / base ≡ number / base ^ (k + 1)
shifted_more base number k = div-div-eq-div-mul number (base ^ k) base ∙ ap (λ p. number / p) (sym (pow-suc base k) ∙ ap (λ j. base ^ j) (sym (add-one k)))

-- one digit fewer in front
shifted_front : (base number k : ℕ) → number / base ^ (1 + k) ≡ number / base / base ^ k
shifted_front base number k =
    let next : 1 + k ≡ suc k = omega arith in
    ap (λ p. number / p) (ap (λ j. base ^ j) next ∙ pow-succ' base k) ∙ sym (div-div-eq-div-mul number base (base ^ k))

-- the lowest digit, and the others
pub digits_front : (base count number : ℕ) → to_digits base (suc count) number ≡ (number % base) ∷ to_digits base count (number / base)
digits_front base count number =
    let others : map (λ i. number / base ^ i % base) (range_with_len 1 count) ≡ to_digits base count (number / base) =
    fill_by_all (λ i. number / base / base ^ i % base) (map (λ i. number / base ^ i % base) (range_with_len 1 count)) count 0 (length-map-range_with_len (λ i. number / base ^ i % base) 1 count)
    (λ k below. get_or-map-range_with_len (λ i. number / base ^ i % base) 1 count k (1 + k) 0 below refl ∙ ap (λ n. n % base) (shifted_front base number k)) in
    ap₂ (λ d (ds : List ℕ). d ∷ ds) (ap (λ p. number / p % base) (pow-zero base) ∙ ap (λ n. n % base) (div-one number)) others

-- a number made of digits, with more behind them, has these digits
pub digits_back : (base : ℕ) (digits : List ℕ) (more : ℕ) → 0 < base → AllByRecursion (λ d. d < base) digits → to_digits base (length digits) (from_digits base digits + base ^ length digits * more) ≡ digits
digits_back base [] more some below = refl
digits_back base (d ∷ digits) more some below =
    let rest = from_digits base digits + base ^ length digits * more in
    let number : from_digits base (d ∷ digits) + base ^ length (d ∷ digits) * more ≡ d + base * rest =
    ap (λ p. d + base * from_digits base digits + p * more) (pow-suc base (length digits)) ∙ omega arith in
    let first : (d + base * rest) % base ≡ d = add-mul-mod_self_left d base rest ∙ mod-eq_of_lt below.0 in
    let others : (d + base * rest) / base ≡ rest = add-mul-div_left d rest some ∙ ap (λ q. q + rest) (div-eq_of_lt below.0) ∙ omega arith in
    ap (to_digits base (suc (length digits))) number ∙ digits_front base (length digits) (d + base * rest)
    ∙ ap₂ (λ x (xs : List ℕ). x ∷ xs) first (ap (to_digits base (length digits)) others ∙ digits_back base digits more some below.1)

-- and it is small
pub digits_small : (base : ℕ) (digits : List ℕ) → AllByRecursion (λ d. d < base) digits → from_digits base digits < base ^ length digits
digits_small base [] below = omega (arith, pow-zero base)
digits_small base (d ∷ digits) below =
    let step : base * (from_digits base digits + 1) ≤ base * base ^ length digits = mul-le-mul_left base (omega (arith, digits_small base digits below.1)) in
    omega (arith, pow-suc base (length digits), step, below.0)

-- the digits of a number make what they tell of it
pub digits_whole : (base count number : ℕ) → 0 < base → from_digits base (to_digits base count number) ≡ number % base ^ count
digits_whole base zero number some = sym (ap (λ p. number % p) (pow-zero base) ∙ mod-one number)
digits_whole base (suc count) number some =
    ap (from_digits base) (digits_front base count number)
    ∙ ap (λ n. number % base + base * n) (digits_whole base count (number / base) some)
    ∙ sym (ap (λ p. number % p) (pow-suc base count) ∙ mod-mul number (one-le-pow count base some) some ∙ omega arith)

-- the lowest digits of a number that is made of them, and of more
pub digits_from : (base : ℕ) {digits : List ℕ} (count number more : ℕ) → 0 < base → length digits ≡ count → All (λ d. d < base) digits → number ≡ from_digits base digits + base ^ count * more → to_digits base count number ≡ digits
digits_from base {digits} count number more some long below is =
    ap₂ (to_digits base) (sym long) (is ∙ ap (λ n. from_digits base digits + base ^ n * more) (sym long))
    ∙ digits_back base digits more some (recursion_from_All (λ d. d < base) digits below)

-- digits in a base make a number below its power
pub digits_below : {base : ℕ} (digits : List ℕ) (count : ℕ) → length digits ≡ count → All (λ d. d < base) digits → from_digits base digits < base ^ count
digits_below {base} digits count long below =
    subst (λ n. from_digits base digits < base ^ n) long (digits_small base digits (recursion_from_All (λ d. d < base) digits below))
