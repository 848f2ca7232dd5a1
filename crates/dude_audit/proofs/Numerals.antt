-- Numbers in decimal digits without zeros in front, and bytes up to a space.
use Rattle.std.proofs.Common.{ℕ, zero, suc, ◌≡◌, ◌+◌, ◌<◌, ◌≤◌, Bool, true, false, ◌&&◌, cond, List, [], ◌∷◌, ◌++◌, length, get_or, take, drop, Option, Some, None, refl, ap, ap₂, sym, ◌∙◌, subst, arith}
use Rattle.std.specs.Prelude.{decimal, nat_le, IfSome, IfNone}
use Rattle.std.specs.List.{list_all}
use Rattle.std.specs.Char.{is_ascii_digit}
use Rattle.std.specs.Str.Parse.{digits_value}
use Rattle.std.proofs.lemmas.Bool.{both_ways, and_parts}
use Rattle.std.proofs.lemmas.Bool.Decides.{nat_tests}
use Rattle.std.proofs.lemmas.Grind.{common_steps}
use Rattle.std.proofs.lemmas.Fmt.{decimal_digit, first_decimal, decimal-digits_value}
use Rattle.std.proofs.lemmas.List.Elements.{All-head, All-tail, All-nil, All-cons}
use Rattle.tatp_text.specs.Number.{number_in, is_decimal}
use Rattle.tatp_text.proofs.Digits.{numerals}
use Rattle.tatp_text.proofs.NumbersReadBack.{number_in-decimal, list_all-decimal}
use Rattle.dude_base.specs.declared.limits.TheConstants.{MAX_NUMBER}
use Rattle.dude_audit.specs.Bytes.{HasNo, IsFirstAt}

pub zero_first : (text : List ℕ) (n : ℕ) → n ≤ MAX_NUMBER → 1 < length text → get_or text 0 0 ≡ 48 → text ≡ decimal n → ⊥
zero_first text zero small long first is =
    let e : length text ≡ length (decimal 0) = ap length is in
    let d : length (decimal 0) ≡ 1 = ap length (decimal_digit 0 (omega arith)) in
    absurd (omega (arith, e, d, long))
zero_first text (suc n) small long first is =
    let over : 48 < get_or (decimal (suc n)) 0 0 = first_decimal (suc n) (omega arith) (omega (arith, small)) in
    let same : get_or text 0 0 ≡ get_or (decimal (suc n)) 0 0 = ap (λ l. get_or l 0 0) is in
    absurd (omega (arith, over, same, first))

some_cond : (b : Bool) (v n : ℕ) → cond b (Some v) None ≡ Some n → (b ≡ true) × (v ≡ n)
some_cond true v n e = (refl, cc)
some_cond false v n e = cc

number_parts : (text : List ℕ) (n : ℕ) → number_in 15 0 MAX_NUMBER text ≡ Some n → (list_all is_ascii_digit text ≡ true) × (1 ≤ length text) × (n ≤ MAX_NUMBER) × (digits_value 10 text ≡ n)
number_parts text n is =
    let parts = some_cond (is_decimal 15 text && nat_le 0 (digits_value 10 text) && nat_le (digits_value 10 text) MAX_NUMBER) (digits_value 10 text) n is in
    grind (arith, common_steps, nat_tests, parts)

pub numeral_said : (text : List ℕ) (n : ℕ) → (get_or text 0 0 ≡ 48 → length text ≤ 1) → number_in 15 0 MAX_NUMBER text ≡ Some n → (n ≤ MAX_NUMBER) × (text ≡ decimal n)
numeral_said text n plain is =
    let parts = number_parts text n is in
    let small : n ≤ MAX_NUMBER = parts.2 in
    let written : decimal (digits_value 10 text) ≡ text =
    decimal-digits_value numerals text parts.0 (omega (arith, parts.1)) (λ first. let few = plain first in omega (arith, few, parts.1)) (omega (arith, small, parts.3)) in
    (small, sym written ∙ ap decimal parts.3)

pub numeral_none : (text : List ℕ) → number_in 15 0 MAX_NUMBER text ≡ None → (n : ℕ) → n ≤ MAX_NUMBER → text ≡ decimal n → ⊥
numeral_none text none n small is =
    let read : number_in 15 0 MAX_NUMBER (decimal n) ≡ Some n = number_in-decimal 15 0 MAX_NUMBER n (omega arith) (omega (arith, small)) (omega (arith, small)) (omega arith) small in
    let same : Some n ≡ None = sym read ∙ ap (number_in 15 0 MAX_NUMBER) (sym is) ∙ none in
    cc

pub numeral_answer : (text : List ℕ) (r : Option ℕ) → (get_or text 0 0 ≡ 48 → length text ≤ 1) → r ≡ number_in 15 0 MAX_NUMBER text
    → IfSome r (λ n. (n ≤ MAX_NUMBER) × (text ≡ decimal n)) × IfNone r ((n : ℕ) → n ≤ MAX_NUMBER → text ≡ decimal n → ⊥)
numeral_answer text (Some n) plain is = (numeral_said text n plain (sym is), tt)
numeral_answer text None plain is = (tt, numeral_none text (sym is))

-- ---- two lists that a byte ends

pub one_split : (byte : ℕ) (xs us ys vs : List ℕ) → HasNo byte xs → HasNo byte us → xs ++ byte ∷ ys ≡ us ++ byte ∷ vs → (xs ≡ us) × (ys ≡ vs)
one_split byte [] [] ys vs nx nu is = (refl, cc)
one_split byte [] (u ∷ us) ys vs nx nu is = absurd (All-head (λ b. b ≡ byte → ⊥) u us nu (cc))
one_split byte (x ∷ xs) [] ys vs nx nu is = absurd (All-head (λ b. b ≡ byte → ⊥) x xs nx (cc))
one_split byte (x ∷ xs) (u ∷ us) ys vs nx nu is =
    let rest : xs ++ byte ∷ ys ≡ us ++ byte ∷ vs = cc in
    let first : x ≡ u = cc in
    let more = one_split byte xs us ys vs (All-tail (λ b. b ≡ byte → ⊥) x xs nx) (All-tail (λ b. b ≡ byte → ⊥) u us nu) rest in
    (ap₂ (λ z zs. z ∷ zs) first more.0, more.1)

pub not_a_digit : (byte : ℕ) (xs : List ℕ) → is_ascii_digit byte ≡ false → list_all is_ascii_digit xs ≡ true → HasNo byte xs
not_a_digit byte [] other digits = All-nil (λ b. b ≡ byte → ⊥)
not_a_digit byte (x ∷ xs) other digits =
    let parts = and_parts (is_ascii_digit x) (list_all is_ascii_digit xs) digits in
    All-cons (λ b. b ≡ byte → ⊥) x xs (λ same. both_ways (is_ascii_digit x) (ap is_ascii_digit same ∙ other) parts.0) (not_a_digit byte xs other parts.1)

pub decimal_no : (byte n : ℕ) → is_ascii_digit byte ≡ false → n ≤ MAX_NUMBER → HasNo byte (decimal n)
decimal_no byte n other small = not_a_digit byte (decimal n) other (list_all-decimal n (omega (arith, small)))

pub absent_not : (byte : ℕ) (xs ys : List ℕ) → HasNo byte (xs ++ byte ∷ ys) → ⊥
absent_not byte [] ys none = All-head (λ b. b ≡ byte → ⊥) byte ys none refl
absent_not byte (x ∷ xs) ys none = absent_not byte xs ys (All-tail (λ b. b ≡ byte → ⊥) x (xs ++ byte ∷ ys) none)

-- a line without a space has no number before one
pub no_space : (line : List ℕ) → HasNo 32 line → (n : ℕ) (text : List ℕ) → n ≤ MAX_NUMBER → line ≡ decimal n ++ 32 ∷ text → ⊥
no_space line none n text small is = absent_not 32 (decimal n) text (subst (HasNo 32) is none)

-- a line whose bytes up to its first space are no number
pub no_number : (line : List ℕ) (i : ℕ) → IsFirstAt 32 line i → ((n : ℕ) → n ≤ MAX_NUMBER → take i line ≡ decimal n → ⊥) → (n : ℕ) (text : List ℕ) → n ≤ MAX_NUMBER → line ≡ decimal n ++ 32 ∷ text → ⊥
no_number line i first none n text small is =
    let split = one_split 32 (take i line) (decimal n) (drop (i + 1) line) text first.before (decimal_no 32 n refl small) (sym first.splits ∙ is) in
    none n small split.0
