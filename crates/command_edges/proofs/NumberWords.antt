-- Words that are numbers.
use Rattle.std.proofs.Common.{ℕ, ◌≡◌, ◌<◌, ◌^◌, ◌∙◌, Bool, true, false, List, [], ◌∷◌, Option, Some, None, length, refl, arith}
use Rattle.std.specs.Prelude.{◌==◌, ◌&&◌, if◌then◌else◌, nat_le, nat_lt, Result, Ok, Err}
use Rattle.std.specs.List.{list_all}
use Rattle.std.specs.Char.{digit_value, is_ascii_digit}
use Rattle.std.specs.Str.Parse.{AllDigits, ParsesUnsigned, digits_value, without_leading_plus}
use Rattle.std.specs.Option.{option_and_then}
use Rattle.std.proofs.lemmas.Bool.{ltb-true, lt-ltb}
use Rattle.clap.specs.Matches.{ReadsOne}
use Rattle.std.proofs.lemmas.Bool.Decides.{nat_tests}
use Rattle.std.proofs.lemmas.Grind.{common_steps}
use Rattle.clap.specs.ValueTests.{accepts, is_numeral}
use Rattle.clap.specs.declared.builder.value_parser.ValueParser.TheVariants as vp
use Rattle.command_edges.specs.Command.{word_number}
use Rattle.command_edges.specs.Clap.{is_number, parsed_number}

pub both : (p q : Bool) → (p && q) ≡ true → (p ≡ true) × (q ≡ true)
both true q e = (refl, e)
both false q e = cc e

digit-value : (d : ℕ) → is_ascii_digit d ≡ true → nat_lt (digit_value d) 10 ≡ true
digit-value d h = grind (arith, common_steps, nat_tests)

digits-numeral : (ds : List ℕ) → list_all is_ascii_digit ds ≡ true → list_all (λ d. nat_lt (digit_value d) 10) ds ≡ true
digits-numeral [] h = refl
digits-numeral (d ∷ ds) h =
    let first : is_ascii_digit d ≡ true = grind (arith, common_steps) in
    let rest : list_all is_ascii_digit ds ≡ true = grind (arith, common_steps) in
    rw (digit-value d first, digits-numeral ds rest) refl

not-plus : (d : ℕ) → is_ascii_digit d ≡ true → (d == 43) ≡ false
not-plus d h = grind (arith, common_steps, nat_tests)

not-minus : (d : ℕ) → is_ascii_digit d ≡ true → (d == 45) ≡ false
not-minus d h = grind (arith, common_steps, nat_tests)

-- a number word doesn't begin with a sign
pub first-digit : (word : List ℕ) → is_number word ≡ true → (d : ℕ) × (ds : List ℕ) × (word ≡ d ∷ ds) × ((d == 45) ≡ false)
first-digit [] h = absurd (let no : false ≡ true = h in cc no)
first-digit (d ∷ ds) h =
    let first : is_ascii_digit d ≡ true = grind (arith, common_steps) in
    (d, ds, refl, not-minus d first)

no-plus : (word : List ℕ) → is_number word ≡ true → without_leading_plus word ≡ word
no-plus [] h = refl
no-plus (d ∷ ds) h =
    let first : is_ascii_digit d ≡ true = grind (arith, common_steps) in
    rw (not-plus d first) refl

range-cases : (low high n : ℕ) → high < 2 ^ 64
    → (if nat_le low n && nat_le n high then Some n else None)
    ≡ (if nat_lt n (2 ^ 64) && (nat_le low n && nat_le n high) then (if nat_lt n (2 ^ 64) then Some n else None) else None)
range-cases low high n fits = grind (arith, common_steps, nat_tests)

-- a number word passes where it is in the range, and reads as the number that it says
pub word_number-parsed : (low high : ℕ) (word : List ℕ) → high < 2 ^ 64 → is_number word ≡ true
    → word_number low high word ≡ (if accepts false (vp.Unsigned low high) word then parsed_number word else None)
word_number-parsed low high word fits form =
    let all : list_all is_ascii_digit word ≡ true = grind (arith, common_steps) in
    let numeral = digits-numeral word all in
    let some : nat_lt 0 (length word) ≡ true = grind (arith, common_steps, nat_tests) in
    rw (no-plus word form, form, numeral, some) (range-cases low high (digits_value 10 word) fits)

digits-from : (ds : List ℕ) → list_all (λ d. nat_lt (digit_value d) 10) ds ≡ true → AllDigits 10 ds
digits-from [] e = tt
digits-from (d ∷ ds) e =
    let parts = both _ _ e in
    (ltb-true _ _ parts.0, digits-from ds parts.1)

digits-back : (ds : List ℕ) → AllDigits 10 ds → list_all (λ d. nat_lt (digit_value d) 10) ds ≡ true
digits-back [] h = refl
digits-back (d ∷ ds) h = rw (lt-ltb (digit_value d) 10 h.0) (digits-back ds h.1)

-- a text that passes is a number
pub parsed_number-passes : (low high : ℕ) (word : List ℕ) → accepts false (vp.Unsigned low high) word ≡ true
    → parsed_number word ≡ Some (digits_value 10 (without_leading_plus word))
parsed_number-passes low high word passes =
    let digits = without_leading_plus word in
    let outer = both (is_numeral digits) _ passes in
    let inner = both (nat_lt (digits_value 10 digits) (2 ^ 64)) _ outer.1 in
    let some = both (nat_lt 0 (length digits)) _ outer.0 in
    rw (some.0, some.1, inner.0) refl

abbrev is_u64 : List ℕ → Bool
is_u64 ds = nat_lt 0 (length ds) && list_all (λ d. nat_lt (digit_value d) 10) ds && nat_lt (digits_value 10 ds) (2 ^ 64)

-- what `parse` reads is the number that the text says
parsed-ok : {E : Type 0} (text : List ℕ) (r : Result ℕ E) (o : Option ℕ) → ParsesUnsigned 64 10 text r → ((n : ℕ) → r ≡ Ok n → o ≡ Some n) → ((e : E) → r ≡ Err e → o ≡ None) → o ≡ parsed_number text
parsed-ok text (Ok n) o h some none =
    let ds = without_leading_plus text in
    some n refl ∙ rw (lt-ltb 0 (length ds) h.0.0.0, digits-back ds h.0.0.1, lt-ltb (digits_value 10 ds) (2 ^ 64) h.0.1, h.1) refl
parsed-ok text (Err e) o h some none = none e refl ∙ go (is_u64 (without_leading_plus text)) refl
  where
    go : (b : Bool) → is_u64 (without_leading_plus text) ≡ b → None ≡ parsed_number text
    go false t = rw t refl
    go true t =
        let outer = both _ _ t in
        let inner = both _ _ outer.0 in
        absurd (h ((ltb-true _ _ inner.0, digits-from (without_leading_plus text) inner.1), ltb-true _ _ outer.1))

ok-same : {E : Type 0} (n m : ℕ) → ◌≡◌ {A = Result ℕ E} (Ok n) (Ok m) → ◌≡◌ {A = Option ℕ} (Some n) (Some m)
ok-same n m e = cc

ok-err : {E : Type 0} (n : ℕ) (x : E) → ◌≡◌ {A = Result ℕ E} (Ok n) (Err x) → ◌≡◌ {A = Option ℕ} (Some n) None
ok-err n x e = cc

err-ok : {E : Type 0} (n : ℕ) (x : E) → ◌≡◌ {A = Result ℕ E} (Err x) (Ok n) → ◌≡◌ {A = Option ℕ} None (Some n)
err-ok n x e = cc

-- what a getter of a `u64` reads
pub number-read : {E : Type 0} (G : List ℕ → Result ℕ E → Type 0) (t : Option (List ℕ)) (r : Option ℕ)
    → ((text : List ℕ) (x : Result ℕ E) → G text x → ParsesUnsigned 64 10 text x)
    → (t ≡ None → r ≡ None) → ((text : List ℕ) → t ≡ Some text → ReadsOne G text r)
    → r ≡ option_and_then parsed_number t
number-read G None r only none value = none refl
number-read {E} G (Some text) (Some n) only none value =
    parsed-ok {E = E} text (Ok n) (Some n) (only text (Ok n) (value text refl)) (λ m e. ok-same n m e) (λ x e. ok-err n x e)
number-read {E} G (Some text) None only none value =
    let h = value text refl in
    parsed-ok {E = E} text (Err h.0) None (only text (Err h.0) h.1) (λ m e. err-ok m h.0 e) (λ x e. refl)
