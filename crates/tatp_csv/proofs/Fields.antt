-- The fields of a record, by their places.
use Rattle.std.proofs.Common.{ℕ, zero, suc, ◌≡◌, List, [], ◌∷◌, length, drop, arith, get_or, Option, Some, None, Bor, refl}
use Rattle.std.specs.Prelude.{unwrap_or, option_map}
use Rattle.csv.specs.Records.{field_at}

-- the field at a place, or none of its bytes
pub field_at-get : (fields : List (List ℕ)) (i : ℕ) → unwrap_or (field_at fields i) [] ≡ get_or fields i []
unfolding field_at
field_at-get [] i = refl
field_at-get (f ∷ fs) zero = refl
field_at-get (f ∷ fs) (suc i) = field_at-get fs i

pub now-unwrap_or : (o : Option (Bor (List ℕ))) (d : Bor (List ℕ)) → (unwrap_or o d).now ≡ unwrap_or (option_map (λ s. s.now) o) d.now
now-unwrap_or None d = refl
now-unwrap_or (Some s) d = refl

-- the fields behind the name, of a record of five or six fields
pub fields_five : (xs : List (List ℕ)) → length xs ≡ 5 → drop 1 xs ≡ get_or xs 1 [] ∷ get_or xs 2 [] ∷ get_or xs 3 [] ∷ get_or xs 4 [] ∷ []
fields_five [] h = absurd (omega arith)
fields_five (a ∷ []) h = absurd (omega arith)
fields_five (a ∷ b ∷ []) h = absurd (omega arith)
fields_five (a ∷ b ∷ c ∷ []) h = absurd (omega arith)
fields_five (a ∷ b ∷ c ∷ d ∷ []) h = absurd (omega arith)
fields_five (a ∷ b ∷ c ∷ d ∷ e ∷ []) h = refl
fields_five (a ∷ b ∷ c ∷ d ∷ e ∷ f ∷ more) h = absurd (omega arith)

pub fields_six : (xs : List (List ℕ)) → length xs ≡ 6 → drop 1 xs ≡ get_or xs 1 [] ∷ get_or xs 2 [] ∷ get_or xs 3 [] ∷ get_or xs 4 [] ∷ get_or xs 5 [] ∷ []
fields_six [] h = absurd (omega arith)
fields_six (a ∷ []) h = absurd (omega arith)
fields_six (a ∷ b ∷ []) h = absurd (omega arith)
fields_six (a ∷ b ∷ c ∷ []) h = absurd (omega arith)
fields_six (a ∷ b ∷ c ∷ d ∷ []) h = absurd (omega arith)
fields_six (a ∷ b ∷ c ∷ d ∷ e ∷ []) h = absurd (omega arith)
fields_six (a ∷ b ∷ c ∷ d ∷ e ∷ f ∷ []) h = refl
fields_six (a ∷ b ∷ c ∷ d ∷ e ∷ f ∷ g ∷ more) h = absurd (omega arith)
