-- One phone number more at the end of at most three.
use Rattle.std.proofs.Common.{◌≡◌, ℕ, ◌+◌, ◌<◌, List, [], ◌∷◌, ◌++◌, length, refl, set, arith}
use Rattle.tatp_model.specs.declared.numbers.Numbers.{Numbers}
use Rattle.tatp_model.specs.Numbers.{numbers_of}

-- the value with a phone number written at the first free item
abbrev pub pushed : Numbers → ℕ → Numbers
pushed n phone = record { count = n.count + 1; items = set n.items n.count phone }

pub numbers_of-push : (xs : List ℕ) (phone : ℕ) → length xs < 3 → pushed (numbers_of xs) phone ≡ numbers_of (xs ++ phone ∷ [])
numbers_of-push [] phone room = refl
numbers_of-push (x ∷ []) phone room = refl
numbers_of-push (x ∷ y ∷ []) phone room = refl
numbers_of-push (x ∷ y ∷ z ∷ xs) phone room = absurd (omega arith)
