-- The first of some words, which names the command.
use Rattle.std.proofs.Common.{ℕ, ◌≡◌, ◌<◌, ◌∙◌, List, [], ◌∷◌, length, get_or, map, drop, sym, ap, arith}
use Rattle.command_edges.specs.Command.{meaning_of}

-- words mean what they mean by their first one and those behind it
pub first-named : {X : Type 0} (f : X → List ℕ) (xs : List X) (x : X) (name : List ℕ)
    → 0 < length xs → x ≡ get_or xs 0 x → f x ≡ name → meaning_of (name ∷ drop 1 (map f xs)) ≡ meaning_of (map f xs)
first-named f [] x name some first is = absurd (omega arith)
first-named f (y ∷ xs) x name some first is = ap (λ text. meaning_of (text ∷ map f xs)) (sym is ∙ ap f first)
