-- Which numbers a call told, and the durable number behind it.
use Rattle.std.specs.Prelude.{◌≡◌, ◌⊎◌, ℕ, ◌≤◌, Bool, true, List, [], ◌∷◌, ◌++◌, length, All}

-- Numbers were told, the new durable one last, or none was and the durable number is as it was. The call that failed may have
-- told one more, which is no less than the durable number.
abbrev pub WereTold : Bool → ℕ → ℕ → List ℕ → List ℕ → Type 0
WereTold ok durable new_durable told new_told =
    (more : List ℕ) × (ok ≡ true → more ≡ []) × (length more ≤ 1) × All (λ n. new_durable ≤ n) more
    × (((new_told ≡ told ++ more) × (new_durable ≡ durable))
    ⊎ ((earlier : List ℕ) × (new_told ≡ told ++ earlier ++ new_durable ∷ more)))
