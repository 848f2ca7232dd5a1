-- Bytes up to one.
use Rattle.std.specs.Prelude.{ℕ, ◌≡◌, ◌<◌, ◌+◌, List, ◌∷◌, ◌++◌, length, take, drop, All}

-- the byte isn't among these
abbrev pub HasNo : ℕ → List ℕ → Type 0
HasNo byte bytes = All (λ b. b ≡ byte → ⊥) bytes

-- the byte stands at i, and not before
pub record IsFirstAt (byte : ℕ) (bytes : List ℕ) (i : ℕ) : Type 0 where
  pub within : i < length bytes
  pub splits : bytes ≡ take i bytes ++ byte ∷ drop (i + 1) bytes
  pub before : HasNo byte (take i bytes)
