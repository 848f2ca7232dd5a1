-- A line of bytes, with a number and a text.
use Rattle.std.specs.Prelude.{ℕ, ◌≡◌, ◌≤◌, ◌<◌, ◌+◌, ◌-◌, List, [], ◌∷◌, ◌++◌, length, take, drop, decimal}
use Rattle.dude_base.specs.declared.limits.TheConstants.{MAX_NUMBER}
use Rattle.dude_audit.specs.declared.line.Line.{Line}
use Rattle.dude_audit.specs.Bytes.{HasNo}

-- a line: a number, a space, a text and LF
abbrev pub line_bytes : ℕ → List ℕ → List ℕ
line_bytes number text = decimal number ++ 32 ∷ text ++ 10 ∷ []

-- the bytes begin with this line
pub record BeginsWithLine (bytes : List ℕ) (line : Line) : Type 0 where
  pub small : line.number ≤ MAX_NUMBER
  pub rises : line.from ≤ line.to
  pub within : line.to < length bytes
  pub whole : HasNo 10 (take (line.to - line.from) (drop line.from bytes))
  pub is : bytes ≡ line_bytes line.number (take (line.to - line.from) (drop line.from bytes)) ++ drop (line.to + 1) bytes

-- the bytes begin with no line
abbrev pub BeginsWithNoLine : List ℕ → Type 0
BeginsWithNoLine bytes = (n : ℕ) (text more : List ℕ) → n ≤ MAX_NUMBER → HasNo 10 text → bytes ≡ line_bytes n text ++ more → ⊥
