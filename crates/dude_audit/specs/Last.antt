-- The last line of a printed run.
use Rattle.std.specs.Prelude.{ℕ, ◌≡◌, ◌≤◌, List, ◌++◌, length, drop}
use Rattle.dude_base.specs.declared.limits.TheConstants.{MAX_NUMBER}
use Rattle.tatp_text.specs.Output.{last_line}
use Rattle.dude_audit.specs.declared.last.Last.{Last}

-- the bytes begin with this last line
pub record BeginsWithLast (bytes : List ℕ) (last : Last) : Type 0 where
  pub small : last.number ≤ MAX_NUMBER
  pub within : last.next ≤ length bytes
  pub is : bytes ≡ last_line last.number ++ drop last.next bytes

-- the bytes begin with no last line
abbrev pub BeginsWithNoLast : List ℕ → Type 0
BeginsWithNoLast bytes = (n : ℕ) (more : List ℕ) → n ≤ MAX_NUMBER → bytes ≡ last_line n ++ more → ⊥
