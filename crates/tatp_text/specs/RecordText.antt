-- The text of a record.
use Rattle.std.specs.Prelude.{ℕ, List, [], ◌∷◌, ◌++◌}
use Rattle.std.specs.List.{join_with_byte}

-- a record: its fields with commas between, and LF
abbrev pub record_text : List (List ℕ) → List ℕ
record_text fields = join_with_byte 44 fields ++ 10 ∷ []
