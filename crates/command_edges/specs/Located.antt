-- What `locate` prints.
use Rattle.std.specs.Prelude.{ℕ, List, [], ◌∷◌, ◌++◌, decimal}
use Rattle.std.specs.List.{flat_map}
use Rattle.tatp_text.specs.Output.{last_line}

-- the line of a subscriber that was found: its number and its location
abbrev pub located_line : ℕ × ℕ → List ℕ
located_line found = decimal found.0 ++ 32 ∷ [] ++ decimal found.1 ++ 10 ∷ []

-- the output of `locate`: a line for each subscriber that was found, and the last line
abbrev pub located_text : List (ℕ × ℕ) → ℕ → List ℕ
located_text found last = flat_map located_line found ++ last_line last
