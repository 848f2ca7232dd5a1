-- Lists of records that are linked through the words of an array.
use Rattle.std.specs.Prelude.{◌≡◌, ℕ, ◌+◌, List, [], ◌∷◌, slice_index}

-- The records are linked in this order from the word `link`: where there are none, that word is 0; else it
-- is the first record, and word 1 of that record links the others.
abbrev pub Linked : List ℕ → ℕ → List ℕ → Type 0
Linked array link [] = slice_index array link ≡ 0
Linked array link (at ∷ others) = (slice_index array link ≡ at) × Linked array (at + 1) others
