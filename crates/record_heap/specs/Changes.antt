-- What calls that wrote leave of an array.
use Rattle.std.specs.Prelude.{◌≡◌, ◌≢◌, ℕ, List, [], ◌∷◌, length, slice_index}

-- i is none of these words
abbrev pub IsNoneOf : List ℕ → ℕ → Type 0
IsNoneOf [] i = Unit {0}
IsNoneOf (word ∷ words) i = (i ≢ word) × IsNoneOf words i

-- no word but these differs
pub record ChangesOnly (words : List ℕ) (old new : List ℕ) : Type 0 where
  pub size : length new ≡ length old
  pub others : (i : ℕ) → IsNoneOf words i → slice_index new i ≡ slice_index old i

-- no word but this one differs
abbrev pub ChangesWord : ℕ → List ℕ → List ℕ → Unit {0} → Type 0
ChangesWord word old new done = ChangesOnly (word ∷ []) old new
