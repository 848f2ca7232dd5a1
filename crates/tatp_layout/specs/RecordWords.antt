-- The words of one record, apart from the array.
use Rattle.std.specs.Prelude.{◌≡◌, ℕ, ◌+◌, ◌<◌, ◌≤◌, List, length, slice_index}

-- as many words as a record has, with its key and its fields; word 1, the link, may be any
pub record AreOfRecord (count : ℕ) (array : List ℕ) (at : ℕ) (words : List ℕ) : Type 0 where
  pub long : length words ≡ count
  pub key : slice_index words 0 ≡ slice_index array at
  pub fields : (k : ℕ) → 2 ≤ k → k < count → slice_index words k ≡ slice_index array (at + k)
