-- What contracts see of a `ReadSet`.
use Rattle.std.specs.Prelude.{ℕ, ◌<◌, List, length}

-- the reads noted, each a word's number and the value found there; and for how many in all memory was taken
pub record NotedReads : Type 0 where
  pub reads : List (ℕ × ℕ)
  pub room : ℕ

-- the memory of one read more was taken
abbrev pub HasRoom : NotedReads → Type 0
HasRoom noted = length noted.reads < noted.room
