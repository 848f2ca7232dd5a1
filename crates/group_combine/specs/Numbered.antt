-- The writes of a row of records, numbered in order.
use Rattle.std.specs.Prelude.{◌≡◌, ◌≢◌, ◌==◌, ℕ, ◌+◌, ◌<◌, ◌≤◌, List, [], ◌∷◌, Option, Some, None, if◌then◌else◌, All, AllPairs, length, map, take, slice_index_or}
use Rattle.std.specs.Option.{option_or}
use Rattle.dude_base.specs.declared.write.Write.{Write}
use Rattle.dude_base.specs.Writes.{written}
use Rattle.group_combine.specs.declared.numbered.Numbered.{Numbered}

-- these writes, numbered from n on
abbrev pub numbered_from : ℕ → List Write → List Numbered
numbered_from n [] = []
numbered_from n (w ∷ ws) = record { at = w.at; order = n; value = w.value } ∷ numbered_from (n + 1) ws

-- the write without its order
abbrev pub write_of : Numbered → Write
write_of w = record { at = w.at; value = w.value }

-- the value of the last of these writes that is of word i, or None
abbrev pub last_of : List Write → ℕ → Option ℕ
last_of [] i = None
last_of (w ∷ ws) i = option_or (last_of ws i) (if w.at == i then Some w.value else None)

-- One comes before another: it is of a lower word, or of the same word and not later.
pub record ComesBefore (v w : Numbered) : Type 0 where
  pub words : v.at ≤ w.at
  pub order : v.at ≡ w.at → v.order ≤ w.order

-- in rising order of word, and the writes of a word in their order
abbrev pub AreInOrder : List Numbered → Type 0
AreInOrder row = AllPairs ComesBefore row

-- the write at index k is the last one of its word
abbrev pub EndsWord : List Numbered → ℕ → Type 0
EndsWord row k = (d : Numbered) → k + 1 < length row → (slice_index_or row (k + 1) d).at ≢ (slice_index_or row k d).at

-- the next write is of the same word
abbrev pub HasNextOfWord : List Numbered → ℕ → Type 0
HasNextOfWord row k = (k + 1 < length row) × ((d : Numbered) → (slice_index_or row (k + 1) d).at ≡ (slice_index_or row k d).at)

-- These are the last writes of the words in the first k writes of a row, but for the word that the next write is of.
pub record IsKept (row : List Numbered) (ws : List Write) (k : ℕ) : Type 0 where
  pub rising : AllPairs (λ v w. v.at < w.at) ws
  pub few : length ws ≤ k
  pub below : (d : Numbered) → k < length row → All (λ w. w.at < (slice_index_or row k d).at) ws
  pub last : (i : ℕ) → ((d : Numbered) → k < length row → (slice_index_or row k d).at ≢ i) → written ws i ≡ last_of (map write_of (take k row)) i
