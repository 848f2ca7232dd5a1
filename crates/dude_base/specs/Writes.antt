-- Lists of writes, and an array that they overwrite.
use Rattle.std.specs.Prelude.{◌≡◌, ◌≢◌, ◌==◌, ℕ, ◌<◌, ◌≤◌, List, [], ◌∷◌, ◌++◌, length, map, Option, Some, None, is_some, if◌then◌else◌, AllPairs, slice_set}
use Rattle.std.specs.List.{HoldsAt}
use Rattle.dude_base.specs.declared.limits.TheConstants.{MAX_WRITES}
use Rattle.dude_base.specs.declared.write.Write.{Write}

-- what a list of writes puts into the word i, or None where none of them is of this word
abbrev pub written : List Write → ℕ → Option ℕ
written [] i = None
written (w ∷ ws) i = if w.at == i then Some w.value else written ws i

-- the write at index k is of the word i
abbrev pub IsIndexOf : List Write → ℕ → ℕ → Type 0
IsIndexOf ws i k = (k < length ws) × HoldsAt (λ w. w.at ≡ i) ws k

-- the writes are of different words
abbrev pub HasDistinctPlaces : List Write → Type 0
HasDistinctPlaces ws = AllPairs (λ v w. v.at ≢ w.at) ws

-- at most so many writes of different words
pub record AreWrites (most : ℕ) (ws : List Write) : Type 0 where
  pub few : length ws ≤ most
  pub distinct : HasDistinctPlaces ws

-- the writes of one transaction: at most 24, of different words
abbrev pub IsWriteList : List Write → Type 0
IsWriteList ws = AreWrites MAX_WRITES ws

-- w replaces the write of the same word; where there is none, it comes last
abbrev pub put_write : List Write → Write → List Write
put_write ws w = if is_some (written ws w.at) then map (λ v. if v.at == w.at then w else v) ws else ws ++ w ∷ []

-- the writes of a second list, put one after another
abbrev pub put_all : List Write → List Write → List Write
put_all ws [] = ws
put_all ws (v ∷ vs) = put_all (put_write ws v) vs

-- where at most so many writes are allowed, one more write of the word i would be too many
pub record IsTooMany (most : ℕ) (ws : List Write) (i : ℕ) : Type 0 where
  pub full : length ws ≡ most
  pub new : written ws i ≡ None

-- a transaction has 24 writes and none of the word i, so that one more of it would be too many
abbrev pub IsWide : List Write → ℕ → Type 0
IsWide ws i = IsTooMany MAX_WRITES ws i

-- the array with each written word overwritten; the words differ, so that the order does not matter
abbrev pub overwritten : List Write → List ℕ → List ℕ
overwritten [] a = a
overwritten (w ∷ ws) a = slice_set (overwritten ws a) w.at w.value
