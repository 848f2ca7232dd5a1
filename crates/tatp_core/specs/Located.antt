-- The subscribers in a range of locations, in their order, and what it takes to find them in an index.
use Rattle.std.specs.Prelude.{◌≡◌, ℕ, ◌+◌, ◌*◌, ◌<◌, ◌⊎◌, Bool, ◌&&◌, List, map, take, AllPairs, All, Option, Some, None, Result, Ok, Err, nat_le}
use Rattle.std.specs.List.{filter}
use Rattle.std.specs.List.Sorted.{IsPermutation}
use Rattle.dude_base.specs.declared.sizes.Sizes.{Sizes}
use Rattle.word_space.specs.declared.stop.Stop.{Stop}
use Rattle.word_space.specs.declared.stop.Stop.TheVariants.{NoMemory}
use Rattle.word_space.specs.Sights.{WordsSight}
use Rattle.word_space.specs.Steps.{WordsUsed}
use Rattle.tree_index.specs.declared.tree.Tree.{Tree}
use Rattle.tree_index.specs.Shape.{Shape, keys_in}
use Rattle.tree_index.specs.Tree.{IsNext, IsTree}
use Rattle.tree_index.specs.Walk.{next_reads}
use Rattle.tatp_model.specs.declared.sub_row.SubRow.{SubRow}
use Rattle.tatp_model.specs.Database.{Database}
use Rattle.tatp_layout.specs.StandsFor.{StandsFor}

-- the number of a subscriber, and the location
abbrev pub number_and_location : SubRow → ℕ × ℕ
number_and_location row = (row.s_id, row.vlr)

-- the subscriber's location is from `low` to `high`
abbrev pub is_within : ℕ → ℕ → SubRow → Bool
is_within low high row = nat_le low row.vlr && nat_le row.vlr high

-- a number with its location comes before another: by the location, and by the number where the locations are one
abbrev pub ComesBefore : ℕ × ℕ → ℕ × ℕ → Type 0
ComesBefore p q = (p.1 < q.1) ⊎ ((p.1 ≡ q.1) × (p.0 < q.0))

-- Of all subscribers whose location is from `low` to `high`, each with the location, these are the first `limit` in order.
pub record Locates (low high limit : ℕ) (rows : List SubRow) (found : List (ℕ × ℕ)) : Type 0 where
  pub all : List (ℕ × ℕ)
  pub same : IsPermutation all (map number_and_location (filter (is_within low high) rows))
  pub in_order : AllPairs ComesBefore all
  pub first : found ≡ take limit all

-- in every database for which the array stands, these are the ones located
abbrev pub LocatesIn : Sizes → ℕ → ℕ → ℕ → List ℕ → List (ℕ × ℕ) → Type 0
LocatesIn s low high limit array found = (db : Database) → StandsFor s array db → Locates low high limit db.subscribers found

-- how many reads it takes at most to locate so many
abbrev pub locate_reads : ℕ → ℕ
locate_reads found = next_reads * (found + 2)

-- The Stop that words handed on, if they did, by the result of a call that takes memory of its own: want of it is told as
-- NoMemory too.
abbrev pub HandsOn : {T : Type 0} → Result T Stop → Option Stop → Type 0
HandsOn (Ok _) stop = stop ≡ None
HandsOn (Err e) stop = (stop ≡ Some e) ⊎ ((stop ≡ None) × (e ≡ NoMemory))

-- What a call that reads words, and takes memory of its own, leaves of them: so many reads at most were noted, nothing was written,
-- and the last Stop is the one that was handed on, if one was.
pub record ReadsWords {S T : Type 0} (sight : S → WordsSight) (turns_into : S → S → Type 0) (most_reads : ℕ) (result : Result T Stop) (old new : S) : Type 0 where
  pub stop : Option Stop
  pub handed : HandsOn result stop
  pub used : WordsUsed sight turns_into most_reads 0 stop old new

-- the next of these keys from `from` on, if it is at most `last`
abbrev pub IsNextUpTo : List ℕ → ℕ → ℕ → Option ℕ → Type 0
IsNextUpTo keys from last None = All (λ key. (key < from) ⊎ (last < key)) keys
IsNextUpTo keys from last (Some key) = IsNext keys from (Some key)

-- in every way in which the array is this tree, the answer is the next of its keys in that range
abbrev pub FindsUpTo : Tree → ℕ → ℕ → List ℕ → Option ℕ → Type 0
FindsUpTo tree from last array r = (shape : Option Shape) (free_leaves free_inner : List ℕ) → IsTree tree array shape free_leaves free_inner → IsNextUpTo (keys_in shape) from last r
