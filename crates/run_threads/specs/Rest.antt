-- The records of a rest, by their places in it.
use Rattle.std.specs.Prelude.{◌≡◌, ℕ, ◌<◌, ◌≤◌, List, [], Some, slice_index_or}
use Rattle.dude_base.specs.declared.write.Write.{Write}
use Rattle.dude_base.specs.Writes.{written}
use Rattle.tiny_stm.specs.Posts.{number_of}
use Rattle.tiny_stm.specs.declared.posted.Posted.{Posted}

-- a record that is in no rest
abbrev pub no_posted : Posted
no_posted = record { ring = 0; redo = record { number = 0; writes = [] } }

-- the record at a place
abbrev pub at : List Posted → ℕ → Posted
at rest i = slice_index_or rest i no_posted

-- its number
abbrev pub number_at : List Posted → ℕ → ℕ
number_at rest i = number_of (at rest i)

-- its writes
abbrev pub writes_at : List Posted → ℕ → List Write
writes_at rest i = (at rest i).redo.writes

-- only words under a place are written
abbrev pub AreUnder : ℕ → List Write → Type 0
AreUnder words ws = (i x : ℕ) → written ws i ≡ Some x → i < words

-- The number is that of a record from one place on, and before another.
pub record IsWithin (rest : List Posted) (from upto n : ℕ) : Type 0 where
  pub place : ℕ
  pub low : from ≤ place
  pub high : place < upto
  pub is : number_at rest place ≡ n
