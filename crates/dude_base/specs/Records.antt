-- What contracts see of a redo record, and of a bundle of records.
use Rattle.std.specs.Prelude.{ℕ, ◌+◌, ◌-◌, ◌≤◌, List, [], ◌∷◌}
use Rattle.dude_base.specs.declared.limits.TheConstants.{MAX_NUMBER, MAX_SPAN, MAX_BUNDLE_WRITES}
use Rattle.dude_base.specs.declared.write.Write.{Write}
use Rattle.dude_base.specs.Writes.{overwritten, put_all, put_write, AreWrites}

-- the number of a transaction, and its writes
pub record RedoRecord : Type 0 where
  pub number : ℕ
  pub writes : List Write

-- the record with one more write, which replaces the one of the same word, or comes last
abbrev pub with_write : RedoRecord → Write → RedoRecord
with_write r w = record r { writes = put_write r.writes w }

-- A bundle covers consecutive numbers: its last one, and so many before it. It has the last write of each word that the
-- transactions of these numbers write.
pub record RedoBundle : Type 0 where
  pub last : ℕ
  pub span : ℕ
  pub writes : List Write

-- the first number that a bundle covers
abbrev pub first_of : RedoBundle → ℕ
first_of b = b.last - b.span

-- the bundle covers this number
pub record Covers (b : RedoBundle) (number : ℕ) : Type 0 where
  pub low : first_of b ≤ number
  pub high : number ≤ b.last

-- the bundle of one record
abbrev pub bundle_of : RedoRecord → RedoBundle
bundle_of r = record { last = r.number; span = 0; writes = r.writes }

-- the bundle with one record more, that of the next number
abbrev pub with_next : RedoBundle → RedoRecord → RedoBundle
with_next b r = record { last = b.last + 1; span = b.span + 1; writes = put_all b.writes r.writes }

-- what each bundle keeps: at most MAX_SPAN + 1 numbers from 0 on, and at most MAX_BUNDLE_WRITES writes of different words
pub record IsBundle (b : RedoBundle) : Type 0 where
  pub span_is : b.span ≤ MAX_SPAN
  pub first_is : b.span ≤ b.last
  pub writes_are : AreWrites MAX_BUNDLE_WRITES b.writes

-- The numbers of the bundle are ones that transactions may have.
pub record HasNumbers (b : RedoBundle) : Type 0 where
  pub low : 1 ≤ first_of b
  pub high : b.last ≤ MAX_NUMBER

-- an array overwritten by the writes of bundles, one bundle after another
abbrev pub overwritten_by_all : List RedoBundle → List ℕ → List ℕ
overwritten_by_all [] array = array
overwritten_by_all (b ∷ bs) array = overwritten_by_all bs (overwritten b.writes array)
