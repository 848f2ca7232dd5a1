-- The parts of a slice of cells that `decode` looks at, one after the other.
use Rattle.std.specs.Prelude.{◌≡◌, ◌*◌, ◌/◌, ◌%◌, ℕ, ◌<◌, ◌≤◌, List, length, map, slice_index}
use Rattle.std.specs.List.{range_with_len}
use Rattle.dude_base.specs.declared.write.Write.{Write}
use Rattle.dude_base.specs.Records.{RedoBundle}
use Rattle.dude_base.specs.Writes.{HasDistinctPlaces}
use Rattle.dude_base.specs.declared.limits.TheConstants.{LINE, MAX_BUNDLE_WRITES, MAX_SPAN}
use Rattle.redo_record.specs.Tags.{kind_of, number_of, IsNumber}
use Rattle.redo_record.specs.Record.{cells_for, record_of, write_of, IsContinuation}
use Rattle.redo_record.specs.Encoding.{word_in_slice, IsRecordSlice}

-- The slice begins with a head that counts so many writes, and has just the cells that they need.
pub record HasHeadFor (words : List ℕ) (count : ℕ) : Type 0 where
  pub count_is : slice_index words 1 % 256 ≡ count
  pub few : count ≤ MAX_BUNDLE_WRITES
  pub span : slice_index words 1 / 256 ≤ MAX_SPAN
  pub first : slice_index words 1 / 256 < number_of (slice_index words 0)
  pub head : kind_of (slice_index words 0) ≡ 1
  pub number : IsNumber (number_of (slice_index words 0))
  pub size : length words ≡ LINE * cells_for count

-- each further cell is a continuation
abbrev pub Continues : List ℕ → ℕ → Type 0
Continues words count = (k : ℕ) → 1 ≤ k → k < count → IsContinuation (number_of (slice_index words 0)) k (word_in_slice words k)

-- the first writes of the cells, so many, and their words differ
abbrev pub AreWritesIn : List ℕ → ℕ → List Write → Type 0
AreWritesIn words count ws = (ws ≡ map (write_of (word_in_slice words)) (range_with_len 0 count)) × HasDistinctPlaces ws

-- the slice is just the cells of a bundle, and it is this one
abbrev pub IsBundleIn : List ℕ → RedoBundle → Type 0
IsBundleIn words r = IsRecordSlice words × (r ≡ record_of (word_in_slice words))
