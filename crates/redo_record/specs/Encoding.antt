-- The words of a record's cells.
use Rattle.std.specs.Prelude.{◌≡◌, ◌==◌, ℕ, ◌+◌, ◌*◌, ◌-◌, ◌<◌, ◌≤◌, List, [], ◌∷◌, length, slice_index, slice_index_or, flat_map, if◌then◌else◌}
use Rattle.std.specs.List.{range_with_len}
use Rattle.dude_base.specs.declared.limits.TheConstants.{LINE, MAX_BUNDLE_WRITES, MAX_SPAN}
use Rattle.dude_base.specs.declared.write.Write.{Write}
use Rattle.dude_base.specs.Records.{RedoBundle}
use Rattle.dude_base.specs.Writes.{AreWrites}
use Rattle.redo_record.specs.Tags.{head_tag, continuation_tag, IsNumber}
use Rattle.redo_record.specs.Record.{cells_for, count_of, record_of, HoldRecord}

-- A bundle that cells can hold.
pub record IsEncodable (r : RedoBundle) : Type 0 where
  pub number_is : IsNumber r.last
  pub span_is : r.span ≤ MAX_SPAN
  pub first_is : r.span < r.last
  pub writes_are : AreWrites MAX_BUNDLE_WRITES r.writes

-- write i, or zeros where there is none
abbrev pub write_or_zeros : List Write → ℕ → Write
write_or_zeros ws i = slice_index_or ws i (record { at = 0; value = 0 })

-- three writes from write i on, each its word and its value
abbrev pub three_writes : List Write → ℕ → List ℕ
three_writes ws i =
    (write_or_zeros ws i).at ∷ (write_or_zeros ws i).value
    ∷ (write_or_zeros ws (i + 1)).at ∷ (write_or_zeros ws (i + 1)).value
    ∷ (write_or_zeros ws (i + 2)).at ∷ (write_or_zeros ws (i + 2)).value ∷ []

-- the eight words of the record's k-th cell
abbrev pub encoded : RedoBundle → ℕ → List ℕ
encoded r k =
    (if k == 0 then head_tag r.last else continuation_tag r.last)
    ∷ (if k == 0 then length r.writes + 256 * r.span else k)
    ∷ three_writes r.writes (3 * k)

-- all cells of a record, one after another
abbrev pub encoded_cells : RedoBundle → List ℕ
encoded_cells r = flat_map (encoded r) (range_with_len 0 (cells_for (length r.writes)))

-- word j of the k-th cell of a slice of cells
abbrev pub word_in_slice : List ℕ → ℕ → ℕ → ℕ
word_in_slice words k j = slice_index words (LINE * k + j)

-- The slice is exactly the cells of a record.
pub record IsRecordSlice (words : List ℕ) : Type 0 where
  pub whole : HoldRecord (word_in_slice words)
  pub size : length words ≡ LINE * cells_for (count_of (word_in_slice words))

-- The cells that `encode` gives hold the record, one by one and as a slice.
abbrev pub LawOfEncoding : Type 0
LawOfEncoding = (r : RedoBundle) → IsEncodable r
    → HoldRecord (λ k j. slice_index (encoded r k) j) × (record_of (λ k j. slice_index (encoded r k) j) ≡ r)
    × IsRecordSlice (encoded_cells r) × (record_of (word_in_slice (encoded_cells r)) ≡ r)

-- word j of the k-th cell is read where the record has so many writes: its tag and word 1, and the pairs of its writes
abbrev pub IsRead : ℕ → ℕ → ℕ → Type 0
IsRead count k j = (k < cells_for count) × (j < 2 * (count - 3 * k) + 2) × (j < LINE)

-- Cells that hold a record have the words that `encode` gives for it, but for those that aren't read.
abbrev pub LawOfDecoding : Type 0
LawOfDecoding = (cells : ℕ → ℕ → ℕ) → HoldRecord cells
    → (k j : ℕ) → IsRead (count_of cells) k j → cells k j ≡ slice_index (encoded (record_of cells) k) j
