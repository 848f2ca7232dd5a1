-- How a bundle lies in its cells. Their words are given as a function: cells k j is word j of the bundle's k-th cell, the
-- head being cell 0.
--
--     cell                      word 0           word 1                      words 2 to 7
--     head                      head tag         count + 256 * span          writes 0 to 2, each a word and a value
--     continuation k, from 1    continuation tag k                           writes 3 k to 3 k + 2
use Rattle.std.specs.Prelude.{◌≡◌, ℕ, ◌+◌, ◌*◌, ◌/◌, ◌%◌, ◌<◌, ◌≤◌, max, List, map, All}
use Rattle.std.specs.List.{range_with_len}
use Rattle.dude_base.specs.declared.limits.TheConstants.{MAX_BUNDLE_WRITES, MAX_SPAN, MAX_WRITES, PAGE, VERSION_ONE}
use Rattle.dude_base.specs.declared.sizes.Sizes.{Sizes}
use Rattle.dude_base.specs.declared.write.Write.{Write}
use Rattle.dude_base.specs.Records.{RedoBundle}
use Rattle.dude_base.specs.Writes.{HasDistinctPlaces}
use Rattle.redo_record.specs.Tags.{kind_of, number_of, IsNumber}

-- how many cells so many writes take: three writes a cell, and one cell at least
abbrev pub cells_for : ℕ → ℕ
cells_for count = max 1 ((count + 2) / 3)

-- how many writes a record has: the lowest byte of word 1 of its head
abbrev pub count_of : (ℕ → ℕ → ℕ) → ℕ
count_of cells = cells 0 1 % 256

-- how many numbers before its last one a record covers: the other bytes of word 1 of its head
abbrev pub span_of : (ℕ → ℕ → ℕ) → ℕ
span_of cells = cells 0 1 / 256

-- the i-th write of a record: each of its cells has three, a place and a value each, from word 2 on
abbrev pub write_of : (ℕ → ℕ → ℕ) → ℕ → Write
write_of cells i = record { at = cells (i / 3) (2 + 2 * (i % 3)); value = cells (i / 3) (3 + 2 * (i % 3)) }

-- as many writes as the head counts, in order
abbrev pub writes_of : (ℕ → ℕ → ℕ) → List Write
writes_of cells = map (write_of cells) (range_with_len 0 (count_of cells))

-- the numbers and the writes that the cells hold
abbrev pub record_of : (ℕ → ℕ → ℕ) → RedoBundle
record_of cells = record { last = number_of (cells 0 0); span = span_of cells; writes = writes_of cells }

-- The words are those of a continuation of this number, with this index.
pub record IsContinuation (number index : ℕ) (words : ℕ → ℕ) : Type 0 where
  pub kind : kind_of (words 0) ≡ 2
  pub same_number : number_of (words 0) ≡ number
  pub same_index : words 1 ≡ index

-- The cells hold a bundle: a head with a last number, a span that leaves the first one over 0, and a count; each
-- continuation that the count needs; and writes of distinct words.
pub record HoldRecord (cells : ℕ → ℕ → ℕ) : Type 0 where
  pub head : kind_of (cells 0 0) ≡ 1
  pub number : IsNumber (number_of (cells 0 0))
  pub span : span_of cells ≤ MAX_SPAN
  pub first : span_of cells < number_of (cells 0 0)
  pub count : count_of cells ≤ MAX_BUNDLE_WRITES
  pub continued : (k : ℕ) → 1 ≤ k → k < cells_for (count_of cells) → IsContinuation (number_of (cells 0 0)) k (cells k)
  pub distinct : HasDistinctPlaces (writes_of cells)

-- The cells hold a complete record: a bundle whose cells fit in the ring, and each of whose writes is of a home word.
pub record HoldComplete (s : Sizes) (cells : ℕ → ℕ → ℕ) : Type 0 where
  pub whole : HoldRecord cells
  pub room : cells_for (count_of cells) ≤ s.cells
  pub home : All (λ w. w.at < s.pages * PAGE) (writes_of cells)

-- In an image of version 1 a record covers one number and has no more writes than a transaction: word 1 is their count.
abbrev pub FitsVersion : ℕ → (ℕ → ℕ → ℕ) → Type 0
FitsVersion version cells = version ≡ VERSION_ONE → cells 0 1 ≤ MAX_WRITES
