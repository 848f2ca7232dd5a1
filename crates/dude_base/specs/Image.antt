-- The image: an array of words. Line k is its words 8 k to 8 k + 7.
--
--     word 0                          the magic number, the bytes DUDETMEM as a number
--     word 1                          the version
--     words 2 to 7                    subscribers, calls, rings, cells, pages, index
--     word 8                          the mark: the number up to which the home has all writes
--     words 9 to 15                   not read
--     16 + (r * cells + c) * 8        the start of cell c of ring r, a line
--     16 + rings * cells * 8 + i      home word i, below pages * 64
use Rattle.std.specs.Prelude.{ℕ, ◌+◌, ◌*◌, List, [], ◌∷◌}
use Rattle.dude_base.specs.declared.limits.TheConstants.{HEADER, LINE, PAGE, MAGIC}
use Rattle.dude_base.specs.declared.sizes.Sizes.{Sizes}

-- words 0 to 7, in this version
abbrev pub header_words : ℕ → Sizes → List ℕ
header_words version s = MAGIC ∷ version ∷ s.subscribers ∷ s.calls ∷ s.rings ∷ s.cells ∷ s.pages ∷ s.index ∷ []

-- A cell, by its ring and its slot in the ring.
pub record Cell : Type 0 where
  pub ring : ℕ
  pub slot : ℕ

-- the cell at this slot of this ring
abbrev pub cell_at : ℕ → ℕ → Cell
cell_at ring slot = record { ring = ring; slot = slot }

-- where the first word of a cell stands
abbrev pub cell_start : Sizes → Cell → ℕ
cell_start s cell = HEADER + (cell.ring * s.cells + cell.slot) * LINE

-- word i of the home
abbrev pub home_word : Sizes → ℕ → ℕ
home_word s i = HEADER + s.rings * s.cells * LINE + i

-- the words of the image, home included; what stands behind them is not read
abbrev pub image_words : Sizes → ℕ
image_words s = home_word s (s.pages * PAGE)
