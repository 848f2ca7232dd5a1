-- The cells of the rings: a record takes cells that follow one another in its ring.
use Rattle.std.specs.Prelude.{ℕ, ◌+◌, ◌*◌, ◌%◌, ◌<◌}
use Rattle.dude_base.specs.declared.sizes.Sizes.{Sizes}
use Rattle.dude_base.specs.Image.{Cell, cell_start}

-- the cell is one of an image of these sizes
pub record IsCell (s : Sizes) (cell : Cell) : Type 0 where
  pub ring_is : cell.ring < s.rings
  pub slot_is : cell.slot < s.cells

-- the k-th cell from this one on; after the last cell of the ring comes its first
abbrev pub cell_after : Sizes → Cell → ℕ → Cell
cell_after s head k = record { ring = head.ring; slot = (head.slot + k) % s.cells }

-- the line of a cell
abbrev pub line_of : Sizes → Cell → ℕ
line_of s cell = 2 + cell.ring * s.cells + cell.slot

-- where word j of the k-th cell from this one on stands
abbrev pub word_at : Sizes → Cell → ℕ → ℕ → ℕ
word_at s head k j = cell_start s (cell_after s head k) + j
