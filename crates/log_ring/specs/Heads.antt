-- The heads that a scan keeps, and what they say of their bundles.
use Rattle.std.specs.Prelude.{ℕ, List, []}
use Rattle.dude_base.specs.declared.sizes.Sizes.{Sizes}
use Rattle.dude_base.specs.Records.{RedoBundle}
use Rattle.dude_base.specs.Image.{Cell, cell_at}
use Rattle.redo_record.specs.Images.{bundle_at}
use Rattle.log_ring.specs.declared.head.Head.{Head}

-- the numbers of a head's bundle, without its writes
abbrev pub numbers_of : Head → RedoBundle
numbers_of h = record { last = h.last; span = h.span; writes = [] }

-- the cell of a head
abbrev pub cell_of : Head → Cell
cell_of h = cell_at h.ring h.slot

-- the head that stands in this cell of an image
abbrev pub head_at : Sizes → List ℕ → Cell → Head
head_at s image cell = record { last = (bundle_at s image cell).last; span = (bundle_at s image cell).span; ring = cell.ring; slot = cell.slot }

-- the bundle of a head in an image
abbrev pub bundle_of_head : Sizes → List ℕ → Head → RedoBundle
bundle_of_head s image h = bundle_at s image (cell_of h)
