-- The calls on the medium that append one record to its ring.
use Rattle.std.specs.Prelude.{ℕ, List, [], ◌∷◌, ◌++◌, length, drop, map, flat_map}
use Rattle.std.specs.List.{range_with_len, enumerate_from}
use Rattle.dude_base.specs.declared.sizes.Sizes.{Sizes}
use Rattle.dude_base.specs.Records.{RedoBundle}
use Rattle.pmem_trait.specs.declared.call.Call.{Call}
use Rattle.pmem_trait.specs.Groups.{group_calls}
use Rattle.redo_record.specs.Tags.{head_tag}
use Rattle.dude_base.specs.Image.{Cell, cell_start}
use Rattle.redo_record.specs.Cells.{cell_after, line_of}
use Rattle.redo_record.specs.Record.{cells_for}
use Rattle.redo_record.specs.Encoding.{encoded}

-- the writes that give the record's k-th cell its words, where the head stands at this cell
abbrev pub cell_writes : Sizes → Cell → RedoBundle → ℕ → List (ℕ × ℕ)
cell_writes s head r k = enumerate_from (cell_start s (cell_after s head k)) (encoded r k)

-- the writes that give all cells of a record their words, in order of cell and word
abbrev pub record_writes : Sizes → Cell → RedoBundle → List (ℕ × ℕ)
record_writes s head r = flat_map (cell_writes s head r) (range_with_len 0 (cells_for (length r.writes)))

-- the writes of a record's body: all but the first, which is that of the head's tag
abbrev pub body_writes : Sizes → Cell → RedoBundle → List (ℕ × ℕ)
body_writes s head r = drop 1 (record_writes s head r)

-- the lines of n cells from this one on
abbrev pub lines_from : Sizes → Cell → ℕ → List ℕ
lines_from s head n = map (λ k. line_of s (cell_after s head k)) (range_with_len 0 n)

-- the write of a record's tag, in the first word of its head
abbrev pub tag_write : Sizes → Cell → RedoBundle → List (ℕ × ℕ)
tag_write s head r = (cell_start s head, head_tag r.last) ∷ []

-- the body is made durable, and then the tag
unfoldable pub append_calls : Sizes → Cell → RedoBundle → List Call
append_calls s head r =
    group_calls (body_writes s head r) (lines_from s head (cells_for (length r.writes)))
    ++ group_calls (tag_write s head r) (line_of s head ∷ [])
