-- The calls of an append and of a reproduction, as the code holds them.
use Rattle.std.specs.Prelude.{ℕ, ◌-◌, ◌*◌, List, ◌++◌, drop, length, take}
use Rattle.dude_base.specs.declared.limits.TheConstants.{LINE}
use Rattle.dude_base.specs.declared.sizes.Sizes.{Sizes}
use Rattle.dude_base.specs.Image.{Cell}
use Rattle.dude_base.specs.Records.{RedoBundle}
use Rattle.pmem_trait.specs.declared.call.Call.{Call}
use Rattle.pmem_trait.specs.Groups.{group_calls}
use Rattle.redo_record.specs.declared.append_calls.AppendCalls.{AppendCalls}
use Rattle.redo_record.specs.declared.reproduce_calls.ReproduceCalls.{ReproduceCalls}
use Rattle.redo_record.specs.BackCalls.{reproduce_calls}
use Rattle.redo_record.specs.Calls.{lines_from}
use Rattle.redo_record.specs.Record.{cells_for}

-- the words that an append puts first, each with its value: all but the head's tag
abbrev pub body_of : AppendCalls → List (ℕ × ℕ)
body_of a = take (LINE * a.cells - 1) (drop 1 a.pairs)

-- the lines of an append's cells
abbrev pub body_lines_of : AppendCalls → List ℕ
body_lines_of a = take a.cells a.lines

-- the lines of a bundle's cells, where its head stands at this cell
abbrev pub bundle_lines : Sizes → Cell → RedoBundle → List ℕ
bundle_lines s head b = lines_from s head (cells_for (length b.writes))

-- the tag of an append's head, with its word
abbrev pub tag_of : AppendCalls → List (ℕ × ℕ)
tag_of a = take 1 a.pairs

-- the line of the tag: the first of an append's lines
abbrev pub tag_line_of : AppendCalls → List ℕ
tag_line_of a = take 1 a.lines

-- all calls of the append
abbrev pub append_list : AppendCalls → List Call
append_list a = group_calls (body_of a) (body_lines_of a) ++ group_calls (tag_of a) (tag_line_of a)

-- all calls of the reproduction
abbrev pub reproduce_list : ReproduceCalls → List Call
reproduce_list a = reproduce_calls a.place a.writes.now a.number
