use Rattle.std.proofs.Common.{◌≡◌, take}
use Rattle.std.specs.List.{flat_map}
use Rattle.command_edges.specs.Located.{located_line}
use Rattle.command_edges.proofs.located.lines_of.Given as goal

-- the text so far is the lines of the subscribers so far
abbrev pub invariant-loop-row : goal.invariant-loop-row
invariant-loop-row l = l.text.items ≡ flat_map located_line (take l.row-index l.found)
