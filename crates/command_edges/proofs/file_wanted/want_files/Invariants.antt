use Rattle.std.proofs.Common.{◌≡◌, ◌++◌, map, take}
use Rattle.command_edges.specs.CommandFile.{files_of, files_wanted}
use Rattle.command_edges.proofs.file_wanted.want_files.Given as goal

-- the files of the first names were added
abbrev pub invariant-loop-name : goal.invariant-loop-name
invariant-loop-name g l =
    files_wanted l.wanted.items ≡ files_wanted l.initial.wanted.items ++ files_of l.kind (map g.S.AsStr.text (take l.name-index l.names))
