use Rattle.std.proofs.Common.{◌≡◌, take}
use Rattle.std.specs.List.{AllZip}
use Rattle.command_edges.specs.CommandFile.{files_wanted}
use Rattle.command_edges.specs.Texts.{IsTextOf}
use Rattle.command_edges.proofs.Order.{ReadWhole}
use Rattle.command_edges.proofs.file_texts.read_texts.Given as goal

-- the first files were read whole, and the texts so far are theirs
abbrev pub invariant-loop-index : goal.invariant-loop-index
invariant-loop-index g l = record {
  calm : (g.F.Files.sight l.files).faults ≡ (g.F.Files.sight l.initial.files).faults;
  read : AllZip (IsTextOf (g.F.Files.sight l.initial.files)) (files_wanted (take l.index l.wanted)) l.texts.items;
  reads : ReadWhole (files_wanted (take l.index l.wanted)) (g.F.Files.sight l.initial.files) (g.F.Files.sight l.files);
}
