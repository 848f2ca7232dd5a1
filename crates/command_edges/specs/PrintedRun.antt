-- A printed run and its request files, as they were read.
use Rattle.std.specs.Prelude.{ℕ, List}
use Rattle.dude_io.specs.Files.{FilesSight}
use Rattle.command_edges.specs.declared.file_kind.FileKind.TheVariants.{Printed}
use Rattle.command_edges.specs.declared.printed_run.PrintedRun.{PrintedRun}
use Rattle.command_edges.specs.Files.{AreInRange, AreOfFiles}
use Rattle.command_edges.specs.Texts.{IsTextOf}

-- the text of the printed run, and the requests of each file, each in its range
pub record AreOfRun (files : FilesSight) (printed : List ℕ) (names : List (List ℕ)) (run : PrintedRun) : Type 0 where
  pub text : IsTextOf files (record { name = printed; kind = Printed }) run.printed
  pub read : AreOfFiles files names run.files
  pub in_range : AreInRange run.files
