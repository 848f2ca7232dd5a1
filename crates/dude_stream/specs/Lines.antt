-- What is printed while a run goes on.
use Rattle.std.specs.Prelude.{ℕ, ◌+◌, List, [], ◌∷◌, ◌++◌, decimal}
use Rattle.tatp_model.specs.declared.done.Done.{Done}
use Rattle.tatp_text.specs.Output.{output_line}

-- the line of a reply: its file, counted from 1, and the line that a run prints of it
abbrev pub lane_line : Done → List ℕ
lane_line done = decimal (done.file + 1) ++ 32 ∷ [] ++ output_line done
