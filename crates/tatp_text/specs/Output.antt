-- What a run prints.
use Rattle.std.specs.Prelude.{ℕ, List, [], ◌∷◌, ◌++◌, codes, decimal}
use Rattle.std.specs.List.{flat_map}
use Rattle.tatp_model.specs.declared.done.Done.{Done}
use Rattle.tatp_text.specs.Reply.{reply_text}

-- the line of a request that was served: its number and its reply
abbrev pub output_line : Done → List ℕ
output_line done = decimal done.number ++ 32 ∷ [] ++ reply_text done.reply ++ 10 ∷ []

-- the line that closes the output: the last number told
abbrev pub last_line : ℕ → List ℕ
last_line number = codes "last " ++ decimal number ++ 10 ∷ []

-- the output of a run: a line for each request, and the last line
abbrev pub output_of : List Done → ℕ → List ℕ
output_of done last = flat_map output_line done ++ last_line last
