-- The words of `run` and `stream` in the code.
use Rattle.std.specs.Prelude.{◌≡◌, ℕ, List, Option, drop, map}
use Rattle.std.specs.Borrow.{Bor}
use Rattle.std.specs.Option.{option_map}
use Rattle.std.specs.Rc.{rc_str_bytes}
use Rattle.command_edges.specs.Command.{RunArguments, RunWords, run_arguments}
use Rattle.command_edges.specs.declared.run.RunWords.{RunWords as RunWordsOfCode}
use Rattle.command_edges.specs.declared.run_arguments.RunArguments.{RunArguments as RunArgumentsOfCode}

-- the bytes of a word that may be left out
abbrev pub text_of : {X : Type 0} → (X → List ℕ) → Option (Bor X) → Option (List ℕ)
text_of bytes word = option_map (λ text. bytes text.now) word

-- what the code's value says
abbrev pub as_words : RunWordsOfCode → RunWords
as_words given = record {
  frames = text_of rc_str_bytes given.frames;
  locks = text_of rc_str_bytes given.locks;
  files = map rc_str_bytes given.files.now;
}

-- what the code's arguments say
abbrev pub as_arguments : RunArgumentsOfCode → RunArguments
as_arguments given = record { frames = given.frames; locks = given.locks; files = map rc_str_bytes given.files.now }

-- arguments of the code, or none, are those behind the first word
abbrev pub AreGiven : List (List ℕ) → Option RunArgumentsOfCode → Type 0
AreGiven words given = option_map as_arguments given ≡ run_arguments (drop 1 words)
