-- The words of a file, of which the last ones may be 0 without being stored.
use Rattle.std.specs.Prelude.{ℕ, ◌+◌, ◌-◌, ◌*◌, ◌≤◌, List, ◌++◌, replicate, vec_len, All}
use Rattle.dude_io.specs.declared.file_words.FileWords.{FileWords}
use Rattle.dude_io.specs.declared.line.Line.{Line}

-- all words: the stored ones, and 0 for each one behind them
abbrev pub words_of : FileWords → List ℕ
words_of words = words.stored.items ++ replicate (words.count - vec_len words.stored) 0

-- these lines are stored, each whole
abbrev pub AreStored : List Line → FileWords → Type 0
AreStored lines words = All (λ line. 8 * line.number + 8 ≤ vec_len words.stored) lines
