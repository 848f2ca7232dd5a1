-- What the walk over the words holds.
use Rattle.std.proofs.Common.{List, [], ◌∷◌, Some, None, codes}
use Rattle.clap.specs.Walk.{Held, Row, Text}
use Rattle.clap.specs.declared.builder.value_parser.Reading.TheVariants.{AsWritten}
use Rattle.clap.specs.declared.parser.matches.ValueSource.TheVariants.{CommandLine}

-- the match of an argument with these values
abbrev pub values_row : Text → List Text → Row
values_row id words = record { id = id; values = words; count = None; source = Some CommandLine; reading = AsWritten }

-- the match of an argument with one value
abbrev pub value_row : Text → Text → Row
value_row id word = values_row id (word ∷ [])

-- what is held between two words: what was matched, and the argument at hand with its values
abbrev pub held : List Row → Text → List Text → Held
held rows id words = record { rows = rows; pending = Some (id, words); skip = 0 }

-- the same behind a first word, which says how many subscribers there are
abbrev pub subscribers_held : Text → Held
subscribers_held s = held [] (codes "subscribers") (s ∷ [])
