-- Commands whose words are all numbers, as `clap` sees them.
use Rattle.std.specs.Prelude.{List, Option}
use Rattle.std.specs.List.{fold}
use Rattle.clap.specs.Walk.{Text}
use Rattle.clap.specs.Simple.{App, new_app, with_rule}
use Rattle.clap.specs.declared.parser.matches.ArgMatches.{ArgMatches}
use Rattle.command_edges.specs.Clap.{IsReading, number_rule}
use Rattle.command_edges.specs.declared.numbers.Number.{Number}

-- a command with one number more
abbrev pub with_number : App → Number → App
with_number app number = with_rule app (number_rule number.id.now number.low number.high)

-- a command that takes these numbers
abbrev pub numbers_app : Text → List Number → App
numbers_app name numbers = fold with_number (new_app name) numbers

-- what it gives of the words of such a command
abbrev pub ReadsAll : Text → List Number → List Text → Option ArgMatches → Type 0
ReadsAll name numbers words found = IsReading (numbers_app name numbers) words found
