-- The commands as `clap` sees them, and what is read of the matches that it makes of their words.
use Rattle.std.specs.Prelude.{ℕ, ◌≡◌, ◌≢◌, ◌^◌, ◌-◌, Bool, true, false, ◌&&◌, nat_lt, Option, Some, None, MatchOption, if◌then◌else◌, List, [], ◌∷◌, length, codes, option_and_then}
use Rattle.std.specs.List.{list_all}
use Rattle.std.specs.Char.{digit_value}
use Rattle.std.specs.Str.Parse.{digits_value, without_leading_plus}
use Rattle.dude_base.specs.declared.limits.TheConstants.{MAX_RINGS}
use Rattle.clap.specs.Walk.{Rule, Text, Row, first_of, one_of}
use Rattle.clap.specs.Simple.{App, new_app, new_rule, with_rule}
use Rattle.clap.specs.Lexer.{usize_max}
use Rattle.clap.specs.Words.{fault_of, found_of, matches_of, rows_of}
use Rattle.clap.specs.declared.builder.value_parser.ValueParser.TheVariants as vp
use Rattle.clap.specs.declared.parser.matches.ArgMatches.{ArgMatches}
use Rattle.tatp_text.specs.Number.{is_decimal}
use Rattle.command_edges.specs.Command.{Meaning, DriveLoad, FreshRun, Limits, LocateRange, RunArguments, RunWords, are_file_names, format_with, is_file_name, with_three}

-- ---- the arguments

-- a number from `low` to `high`
abbrev pub number_rule : Text → ℕ → ℕ → Rule
number_rule id low high = record (new_rule id) { parser = Some (vp.Unsigned low high); required = true }

-- an option with a number from `low` to `high`
abbrev pub option_rule : Text → ℕ → ℕ → Rule
option_rule id low high = record (new_rule id) { long = Some id; parser = Some (vp.Unsigned low high) }

-- one word, whatever it is
abbrev pub file_rule : Rule
file_rule = record (new_rule (codes "file")) { required = true }

-- one or more words
abbrev pub files_rule : Rule
files_rule = record (new_rule (codes "files")) {
  range = Some (record { start_inclusive = 1; end_inclusive = usize_max });
  required = true;
}

-- ---- the commands

-- `fresh`: how many subscribers, and a file
abbrev pub fresh_app : App
fresh_app = with_rule (with_rule (new_app (codes "fresh")) (number_rule (codes "subscribers") 1 10_000)) file_rule

-- `format` and `xformat`: how many subscribers, call records, rings, and cells of a ring
abbrev pub format_app : App
format_app =
    with_rule (with_rule (with_rule (with_rule (new_app (codes "format"))
    (number_rule (codes "subscribers") 1 10_000))
    (number_rule (codes "calls") 1 120_000))
    (number_rule (codes "rings") 1 MAX_RINGS))
    (number_rule (codes "cells") 16 4_096)

-- `run` and `stream`: an option for the frames, one for the locks, and one or more files
abbrev pub run_app : App
run_app =
    with_rule (with_rule (with_rule (new_app (codes "run")) (option_rule (codes "frames") 1 32_768)) (option_rule (codes "locks") 1 65_536)) files_rule

-- three numbers, by their names, each in its limits
abbrev pub three_app : Text → (i j k : Text) → (p q r : Limits) → App
three_app name i j k p q r =
    with_rule (with_rule (with_rule (new_app name) (number_rule i p.0 p.1)) (number_rule j q.0 q.1)) (number_rule k r.0 r.1)

-- `drive`: a seed, how many requests each file has, and how many files
abbrev pub drive_app : App
drive_app =
    three_app (codes "drive") (codes "seed") (codes "count") (codes "files") (0, 2 ^ 64 - 1) (0, 99_999) (1, MAX_RINGS)

-- `locate`: the ends of a range, and how many lines at most
abbrev pub locate_app : App
locate_app =
    three_app (codes "locate") (codes "low") (codes "high") (codes "limit") (0, 4_294_967_295) (0, 4_294_967_295) (1, 10_000)

-- ---- the form of the words that `clap` is given: the program's name, then these

-- a number's word
abbrev pub is_number : Text → Bool
is_number word = is_decimal 20 word

-- a number's word, or none
abbrev pub is_number_or_absent : Option Text → Bool
is_number_or_absent None = true
is_number_or_absent (Some word) = is_number word

-- the words of `fresh`: a number and a file name
abbrev pub has_fresh_form : List Text → Bool
has_fresh_form (name ∷ subscribers ∷ file ∷ []) = is_number subscribers && is_file_name file
has_fresh_form _ = false

-- the words of `format` and `xformat`: four numbers
abbrev pub has_format_form : List Text → Bool
has_format_form (name ∷ subscribers ∷ calls ∷ rings ∷ cells ∷ []) =
    is_number subscribers && is_number calls && is_number rings && is_number cells
has_format_form _ = false

-- the words of `drive` and `locate`: three numbers
abbrev pub has_three_form : List Text → Bool
has_three_form (name ∷ first ∷ second ∷ third ∷ []) = is_number first && is_number second && is_number third
has_three_form _ = false

-- the words of `run` and `stream`: a number behind each option that is there, and one or more file names
abbrev pub has_run_form : RunWords → Bool
has_run_form given = is_number_or_absent given.frames && is_number_or_absent given.locks && are_file_names given.files

-- ---- what is read

-- what was matched, a row for each argument
abbrev pub matched_rows : ArgMatches → List Row
matched_rows matches = rows_of (found_of matches)

-- `clap` gives matches of these words, or none exactly where it refuses them
abbrev pub IsReading : App → List Text → Option ArgMatches → Type 0
IsReading app words found =
    MatchOption found (fault_of app words ≢ []) (λ matches. (fault_of app words ≡ []) × (matched_rows matches ≡ matches_of app words))

-- the number that `u64` reads from a text
abbrev pub parsed_number : Text → Option ℕ
parsed_number text =
    let digits = without_leading_plus text in
    if nat_lt 0 (length digits) && list_all (λ d. nat_lt (digit_value d) 10) digits && nat_lt (digits_value 10 digits) (2 ^ 64)
    then Some (digits_value 10 digits) else None

-- the number that an argument has
abbrev pub number_of : Text → List Row → Option ℕ
number_of id rows = option_and_then parsed_number (one_of id rows)

-- a run of a file, where both are there
abbrev pub fresh_with : Option ℕ → Option Text → Option Meaning
fresh_with (Some subscribers) (Some file) = Some (FreshRun subscribers file)
fresh_with _ _ = None

-- what the matches of `fresh` mean
abbrev pub fresh_in : List Row → Option Meaning
fresh_in rows = fresh_with (number_of (codes "subscribers") rows) (first_of (codes "file") rows)

-- what the matches of `format` and `xformat` mean
abbrev pub format_in : Bool → List Row → Option Meaning
format_in indexed rows =
    format_with indexed (number_of (codes "subscribers") rows) (number_of (codes "calls") rows) (number_of (codes "rings") rows) (number_of (codes "cells") rows)

-- what the matches of `run` and `stream` give, with these files
abbrev pub run_in : List Text → List Row → Option RunArguments
run_in files rows = Some (record { frames = number_of (codes "frames") rows; locks = number_of (codes "locks") rows; files = files })

-- what the matches of three numbers mean, by their names
abbrev pub three_in : (ℕ → ℕ → ℕ → Meaning) → (i j k : Text) → List Row → Option Meaning
three_in made i j k rows = with_three made (number_of i rows) (number_of j rows) (number_of k rows)

-- what the matches of `drive` mean
abbrev pub drive_in : List Row → Option Meaning
drive_in rows = three_in DriveLoad (codes "seed") (codes "count") (codes "files") rows

-- what the matches of `locate` mean
abbrev pub locate_in : List Row → Option Meaning
locate_in rows = three_in LocateRange (codes "low") (codes "high") (codes "limit") rows
