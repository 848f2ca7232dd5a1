-- What a command's words mean, where it is known what `clap` makes of them.
use Rattle.std.proofs.Common.{◌≡◌, ◌∙◌, Bool, true, false, List, [], ◌∷◌, Option, Some, None, refl, subst, sym, ap}
use Rattle.std.specs.Prelude.{if◌then◌else◌, IfOk, Result, Ok, Err}
use Rattle.std.specs.Option.{option_map}
use Rattle.command_edges.specs.declared.command.Command.{Command}
use Rattle.clap.specs.Walk.{Row, Text}
use Rattle.clap.specs.Simple.{App, matches_of}
use Rattle.clap.specs.Faults.{fault_of}
use Rattle.clap.specs.Kinds.{Kinds}
use Rattle.clap.specs.declared.error.kind.ErrorKind.TheVariants.{ValueValidation}
use Rattle.clap.specs.Words.{found_of, rows_of}
use Rattle.clap.specs.declared.parser.matches.ArgMatches.{ArgMatches}
use Rattle.command_edges.specs.Command.{Meaning, meaning_of_command}
use Rattle.command_edges.specs.Clap.{IsReading}

-- words that `clap` takes mean what is read of its matches, and words that it refuses mean nothing
pub record Reads {X : Type 0} (app : App) (words : List Text) (meaning : Option X) (reading : List Row → Option X) : Type 0 where
  pub taken : fault_of app words ≡ [] → meaning ≡ reading (matches_of app words)
  pub refused : (fault_of app words ≡ [] → ⊥) → meaning ≡ None

-- a parse that fails only where a value doesn't pass
abbrev pub failing_unless : Bool → Kinds
failing_unless passes = if passes then [] else ValueValidation ∷ []

pub reads-by : {X : Type 0} (app : App) (words : List Text) (meaning : Option X) (reading : List Row → Option X) (passes : Bool) (rows : List Row)
    → fault_of app words ≡ failing_unless passes → matches_of app words ≡ rows → meaning ≡ (if passes then reading rows else None)
    → Reads app words meaning reading
reads-by app words meaning reading true rows fault matches means = record {
  taken = λ none. means ∙ ap reading (sym matches);
  refused = λ some. absurd (some fault);
}
reads-by app words meaning reading false rows fault matches means = record {
  taken = λ none. absurd (let no : ◌≡◌ {A = Kinds} (ValueValidation ∷ []) [] = sym fault ∙ none in cc no);
  refused = λ some. means;
}

-- what is read by one command is read by its equal
pub read-as : {E : Type 0} (app known : App) (words : List Text) (r : Result (Option ArgMatches) E)
    → app ≡ known → IfOk r (IsReading app words) → IfOk r (IsReading known words)
read-as app known words r same read = subst (λ (a : App). IfOk r (IsReading a words)) same read

-- matches that were made of the words
pub taken-in : {X : Type 0} (app known : App) (words : List Text) (found : Option ArgMatches) (m : ArgMatches) (meaning : Option X) (reading : List Row → Option X)
    → app ≡ known → found ≡ Some m → IsReading app words found → Reads known words meaning reading → meaning ≡ reading (rows_of (found_of m))
taken-in app known words found m meaning reading same some read reads =
    let facts = rw (some, same) at read in
    reads.taken facts.0 ∙ ap reading (sym facts.1)

-- words of which none were made
pub refused-in : {X : Type 0} (app known : App) (words : List Text) (found : Option ArgMatches) (meaning : Option X) (reading : List Row → Option X)
    → app ≡ known → found ≡ None → IsReading app words found → Reads known words meaning reading → meaning ≡ None
refused-in app known words found meaning reading same none read reads = reads.refused (rw (none, same) at read)

-- the same, where what is read is what the words mean
pub read-taken : {X : Type 0} (app : App) (words : List Text) (reading : List Row → Option X) {found : Option ArgMatches} {m : ArgMatches} {meaning : Option X}
    → found ≡ Some m → IsReading app words found → Reads app words meaning reading → reading (rows_of (found_of m)) ≡ meaning
read-taken app words reading {found} {m} {meaning} some read reads = sym (taken-in app app words found m meaning reading refl some read reads)

pub read-refused : {X : Type 0} (app : App) (words : List Text) (reading : List Row → Option X) {found : Option ArgMatches} {meaning : Option X}
    → found ≡ None → IsReading app words found → Reads app words meaning reading → None ≡ meaning
read-refused app words reading {found} {meaning} none read reads = sym (refused-in app app words found meaning reading refl none read reads)

-- a command that is answered for what words mean by one definition is answered by another
pub means-if-ok : {E : Type 0} (r : Result (Option Command) E) (m n : Option Meaning) → m ≡ n
    → IfOk r (λ c. option_map meaning_of_command c ≡ m) → IfOk r (λ c. option_map meaning_of_command c ≡ n)
means-if-ok (Ok c) m n same e = e ∙ same
means-if-ok (Err e) m n same x = tt
