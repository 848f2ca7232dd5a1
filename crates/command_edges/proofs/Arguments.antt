-- The rules of arguments that are made one step after another.
use Rattle.std.proofs.Common.{ℕ, ◌≡◌, ◌∙◌, ◌+◌, ◌<◌, ◌≤◌, true, false, Some, Bor, ap, sym, List, length, get_or, take}
use Rattle.std.proofs.lemmas.List.{take_all}
use Rattle.std.proofs.lemmas.List.Sums.{fold_more}
use Rattle.clap.specs.Walk.{Rule, Text}
use Rattle.std.specs.Prelude.{IfOk, Result, Ok, Err}
use Rattle.clap.specs.Simple.{App, new_app, new_rule}
use Rattle.clap.specs.Words.{AddsArg, app_of, rule_of, with_rule}
use Rattle.clap.specs.declared.builder.arg.Arg.{Arg}
use Rattle.clap.specs.declared.builder.command.Command.{Command}
use Rattle.clap.specs.declared.builder.value_parser.ValueParser.{ValueParser}
use Rattle.clap.specs.declared.builder.value_parser.ValueParser.TheVariants as vp
use Rattle.command_edges.specs.Clap.{number_rule, option_rule}
use Rattle.command_edges.specs.Numbers.{numbers_app, with_number}
use Rattle.command_edges.specs.declared.numbers.Number.{Number}

-- an argument that is given a parser
parsing : (made given : Arg) (parser known : ValueParser)
    → given ≡ record made { value_parser = given.value_parser } → given.value_parser ≡ Some parser → parser ≡ known
    → given ≡ record made { value_parser = Some known }
parsing made given parser known others some is =
    others ∙ ap {B = Arg} (λ p. record made { value_parser = p }) (some ∙ ap Some is)

-- a number's
pub number-made : (id : Text) (low high : ℕ) (new needed given : Arg) (parser : ValueParser)
    → rule_of new ≡ new_rule id → needed ≡ record new { required = true }
    → given ≡ record needed { value_parser = given.value_parser } → given.value_parser ≡ Some parser → parser ≡ vp.Unsigned low high
    → rule_of given ≡ number_rule id low high
number-made id low high new needed given parser rule needs others some is =
    ap rule_of (parsing needed given parser (vp.Unsigned low high) others some is
    ∙ ap {B = Arg} (λ (arg : Arg). record arg { value_parser = Some (vp.Unsigned low high) }) needs)
    ∙ ap {B = Rule} (λ (r : Rule). record r { parser = Some (vp.Unsigned low high); required = true }) rule

-- it belongs to its command alone
pub number-local : (new needed given : Arg) → new.global ≡ false → needed ≡ record new { required = true }
    → given ≡ record needed { value_parser = given.value_parser } → given.global ≡ false
number-local new needed given local needs others =
    ap (λ (arg : Arg). arg.global) others ∙ ap (λ (arg : Arg). arg.global) needs ∙ local

-- an option's
pub option-made : (id : Text) (low high : ℕ) (name : Bor (List ℕ)) (new long given : Arg) (parser : ValueParser)
    → rule_of new ≡ new_rule id → name.now ≡ id → long ≡ record new { long = Some name }
    → given ≡ record long { value_parser = given.value_parser } → given.value_parser ≡ Some parser → parser ≡ vp.Unsigned low high
    → rule_of given ≡ option_rule id low high
option-made id low high name new long given parser rule is-id longs others some is =
    ap rule_of (parsing long given parser (vp.Unsigned low high) others some is
    ∙ ap {B = Arg} (λ (arg : Arg). record arg { value_parser = Some (vp.Unsigned low high) }) longs)
    ∙ ap {B = Rule} (λ (r : Rule). record r { long = Some name.now; parser = Some (vp.Unsigned low high) }) rule
    ∙ ap {B = Rule} (λ (text : Text). record (new_rule id) { long = Some text; parser = Some (vp.Unsigned low high) }) is-id

pub option-local : (name : Bor (List ℕ)) (new long given : Arg) → new.global ≡ false → long ≡ record new { long = Some name }
    → given ≡ record long { value_parser = given.value_parser } → given.global ≡ false
option-local name new long given local longs others =
    ap (λ (arg : Arg). arg.global) others ∙ ap (λ (arg : Arg). arg.global) longs ∙ local

-- a command with one argument more
pub added : (old : Command) (arg : Arg) (new : Command) (app : App) (rule : Rule)
    → app_of old ≡ app → arg.global ≡ false → rule_of arg ≡ rule → AddsArg old arg new → app_of new ≡ with_rule app rule
added old arg new app rule was local made adds =
    adds.shape local ∙ ap {B = App} (λ (a : App). with_rule a (rule_of arg)) was ∙ ap {B = App} (with_rule app) made

pub added-if-ok : {E : Type 0} (old : Command) (arg : Arg) (new : Result Command E) (app : App) (rule : Rule)
    → app_of old ≡ app → arg.global ≡ false → rule_of arg ≡ rule → IfOk new (λ command. AddsArg old arg command) → IfOk new (λ command. app_of command ≡ with_rule app rule)
added-if-ok old arg (Ok new) app rule was local made adds = added old arg new app rule was local made adds
added-if-ok old arg (Err error) app rule was local made adds = tt

-- a command with one number more
pub number-added : (name : Text) (numbers : List Number) (i : ℕ) (d : Number) (old : Command) (arg : Arg) (new : Command)
    → i < length numbers → app_of old ≡ numbers_app name (take i numbers) → arg.global ≡ false
    → rule_of arg ≡ number_rule (get_or numbers i d).id.now (get_or numbers i d).low (get_or numbers i d).high
    → AddsArg old arg new → app_of new ≡ numbers_app name (take (i + 1) numbers)
number-added name numbers i d old arg new inside was local made adds =
    added old arg new _ _ was local made adds ∙ sym (fold_more with_number (new_app name) numbers i d inside)

pub all-added : (name : Text) (numbers : List Number) (i : ℕ) (command : Command) → length numbers ≤ i
    → app_of command ≡ numbers_app name (take i numbers) → app_of command ≡ numbers_app name numbers
all-added name numbers i command end is = is ∙ ap (numbers_app name) (take_all i numbers end)
