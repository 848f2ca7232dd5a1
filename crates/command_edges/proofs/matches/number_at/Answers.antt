use Rattle.std.proofs.Common.{◌∙◌, ap}
use Rattle.std.specs.Option.{option_and_then}
use Rattle.std.specs.Str.Parse.{ParsesUnsigned, ExplainsUnsignedError, HasUnsignedDigitsIfOk}
use Rattle.clap.specs.Words.{found_of, one_text}
use Rattle.clap.proofs.WalkLemmas.{one_text-rows}
use Rattle.command_edges.specs.Clap.{parsed_number}
use Rattle.command_edges.proofs.NumberWords.{number-read}
use Rattle.command_edges.proofs.matches.number_at.Goals as goal

pub returns : goal.returns
returns c =
    number-read (λ bs r. ParsesUnsigned 64 10 bs r × ExplainsUnsignedError 10 bs r × HasUnsignedDigitsIfOk bs r)
    (one_text (found_of c.args.matches.now) c.args.id.now) c.get_one.result (λ text x h. h.0) c.get_one.ensures.none c.get_one.ensures.value
    ∙ ap (option_and_then parsed_number) (one_text-rows (found_of c.args.matches.now) c.args.id.now)
