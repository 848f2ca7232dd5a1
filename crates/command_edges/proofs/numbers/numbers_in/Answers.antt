use Rattle.std.proofs.Common.{◌∙◌, ap, map}
use Rattle.std.specs.Rc.{rc_str_bytes}
use Rattle.clap.specs.Words.{app_of, is_simple_and_free}
use Rattle.command_edges.specs.Numbers.{numbers_app}
use Rattle.command_edges.proofs.Readings.{read-as}
use Rattle.command_edges.proofs.numbers.numbers_in.Goals as goal

pub matches_in-requires : goal.matches_in-requires
matches_in-requires c = ap is_simple_and_free c.in_ok-numbers_command.ensures ∙ c.requires

pub returns : goal.returns
returns c =
    read-as (app_of c.in_ok-numbers_command.field-0) (numbers_app c.args.name.now c.args.numbers.now) (map rc_str_bytes c.args.words.now) c.matches_in.result
    c.in_ok-numbers_command.ensures c.matches_in.ensures
