use Rattle.std.proofs.Common.{◌∙◌, ap, map, sym, drop}
use Rattle.std.specs.Rc.{rc_str_bytes}
use Rattle.clap.specs.Words.{app_of, is_simple_and_free}
use Rattle.command_edges.specs.Command.{fresh_of}
use Rattle.command_edges.specs.Clap.{fresh_app, fresh_in}
use Rattle.command_edges.proofs.FreshWords.{fresh-reads, simple-fresh}
use Rattle.command_edges.proofs.Readings.{refused-in, taken-in}
use Rattle.command_edges.proofs.fresh.read_fresh.Goals as goal

pub matches_in-requires : goal.matches_in-requires
matches_in-requires c = ap is_simple_and_free c.in_ok-fresh_command.ensures ∙ simple-fresh

pub returns-in-Some : goal.returns-in-Some
returns-in-Some c =
    let words = map rc_str_bytes c.args.words.now in
    c.fresh_in.ensures
    ∙ sym (taken-in (app_of c.in_ok-fresh_command.field-0) fresh_app words c.in_ok-matches.field-0 c.in-Some.matches (fresh_of (drop 1 words)) fresh_in
    c.in_ok-fresh_command.ensures c.in-Some.is c.in_ok-matches.ensures (fresh-reads words c.requires))

pub returns-in-None : goal.returns-in-None
returns-in-None c =
    let words = map rc_str_bytes c.args.words.now in
    sym (refused-in (app_of c.in_ok-fresh_command.field-0) fresh_app words c.in_ok-matches.field-0 (fresh_of (drop 1 words)) fresh_in
    c.in_ok-fresh_command.ensures c.in-None.is c.in_ok-matches.ensures (fresh-reads words c.requires))
