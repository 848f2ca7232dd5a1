use Rattle.std.proofs.Common.{◌∙◌, map}
use Rattle.std.specs.Rc.{rc_str_bytes}
use Rattle.command_edges.specs.Clap.{format_app, format_in}
use Rattle.command_edges.proofs.FormatWords.{format-reads}
use Rattle.command_edges.proofs.Readings.{read-refused, read-taken}
use Rattle.command_edges.proofs.format.read_format.Goals as goal

pub returns-in-Some : goal.returns-in-Some
returns-in-Some c = c.format_in.ensures ∙ read-taken format_app (map rc_str_bytes c.args.words.now) (format_in c.args.indexed) c.in-Some.is c.in_ok-matches.ensures (format-reads c.args.indexed _ c.requires)

pub returns-in-None : goal.returns-in-None
returns-in-None c = read-refused format_app (map rc_str_bytes c.args.words.now) (format_in c.args.indexed) c.in-None.is c.in_ok-matches.ensures (format-reads c.args.indexed _ c.requires)
