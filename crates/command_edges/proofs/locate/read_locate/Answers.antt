use Rattle.std.proofs.Common.{◌∙◌, map}
use Rattle.std.specs.Rc.{rc_str_bytes}
use Rattle.command_edges.specs.Clap.{locate_app, locate_in}
use Rattle.command_edges.proofs.Readings.{read-refused, read-taken}
use Rattle.command_edges.proofs.ThreeNumbers.{locate-reads}
use Rattle.command_edges.proofs.locate.read_locate.Goals as goal

pub returns-in-Some : goal.returns-in-Some
returns-in-Some c = c.locate_in.ensures ∙ read-taken locate_app (map rc_str_bytes c.args.words.now) locate_in c.in-Some.is c.in_ok-matches.ensures (locate-reads _ c.requires)

pub returns-in-None : goal.returns-in-None
returns-in-None c = read-refused locate_app (map rc_str_bytes c.args.words.now) locate_in c.in-None.is c.in_ok-matches.ensures (locate-reads _ c.requires)
