use Rattle.std.proofs.Common.{◌∙◌, map}
use Rattle.std.specs.Rc.{rc_str_bytes}
use Rattle.command_edges.specs.Clap.{drive_app, drive_in}
use Rattle.command_edges.proofs.Readings.{read-refused, read-taken}
use Rattle.command_edges.proofs.ThreeNumbers.{drive-reads}
use Rattle.command_edges.proofs.drive.read_drive.Goals as goal

pub returns-in-Some : goal.returns-in-Some
returns-in-Some c = c.drive_in.ensures ∙ read-taken drive_app (map rc_str_bytes c.args.words.now) drive_in c.in-Some.is c.in_ok-matches.ensures (drive-reads _ c.requires)

pub returns-in-None : goal.returns-in-None
returns-in-None c = read-refused drive_app (map rc_str_bytes c.args.words.now) drive_in c.in-None.is c.in_ok-matches.ensures (drive-reads _ c.requires)
