use Rattle.std.proofs.Common.{None, map}
use Rattle.std.specs.Rc.{rc_str_bytes}
use Rattle.tatp_model.specs.Files.{requests_in}
use Rattle.dude_program.proofs.EachCommand.{held_as_opened, is_opening_of, opening_of}
use Rattle.dude_program.proofs.FileCommands.{ends_refused, ends_unread, files_read, of_command}
use Rattle.dude_program.proofs.Stops.{ends_at_open, unless_opened}
use Rattle.dude_program.proofs.prepared.prepare.Goals as goal

pub returns-in-Err-clause-ends : goal.returns-in-Err-clause-ends
returns-in-Err-clause-ends g c own sink is =
    let command = of_command own c.args.frames (map rc_str_bytes c.args.names.now) is in
    rw (c.refused.ensures.medium, c.refused.ensures.done, c.refused.ensures.fault)
    (ends_unread command c.requires.settled c.in-Err.fault c.in-Err.ensures.reads c.in-Err.ensures.cause c.in-Err.ensures.missing)

pub returns-in-Err-open_and_announce-clause-ends : goal.returns-in-Err-open_and_announce-clause-ends
returns-in-Err-open_and_announce-clause-ends g c own sink is =
    let command = of_command own c.args.frames (map rc_str_bytes c.args.names.now) is in
    let stop = c.in-Err-open_and_announce in
    rw (c.refused-in-Err-open_and_announce.ensures.medium, c.refused-in-Err-open_and_announce.ensures.done, c.refused-in-Err-open_and_announce.ensures.fault)
    (ends_at_open (command.opener _) (files_read command (requests_in c.in-Ok.lists.items) c.in-Ok.ensures.read c.in-Ok.ensures.reads)
    stop.ensures.prefix (unless_opened (command.opener _) command.writes stop.ensures.only_read) stop.fault stop.ensures.fault)

pub returns-in-Ok-check_run-clause-prepared : goal.returns-in-Ok-check_run-clause-prepared
returns-in-Ok-check_run-clause-prepared g c =
    let files = c.in-Ok.ensures in
    let o = c.in-Ok-open_and_announce.opened in
    let image = c.in-Ok-open_and_announce.ensures in
    let checked = rw c.deref.ensures.value at c.in-Ok-check_run.ensures in
    let held = held_as_opened o image.opened (g.M.Medium.sight c.args.medium) (image.is_open (opening_of o image.opened) (is_opening_of o image.opened)).1 in
    record { reads = files.reads; read = files.read; in_range = files.in_range; opened = image.opened; is_open = image.is_open; recovered = image.recovered; held = held; rings = checked.rings; allows = checked.frames; numbers = checked.numbers }

pub returns-in-Err-check_run-clause-ends : goal.returns-in-Err-check_run-clause-ends
returns-in-Err-check_run-clause-ends g c own sink is =
    let names = map rc_str_bytes c.args.names.now in
    let image = c.in-Ok-open_and_announce.ensures in
    let refuses = rw c.deref.ensures.value at c.in-Err-check_run.ensures.err in
    rw (c.refused-in-Err-check_run.ensures.medium, c.refused-in-Err-check_run.ensures.done, c.refused-in-Err-check_run.ensures.fault, c.into_medium.ensures)
    (ends_refused (of_command own c.args.frames names is) g.M.Medium.sight c.args.medium c.in-Ok-open_and_announce.opened image.opened image.is_open c.in-Ok.lists.items c.in-Ok.ensures.read c.in-Ok.ensures.reads
    c.in-Err-check_run.fault (refuses None names))
