use Rattle.std.proofs.Common.{sym}
use Rattle.std.specs.Rc.{rc_str_bytes}
use Rattle.command_edges.proofs.Names.{first-named}
use Rattle.command_edges.proofs.Readings.{means-if-ok}
use Rattle.command_edges.proofs.command.command_of.Goals as goal

pub returns-clause-meaning : goal.returns-clause-meaning
returns-clause-meaning c =
    let item = c.in-Some.ensures.item in
    means-if-ok c.command_named.result _ _
    (first-named rc_str_bytes c.args.words.now c.in-Some.name.now c.as_str.result.now item.3.0 item.1 (sym c.as_str.ensures.value))
    c.command_named.ensures.meaning
