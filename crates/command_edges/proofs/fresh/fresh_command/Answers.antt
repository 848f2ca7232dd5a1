use Rattle.command_edges.proofs.Arguments.{added, added-if-ok}
use Rattle.command_edges.proofs.fresh.fresh_command.Goals as goal

pub returns : goal.returns
returns c =
    let one = added c.new.result c.number.result c.in_ok-arg.field-0 _ _
    c.new.ensures.app c.number.ensures.local c.number.ensures.rule c.in_ok-arg.ensures in
    added-if-ok c.in_ok-arg.field-0 c.file.result c.arg-2.result _ _
    one c.file.ensures.local c.file.ensures.rule c.arg-2.ensures
