use Rattle.command_edges.proofs.Arguments.{added, added-if-ok}
use Rattle.command_edges.proofs.run.run_command.Goals as goal

pub returns : goal.returns
returns c =
    let one = added c.new.result c.option.result c.in_ok-arg.field-0 _ _
    c.new.ensures.app c.option.ensures.local c.option.ensures.rule c.in_ok-arg.ensures in
    let two = added c.in_ok-arg.field-0 c.option-2.result c.in_ok-arg-2.field-0 _ _
    one c.option-2.ensures.local c.option-2.ensures.rule c.in_ok-arg-2.ensures in
    added-if-ok c.in_ok-arg-2.field-0 c.files.result c.arg-3.result _ _
    two c.files.ensures.local c.files.ensures.rule c.arg-3.ensures
