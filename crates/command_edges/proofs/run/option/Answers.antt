use Rattle.std.proofs.Common.{◌∙◌, refl}
use Rattle.command_edges.proofs.Arguments.{option-local, option-made}
use Rattle.command_edges.proofs.run.option.Goals as goal

pub returns-clause-rule : goal.returns-clause-rule
returns-clause-rule c =
    let given = c.value_parser.ensures.given in
    option-made c.args.id.now c.args.low c.args.high c.args.id c.new.result c.long.result c.value_parser.result given.0
    c.new.ensures.rule refl c.long.ensures c.value_parser.ensures.others given.1 (given.2 ∙ c.unsigned.ensures)

pub returns-clause-local : goal.returns-clause-local
returns-clause-local c =
    option-local c.args.id c.new.result c.long.result c.value_parser.result c.new.ensures.optional.1 c.long.ensures c.value_parser.ensures.others
