use Rattle.std.proofs.Common.{◌∙◌}
use Rattle.command_edges.proofs.Arguments.{number-local, number-made}
use Rattle.command_edges.proofs.matches.number.Goals as goal

pub returns-clause-rule : goal.returns-clause-rule
returns-clause-rule c =
    let given = c.value_parser.ensures.given in
    number-made c.args.id.now c.args.low c.args.high c.new.result c.required.result c.value_parser.result given.0
    c.new.ensures.rule c.required.ensures c.value_parser.ensures.others given.1 (given.2 ∙ c.unsigned.ensures)

pub returns-clause-local : goal.returns-clause-local
returns-clause-local c =
    number-local c.new.result c.required.result c.value_parser.result c.new.ensures.optional.1 c.required.ensures c.value_parser.ensures.others
