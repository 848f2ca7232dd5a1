use Rattle.command_edges.proofs.Arguments.{all-added, number-added}
use Rattle.command_edges.proofs.numbers.numbers_command.Goals as goal

pub loop-wanted-init : goal.loop-wanted-init
loop-wanted-init c = c.new-command.ensures.app

pub loop-wanted-preserved : goal.loop-wanted-preserved
loop-wanted-preserved c =
    number-added c.args.name.now c.args.numbers.now c.loop-wanted.wanted-index _ c.loop-wanted.command c.number.result c.in_ok-command.command
    c.loop-wanted-test.true c.loop-wanted.invariant c.number.ensures.local c.number.ensures.rule c.in_ok-command.ensures

pub returns : goal.returns
returns c =
    all-added c.args.name.now c.args.numbers.now c.loop-wanted.wanted-index c.loop-wanted.command c.loop-wanted-test.false c.loop-wanted.invariant
