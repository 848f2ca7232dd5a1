use Rattle.command_edges.specs.Printing.{with_line}
use Rattle.command_edges.proofs.Prints.{line_some, untold}
use Rattle.command_edges.proofs.lines.print_line.Goals as goal

pub returns-in_err-write_done-clause-err : goal.returns-in_err-write_done-clause-err
returns-in_err-write_done-clause-err g c =
    untold c.from_residual.result (with_line c.args.text.now c.args.done.now) (g.K.Sink.sight c.args.out.now) c.from_residual.ensures.1
    (line_some c.args.text.now.items c.args.done.now)
