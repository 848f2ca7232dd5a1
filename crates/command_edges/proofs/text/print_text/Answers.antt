use Rattle.std.proofs.Common.{refl}
use Rattle.command_edges.proofs.Prints.{part_stops}
use Rattle.command_edges.proofs.text.print_text.Goals as goal

pub returns-in-Err-clause-err : goal.returns-in-Err-clause-err
returns-in-Err-clause-err g c = (part_stops c.args.text.now c.in-Err.ensures.writes, refl)
