use Rattle.std.proofs.Common.{◌+◌, ◌++◌, drop, refl}
use Rattle.std.specs.List.{flat_map}
use Rattle.tatp_text.specs.Output.{output_line, last_line}
use Rattle.command_edges.proofs.Prints.{printed_more, output_is, later_stops, err_map, last_stops}
use Rattle.command_edges.proofs.lines.print_lines.Goals as goal

pub loop-entry-preserved : goal.loop-entry-preserved
loop-entry-preserved g c = printed_more c.args.done.now c.loop-entry.entry-index _ c.loop-entry-test.true refl c.loop-entry.invariant c.in_default.ensures.ok

pub returns-in-Err-clause-err : goal.returns-in-Err-clause-err
returns-in-Err-clause-err g c =
    later_stops _ (flat_map output_line (drop (c.loop-entry.entry-index + 1) c.args.done.now) ++ last_line c.args.last) _
    (output_is c.args.done.now c.loop-entry.entry-index _ c.args.last c.loop-entry-test.true refl c.loop-entry.invariant) c.loop-entry.invariant.took c.in-Err.ensures.err

pub returns-clause-err : goal.returns-clause-err
returns-clause-err g c =
    err_map c.print_last.result (λ fault h. last_stops c.args.done.now c.loop-entry.entry-index c.args.last c.loop-entry-test.false c.loop-entry.invariant h) c.print_last.ensures.err
