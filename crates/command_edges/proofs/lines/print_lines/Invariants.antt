use Rattle.command_edges.proofs.Prints.{Printed}
use Rattle.command_edges.proofs.lines.print_lines.Given as goal

-- the lines so far were taken or are held back
abbrev pub invariant-loop-entry : goal.invariant-loop-entry
invariant-loop-entry g l = Printed l.done l.entry-index l.text.items (g.K.Sink.sight l.initial.out) (g.K.Sink.sight l.out)
