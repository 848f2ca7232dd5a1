use Rattle.std.proofs.Common.{◌≡◌, Option, Some, length, ap, ◌∙◌, subst}
use Rattle.dude_stream.specs.declared.print_fault.PrintFault.{PrintFault}
use Rattle.dude_stream.specs.declared.print_fault.PrintFault.TheVariants.{Sink}
use Rattle.run_workers.specs.Streamed.{HasStreamed}
use Rattle.run_threads.specs.Streamed.{is_whole}
use Rattle.run_threads.proofs.StreamedRun.{failed_before}
use Rattle.run_threads.proofs.rest_lines.print_behind.Goals as goal

pub returns-in-Some-Sink-clause-printed : goal.returns-in-Some-Sink-clause-printed
returns-in-Some-Sink-clause-printed g c = λ files s all h.
    let which : c.in-Some-Sink.field-0 ≡ Sink = rw c.in-Some-Sink.is at c.in-Some-Sink.field-0-is in
    let ran = c.args.ran in let printed = c.args.printing.printed.items in let t = g.K.Sink.sight c.args.out.now in
    failed_before c.law_of_streams.ensures.stopped (is_whole ran.end) files (length printed) ran.done.items printed ran.last s t all
    (subst (λ (o : Option PrintFault). HasStreamed (length printed) ran.done.items printed o s t) (c.in-Some-Sink.is ∙ ap Some which) h)
