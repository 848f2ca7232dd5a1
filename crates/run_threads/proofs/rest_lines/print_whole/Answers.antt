use Rattle.std.proofs.Common.{false, List, length, sym, subst}
use Rattle.std.specs.Prelude.{slice_index}
use Rattle.tatp_model.specs.declared.done.Done.{Done}
use Rattle.dude_io.specs.Sink.{Took}
use Rattle.dude_stream.specs.Streams.{StopsIn, Streams, rest_text}
use Rattle.dude_engine.specs.declared.ran.RanEnd.{RanEnd}
use Rattle.run_threads.specs.Streamed.{is_whole}
use Rattle.run_threads.proofs.StreamedRun.{all_printed, failed_by, failed_in_rest, short_by, stopped_in_rest}
use Rattle.run_threads.proofs.rest_lines.print_whole.Goals as goal

pub returns-in-Ok-clause-printed : goal.returns-in-Ok-clause-printed
returns-in-Ok-clause-printed g c = λ files s all h.
    let ran = c.args.ran in let printed = c.args.printed.now in let t = g.K.Sink.sight c.args.out.now in let u = g.K.Sink.sight c.print_rest.new.out in
    let took = subst (λ (l : List Done). Took (rest_text (slice_index printed) l ran.last) t u) c.deref.ensures.value c.in-Ok.ensures.ok in
    subst (λ (e : RanEnd). Streams (is_whole e) false ran.done.items ran.last s u) (sym c.requires.whole)
    (all_printed files (length printed) ran.done.items printed ran.last s t u all h c.requires.inside c.law_of_streams.ensures.whole took)

pub returns-in-Err-Sink-clause-printed : goal.returns-in-Err-Sink-clause-printed
returns-in-Err-Sink-clause-printed g c = λ files s all h.
    let ran = c.args.ran in let printed = c.args.printed.now in let t = g.K.Sink.sight c.args.out.now in let u = g.K.Sink.sight c.print_rest.new.out in
    let stops = subst (λ (l : List Done). StopsIn c.in-Err-Sink.field-0 (rest_text (slice_index printed) l ran.last) t u) c.deref.ensures.value c.in-Err-Sink.ensures.err in
    failed_in_rest files (length printed) ran.done.items printed ran.last s t u all h c.requires.inside c.law_of_streams.ensures.stopped_in_the_rest
    (failed_by c.in-Err-Sink.field-0 (rest_text (slice_index printed) ran.done.items ran.last) t u c.in-Err-Sink.field-0-is stops) (is_whole ran.end)

pub returns-clause-printed : goal.returns-clause-printed
returns-clause-printed g c = λ files s all h.
    let ran = c.args.ran in let printed = c.args.printed.now in let t = g.K.Sink.sight c.args.out.now in let u = g.K.Sink.sight c.print_rest.new.out in
    let stops = subst (λ (l : List Done). StopsIn c.in-Err-NoMemory.field-0 (rest_text (slice_index printed) l ran.last) t u) c.deref.ensures.value c.in-Err-NoMemory.ensures.err in
    stopped_in_rest files (length printed) ran.done.items printed ran.last s t u all h c.requires.inside c.law_of_streams.ensures.stopped_in_the_rest
    (short_by c.in-Err-NoMemory.field-0 (rest_text (slice_index printed) ran.done.items ran.last) t u c.in-Err-NoMemory.field-0-is stops)
