use Rattle.std.proofs.Common.{map, refl}
use Rattle.std.specs.Rc.{rc_str_bytes}
use Rattle.std.proofs.lemmas.List.{length-map}
use Rattle.dude_program.specs.Run.{meaning_of_run}
use Rattle.dude_program.proofs.ThreadedRuns.{carries_out, ends_at_end, ends_meanwhile, may_run}
use Rattle.dude_program.proofs.ExtraFile.{may_run_lists, runs_over_lists}
use Rattle.dude_program.proofs.Works.{ran_on_threads, streamed_so}
use Rattle.dude_program.proofs.run.run.Goals as goal

pub threaded-ran-requires-clause-may : goal.threaded-ran-requires-clause-may
threaded-ran-requires-clause-may g c κs inside =
    rw c.deref.ensures.value (may_run_lists c.in-Ok.field-0.opened c.over-run.result c.in-Ok.field-0.lists.items c.with_turner-requests.result.items c.with_turner-requests.ensures
    (may_run c.args.options c.in-Ok.ensures.prepared c.over-run.result c.over-run.ensures.within (rw (length-map c.args.names.now rc_str_bytes) c.requires.some)))

pub streamed-streamed-requires-clause-may : goal.streamed-streamed-requires-clause-may
streamed-streamed-requires-clause-may g c κs inside =
    rw c.deref-in-Meanwhile.ensures.value (may_run c.args.options c.in-Ok.ensures.prepared c.over-run.result c.over-run.ensures.within (rw (length-map c.args.names.now rc_str_bytes) c.requires.some))

pub returns-in-AtEnd : goal.returns-in-AtEnd
returns-in-AtEnd g c = record {
  ends =
      let ready = c.in-Ok.ensures.prepared in
      let worked = c.from_ran.ensures in
      let runs = runs_over_lists c.in-Ok.field-0.opened c.over-run.result c.in-Ok.field-0.opened.sizes.rings c.in-Ok.field-0.lists.items c.deref.result.now c.threaded-ran.result (rw c.deref.ensures.value c.with_turner-requests.ensures) c.threaded-ran.ensures in
      let ran = ran_on_threads c.in-Ok.field-0.opened ready.opened c.over-run.result c.in-Ok.field-0.lists.items c.threaded-ran.result runs c.from_ran.result worked.done worked.medium worked.last worked.fault in
      rw (c.end_with_lines.ensures.work.medium, c.end_with_lines.ensures.work.done)
      (ends_at_end c.args.options ready c.over-run.result c.over-run.ensures.frames refl c.from_ran.result ran c.in-AtEnd.is c.end_with_lines.result.fault c.end_with_lines.ensures.printed);
}

pub returns-in-Meanwhile : goal.returns-in-Meanwhile
returns-in-Meanwhile g c = record {
  ends =
      let ready = c.in-Ok.ensures.prepared in
      let run = c.streamed-streamed.result in
      let says = c.streamed-streamed.ensures in
      let is = c.from_ran-in-Meanwhile.ensures in
      rw (c.end_streamed.ensures.work.medium, c.end_streamed.ensures.work.done, c.end_streamed.ensures.fault)
      (ends_meanwhile c.args.options ready c.over-run.result c.over-run.ensures.frames c.deref-in-Meanwhile.ensures.value c.from_ran-in-Meanwhile.result
      (ran_on_threads c.in-Ok.field-0.opened ready.opened c.over-run.result c.deref-in-Meanwhile.result.now run.ran says.runs c.from_ran-in-Meanwhile.result is.done is.medium is.last is.fault)
      c.in-Meanwhile.is run.sink_failed (streamed_so run.sink_failed (g.K.Sink.sight c.args.out.now) (g.K.Sink.sight c.streamed-streamed.new.out) run.ran c.from_ran-in-Meanwhile.result is.done is.last is.fault says.printed));
}

pub returns-in-Err : goal.returns-in-Err
returns-in-Err g c = record {
  ends =
      let names = map rc_str_bytes c.args.names.now in
      c.in-Err.ensures.ends (meaning_of_run c.args.time c.args.options names) (g.K.Sink.sight c.args.out.now) (carries_out c.args.time c.args.options names);
}
