use Rattle.std.proofs.Common.{◌<◌, ◌∙◌, [], length, map, refl, sym, ap, arith}
use Rattle.std.proofs.lemmas.List.{length-map}
use Rattle.std.proofs.lemmas.List.Elements.{All-weaker}
use Rattle.tatp_model.specs.declared.done.Done.{Done}
use Rattle.tatp_model.specs.OneThread.{indexed_request_of}
use Rattle.run_workers.specs.Streamed.{HasStreamed}
use Rattle.run_threads.specs.declared.printing.Printing.{Printing}
use Rattle.run_threads.specs.Begun.{begun_table}
use Rattle.run_threads.proofs.BegunRuns.{frames_are, ran_nothing, ran_over}
use Rattle.run_threads.proofs.Opened.{as_ensured, at_rest, start}
use Rattle.run_threads.proofs.StreamedRun.{inside_counted, none_is, ran_behind_lines, some_is, streamed_on, unprinted}
use Rattle.run_threads.proofs.streaming.streamed.Goals as goal

pub begin-requires-clause-rest : goal.begin-requires-clause-rest
begin-requires-clause-rest g c = at_rest c.args.opened c.args.run.now (length c.args.files.now) c.requires.opened c.requires.may.held

pub finish-ran-requires-clause-served : goal.finish-ran-requires-clause-served
finish-ran-requires-clause-served g c =
    let t = begun_table c.in-Ok.begun in
    (t.key, frames_are c.args.opened c.args.run.now (length c.args.files.now) c.requires.opened c.in-Ok.begun c.in-Ok.ensures.ok, c.serve_streaming-served.ensures.served)

pub print_behind-requires : goal.print_behind-requires
print_behind-requires g c =
    let o = c.args.opened in let run = c.args.run.now in let threads = length c.args.files.now in let opened = c.requires.opened in let held = c.requires.may.held in
    let files = map (λ f. f.items) c.args.files.now in let r = c.finish-ran.result in let b = c.in-Ok.begun in let t = begun_table b in let begun = c.in-Ok.ensures.ok in let served = c.serve_streaming-served in
    let p = c.in-Some.printing in let s = g.K.Sink.sight c.args.out.now in let u = g.K.Sink.sight served.new.out in
    let ran = ran_over o run threads opened b begun held files r.done.items r.end r.last (g.M.Medium.sight r.medium) (c.finish-ran.ensures.ran t.key (frames_are o run threads opened b begun) served.ensures.served) in
    let h = some_is (λ (x : Printing). HasStreamed threads served.result.0.done.items x.printed.items x.stopped s u) served.result.1 p c.in-Some.is served.ensures.some in
    let inside = inside_counted files threads r.done.items served.result.0.done.items p.printed.items p.stopped s u (length-map c.args.files.now (λ f. f.items)) ran.numbers.held h in
    All-weaker (λ (d : Done). d.file < length p.printed.items) (λ (d : Done). d.file < p.printed.len) (λ d less. omega (arith, p.printed.ok.0)) r.done.items inside

pub returns-in-Some : goal.returns-in-Some
returns-in-Some g c =
    let o = c.args.opened in let run = c.args.run.now in let threads = length c.args.files.now in let opened = c.requires.opened in let held = c.requires.may.held in
    let files = map (λ f. f.items) c.args.files.now in let r = c.finish-ran.result in let b = c.in-Ok.begun in let t = begun_table b in let begun = c.in-Ok.ensures.ok in let served = c.serve_streaming-served in
    let p = c.in-Some.printing in let s = g.K.Sink.sight c.args.out.now in let u = g.K.Sink.sight served.new.out in let sight = g.M.Medium.sight in let new = c.print_behind.result.ran in
    let ran = ran_over o run threads opened b begun held files r.done.items r.end r.last (sight r.medium) (c.finish-ran.ensures.ran t.key (frames_are o run threads opened b begun) served.ensures.served) in
    let h = some_is (λ (x : Printing). HasStreamed threads served.result.0.done.items x.printed.items x.stopped s u) served.result.1 p c.in-Some.is served.ensures.some in
    let last = ran_behind_lines sight (start o run threads opened held) files r new c.print_behind.ensures.same ran in
    record {
      runs = as_ensured o run threads opened held new last;
      printed = c.print_behind.ensures.printed ran.numbers.held.0 s ran.numbers.held.2 (streamed_on threads served.result.0.done.items r.done.items p.printed.items p.stopped s u h c.finish-ran.ensures.first);
    }

pub returns-in-None : goal.returns-in-None
returns-in-None g c =
    let o = c.args.opened in let run = c.args.run.now in let threads = length c.args.files.now in let opened = c.requires.opened in let held = c.requires.may.held in
    let files = map (λ f. f.items) c.args.files.now in let r = c.finish-ran.result in let b = c.in-Ok.begun in let t = begun_table b in let begun = c.in-Ok.ensures.ok in let served = c.serve_streaming-served in
    let s = g.K.Sink.sight c.args.out.now in let u = g.K.Sink.sight served.new.out in let sight = g.M.Medium.sight in
    let ran = ran_over o run threads opened b begun held files r.done.items r.end r.last (sight r.medium) (c.finish-ran.ensures.ran t.key (frames_are o run threads opened b begun) served.ensures.served) in
    let none = none_is served.result.1 _ c.in-None.is served.ensures.none in
    record {
      runs = as_ensured o run threads opened held r ran;
      printed = unprinted c.law_of_streams.ensures.stopped r.end (λ whole. c.finish-ran.ensures.memory none.0 whole) ran.numbers.held.0 r.done.items r.last s u ran.numbers.held.2 none.1;
    }

pub returns-in-Err : goal.returns-in-Err
returns-in-Err g c =
    let o = c.args.opened in let run = c.args.run.now in let threads = length c.args.files.now in let opened = c.requires.opened in let held = c.requires.may.held in
    let files = map (λ f. f.items) c.args.files.now in let r = c.in-Err.ran in let s = g.K.Sink.sight c.args.out.now in
    let ran = ran_nothing o run threads opened held files r c.in-Err.ensures.err in
    record {
      runs = as_ensured o run threads opened held r ran;
      printed = unprinted c.law_of_streams.ensures.stopped r.end (λ whole. let e = sym c.in-Err.ensures.err.end ∙ whole in let no : ⊥ = cc in no) [] r.done.items r.last s s (ap (map indexed_request_of) c.in-Err.ensures.err.none) refl;
    }
