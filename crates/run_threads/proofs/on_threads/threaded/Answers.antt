use Rattle.std.proofs.Common.{length, map}
use Rattle.run_threads.specs.Begun.{begun_table}
use Rattle.run_threads.proofs.BegunRuns.{frames_are, ran_nothing, ran_over}
use Rattle.run_threads.proofs.Opened.{as_ensured, at_rest}
use Rattle.run_threads.proofs.on_threads.threaded.Goals as goal

pub begin-requires-clause-rest : goal.begin-requires-clause-rest
begin-requires-clause-rest g c = at_rest c.args.opened c.args.run.now (length c.args.files.now) c.requires.opened c.requires.may.held

pub finish-requires-clause-served : goal.finish-requires-clause-served
finish-requires-clause-served g c =
    let t = begun_table c.in-Ok.begun in
    (t.key, frames_are c.args.opened c.args.run.now (length c.args.files.now) c.requires.opened c.in-Ok.begun c.in-Ok.ensures.ok, c.serve-served.ensures)

pub returns-in-Ok : goal.returns-in-Ok
returns-in-Ok g c =
    let o = c.args.opened in let run = c.args.run.now in let threads = length c.args.files.now in let opened = c.requires.opened in let held = c.requires.may.held in
    let files = map (λ f. f.items) c.args.files.now in let r = c.finish.result in let b = c.in-Ok.begun in let t = begun_table b in let u = g.M.Medium.sight r.medium in let begun = c.in-Ok.ensures.ok in
    let ran = ran_over o run threads opened b begun held files r.done.items r.end r.last u (c.finish.ensures.ran t.key (frames_are o run threads opened b begun) c.serve-served.ensures) in
    as_ensured o run threads opened held r ran

pub returns-in-Err : goal.returns-in-Err
returns-in-Err g c =
    let o = c.args.opened in let run = c.args.run.now in let threads = length c.args.files.now in let opened = c.requires.opened in let held = c.requires.may.held in
    let files = map (λ f. f.items) c.args.files.now in let r = c.in-Err.ran in
    let ran = ran_nothing o run threads opened held files r c.in-Err.ensures.err in
    as_ensured o run threads opened held r ran
