use Rattle.std.proofs.Common.{map, refl, ap}
use Rattle.back_store.specs.BackView.{medium_of, state_of}
use Rattle.dude_engine.specs.declared.ran.RanEnd.TheVariants.{Device, NoMemory, Whole}
use Rattle.run_threads.specs.Starts.{start_of}
use Rattle.run_threads.proofs.Finishing.{ran_same}
use Rattle.run_threads.proofs.RunEnded.{cut_off, no_fault, no_memory, set_aside, whole}
use Rattle.run_threads.proofs.Standing.{none_behind}
use Rattle.run_threads.proofs.ending.finish.Goals as goal

pub run_rests-requires-clause-aside : goal.run_rests-requires-clause-aside
run_rests-requires-clause-aside g c =
    let sight = g.M.Medium.sight in let files = map (λ f. f.items) c.args.files.now in let served = c.args.served in let new = c.persist_rest.new.closed in let w = c.requires.served in
    let ended = c.in-Ok.ensures.ok w.0 w.2.view w.2.closed in
    (w.0, set_aside sight w.0 c.args.lay files served w.2 new.back ended new c.persist_rest.ensures.keeps refl c.args.frames w.1 c.in-SetAside.is)

pub unreachable-requires : goal.unreachable-requires
unreachable-requires g c =
    let sight = g.M.Medium.sight in let files = map (λ f. f.items) c.args.files.now in let new = c.persist_rest.new.closed in let w = c.requires.served in
    no_fault sight w.0 c.args.lay files c.args.served w.2 new.back (c.in-Ok.ensures.ok w.0 w.2.view w.2.closed) c.in-Device.is

pub returns-in-Whole-clause-ran : goal.returns-in-Whole-clause-ran
returns-in-Whole-clause-ran g c =
    let sight = g.M.Medium.sight in let files = map (λ f. f.items) c.args.files.now in let served = c.args.served in let b = c.persist_rest.new.closed.back in let r = c.end_with.result in let e = c.end_with.ensures in
    λ o frames h.
    ran_same (start_of sight o c.args.lay) files served.done.items r.done.items Whole r.end (state_of b).log.durable r.last (sight (medium_of b)) (sight r.medium) e.done e.end e.last (ap sight e.medium)
    (whole sight o c.args.lay files served h b (c.in-Ok.ensures.ok o h.view h.closed) (c.in-Ok.ensures.told o h.view h.closed) c.in-Whole.is)

pub returns-in-NoMemory-clause-ran : goal.returns-in-NoMemory-clause-ran
returns-in-NoMemory-clause-ran g c =
    let sight = g.M.Medium.sight in let files = map (λ f. f.items) c.args.files.now in let served = c.args.served in let b = c.persist_rest.new.closed.back in let r = c.end_with-in-NoMemory.result in let e = c.end_with-in-NoMemory.ensures in
    λ o frames h.
    ran_same (start_of sight o c.args.lay) files served.done.items r.done.items NoMemory r.end (state_of b).log.durable r.last (sight (medium_of b)) (sight r.medium) e.done e.end e.last (ap sight e.medium)
    (no_memory sight o c.args.lay files served h b (c.in-Ok.ensures.ok o h.view h.closed) (c.in-Ok.ensures.told o h.view h.closed))

pub returns-in-SetAside-clause-ran : goal.returns-in-SetAside-clause-ran
returns-in-SetAside-clause-ran g c =
    let sight = g.M.Medium.sight in let files = map (λ f. f.items) c.args.files.now in let new = c.persist_rest.new.closed in
    λ o frames h.
    c.run_rests.ensures.ran o
    (set_aside sight o c.args.lay files c.args.served h new.back (c.in-Ok.ensures.ok o h.view h.closed) new c.persist_rest.ensures.keeps refl c.args.frames frames c.in-SetAside.is)

pub returns-in-Err-clause-ran : goal.returns-in-Err-clause-ran
returns-in-Err-clause-ran g c =
    let sight = g.M.Medium.sight in let files = map (λ f. f.items) c.args.files.now in let served = c.args.served in let b = c.persist_rest.new.closed.back in let r = c.end_with-in-Err.result in let e = c.end_with-in-Err.ensures in
    λ o frames h.
    ran_same (start_of sight o c.args.lay) files served.done.items r.done.items Device r.end (state_of b).log.durable r.last (sight (medium_of b)) (sight r.medium) e.done e.end e.last (ap sight e.medium)
    (cut_off sight o c.args.lay files served h b (c.in-Err.ensures.err o h.view h.closed))

pub returns-in-Whole-clause-first : goal.returns-in-Whole-clause-first
returns-in-Whole-clause-first g c = none_behind c.args.served.done.items c.end_with.result.done.items c.end_with.ensures.done

pub returns-in-NoMemory-clause-first : goal.returns-in-NoMemory-clause-first
returns-in-NoMemory-clause-first g c = none_behind c.args.served.done.items c.end_with-in-NoMemory.result.done.items c.end_with-in-NoMemory.ensures.done

pub returns-in-Err-clause-first : goal.returns-in-Err-clause-first
returns-in-Err-clause-first g c = none_behind c.args.served.done.items c.end_with-in-Err.result.done.items c.end_with-in-Err.ensures.done

pub returns-in-Whole-clause-memory : goal.returns-in-Whole-clause-memory
returns-in-Whole-clause-memory g c = λ none. absurd (let e = c.in-Whole.is in let no : ⊥ = cc in no)

pub returns-in-NoMemory-clause-memory : goal.returns-in-NoMemory-clause-memory
returns-in-NoMemory-clause-memory g c = λ none whole. let e = c.end_with-in-NoMemory.ensures.end in let no : ⊥ = cc in no

pub returns-in-SetAside-clause-memory : goal.returns-in-SetAside-clause-memory
returns-in-SetAside-clause-memory g c = λ none. absurd (let e = c.in-SetAside.is in let no : ⊥ = cc in no)

pub returns-in-Err-clause-memory : goal.returns-in-Err-clause-memory
returns-in-Err-clause-memory g c = λ none whole. let e = c.end_with-in-Err.ensures.end in let no : ⊥ = cc in no
