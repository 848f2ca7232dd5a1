use Rattle.std.proofs.Common.{◌≡◌, ◌/◌, ℕ, refl, subst, arith}
use Rattle.std.specs.Prelude.{IfOk}
use Rattle.stm_slots.proofs.FirstPages.{mapped_first}
use Rattle.tiny_stm.specs.Fitting.{FitsStore}
use Rattle.tiny_stm.specs.Started.{RunsOver, terms_of}
use Rattle.tiny_stm.specs.Tables.{table_of}
use Rattle.tiny_stm.proofs.Starts.{few_pages, no_size}
use Rattle.tiny_stm.proofs.stm.Stm.new.Goals as goal

pub over-requires-clause-setup : goal.over-requires-clause-setup
over-requires-clause-setup g c =
    let f : FitsStore c.rings.result (c.len.result / 64) c.args.run.now c.args.threads = c.fits.ensures.0 c.if-not-fits.false in
    let lawful = c.durable-durable.ensures.lawful in record {
      threads = record { low = f.some.low; high = (let r = lawful.accepted.rings.high in let e = c.rings.ensures in let h = f.some.high in omega arith) };
      run = record { frames = f.within.frames; locks = f.within.locks; boxes = f.within.boxes };
      words = (let s = c.requires.size in let n = c.len.ensures in let ok = c.args.words.ok in omega arith);
      number = (let s = lawful.small in let d = c.requires.durable in omega arith);
    }

pub over-requires-clause-pages : goal.over-requires-clause-pages
over-requires-clause-pages g c =
    let few = few_pages c.durable-durable.ensures.lawful.accepted in
    let s = c.requires.size in let n = c.len.ensures in let ok = c.args.words.ok in omega arith

pub over-requires-clause-may : goal.over-requires-clause-may
over-requires-clause-may g c =
    let f : FitsStore c.rings.result (c.len.result / 64) c.args.run.now c.args.threads = c.fits.ensures.0 c.if-not-fits.false in
    let lawful = c.durable-durable.ensures.lawful in
    let map = c.in-Ok.ensures.map in record {
      idle = record { alive = c.requires.alive; none = c.requires.none; durable = c.requires.durable; reproduced = c.requires.reproduced; start = refl; state = refl; room = c.args.back.room; keeps = c.requires.keeps; home = c.requires.home };
      pages = (let s = c.requires.size in let n = c.len.ensures in let ok = c.args.words.ok in omega arith);
      rings = (let e = c.rings.ensures in let h = f.some.high in omega arith);
      threads = (let r = lawful.accepted.rings.high in let e = c.rings.ensures in let h = f.some.high in omega arith);
      some_box = f.within.boxes.low;
      map = mapped_first _ c.in-Ok.room.pager map.pages_are map.frames_are map.one_to_one f.within.frames.high map.each;
    }

pub returns-in-Ok-clause-ok : goal.returns-in-Ok-clause-ok
returns-in-Ok-clause-ok g c =
    let e : c.len.result / 64 ≡ c.args.back.log.sizes.pages = (let s = c.requires.size in let n = c.len.ensures in let ok = c.args.words.ok in omega arith) in
    subst (λ (n : ℕ). IfOk c.over.result (λ r. RunsOver g.M.Medium.sight (terms_of c.args.words.items n c.args.number c.args.run.now c.args.threads) c.args.back (table_of r.0) r.1)) e c.over.ensures.ok

pub returns-in-Ok-clause-size : goal.returns-in-Ok-clause-size
returns-in-Ok-clause-size g c =
    let e : c.len.result / 64 ≡ c.args.back.log.sizes.pages = (let s = c.requires.size in let n = c.len.ensures in let ok = c.args.words.ok in omega arith) in
    let f : FitsStore c.rings.result (c.len.result / 64) c.args.run.now c.args.threads = c.fits.ensures.0 c.if-not-fits.false in
    let is : FitsStore c.args.back.log.sizes.rings c.args.back.log.sizes.pages c.args.run.now c.args.threads = subst (λ (r : ℕ). FitsStore r c.args.back.log.sizes.pages c.args.run.now c.args.threads) c.rings.ensures (subst (λ (n : ℕ). FitsStore c.rings.result n c.args.run.now c.args.threads) e f) in
    ((λ refused. absurd (no_size _ c.args.run.now.frames c.args.back.log.sizes.pages (λ x h. h.0) c.over.result c.over.ensures.err refused)), (λ none. absurd (none is)))
