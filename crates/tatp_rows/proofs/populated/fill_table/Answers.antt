use Rattle.std.proofs.Common.{◌≡◌, ◌-◌, ◌≤◌, length, refl, sym, ap, subst, ◌∙◌, arith}
use Rattle.dude_base.specs.declared.sizes.Sizes.{Sizes}
use Rattle.hash_table.specs.declared.table.Table.{Table}
use Rattle.record_heap.specs.Pool.{FitsPool}
use Rattle.tatp_rows.specs.Filling.{IsFilling, entries_up_to}
use Rattle.tatp_rows.proofs.Fillings.{filling_none, entries_more, length-entries_more, fills_with}
use Rattle.tatp_rows.proofs.Populations.{flat_within}
use Rattle.tatp_rows.proofs.populated.fill_table.Goals as goal

pub loop-s-init : goal.loop-s-init
loop-s-init g c = record { count = refl; filling = filling_none c.requires.empty }

pub put-index-requires-clause-room : goal.put-index-requires-clause-room
put-index-requires-clause-room g c =
    let S = c.args.lay.now.subscribers in
    omega (arith, c.loop-s.invariant.count, flat_within g.T.Populated.entries (c.loop-s.s - 1) c.loop-s.s S (omega arith) (omega (arith, ap (λ (s : Sizes). s.subscribers) c.sizes-s-end.ensures.sizes)), c.requires.room)

pub loop-s-preserved : goal.loop-s-preserved
loop-s-preserved g c =
    let entries = g.T.Populated.entries in
    let s = c.loop-s.s in
    let low : 1 ≤ s = omega arith in
    let before = c.loop-s.invariant in
    record {
      count = c.put-index.ensures.index ∙ omega (arith, before.count, length-entries_more entries s low);
      filling = subst (λ l. IsFilling (g.T.Populated.place c.args.lay.now) l c.args.words.now c.put-index.new.words) (entries_more entries s low)
          (c.put-index.ensures.filling (entries_up_to entries (s - 1)) c.args.words.now (sym before.count) before.filling);
    }

pub finish-requires-clause-fits : goal.finish-requires-clause-fits
finish-requires-clause-fits g c = subst (FitsPool c.table-table.result.pool) (sym (c.loop-s.auto.words ∙ c.requires.size)) c.table-table.ensures.fits.pool

pub finish-requires-clause-few : goal.finish-requires-clause-few
finish-requires-clause-few g c =
    let S = c.args.lay.now.subscribers in
    let all : c.loop-s.s - 1 ≡ S = omega (arith, ap (λ (s : Sizes). s.subscribers) c.sizes-s-end.ensures.sizes) in
    omega (arith, c.loop-s.invariant.count, ap (λ n. length (entries_up_to g.T.Populated.entries n)) all, c.requires.room, ap (λ (t : Table). t.pool.count) c.table-table.ensures.table)

pub returns : goal.returns
returns g c =
    let entries = g.T.Populated.entries in
    let S = c.args.lay.now.subscribers in
    let all : c.loop-s.s - 1 ≡ S = omega (arith, ap (λ (s : Sizes). s.subscribers) c.sizes-s-end.ensures.sizes) in
    fills_with c.table-table.ensures.table c.table-table.ensures.fits c.requires.size (c.loop-s.invariant.count ∙ ap (λ n. length (entries_up_to entries n)) all) c.requires.room
    (subst (λ n. IsFilling (g.T.Populated.place c.args.lay.now) (entries_up_to entries n) c.args.words.now c.loop-s.words) all c.loop-s.invariant.filling) c.finish.ensures
