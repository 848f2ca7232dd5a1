use Rattle.std.proofs.Common.{ap, ◌∙◌, ◌+◌, slice_set, sym, subst, arith, lit≤}
use Rattle.word_space.proofs.Runs.{used_until, below_before, length_shown, shown_same, used_handed, used_then, wrote_none, wrote_one, wrote_then}
use Rattle.record_heap.specs.Pool.{FitsPool, with_header}
use Rattle.record_heap.proofs.Pools.{gives_back}
use Rattle.record_heap.proofs.pool.Pool.give.Goals as goal

pub overflow_add-at : goal.overflow_add-at
overflow_add-at g c = omega (arith, c.requires.fits.inside _ c.requires.record, c.requires.fits.size, (g.met.W.Words.well_formed c.args.w.now).count)

pub write-requires : goal.write-requires
write-requires g c = record { inside = omega (arith, c.requires.fits.inside _ c.requires.record, c.requires.fits.size, c.in_ok-header.ensures.uses.count) }

pub put_header-requires : goal.put_header-requires
put_header-requires g c = record { fits = subst (FitsPool c.args.self.now) (sym (c.in_ok-write.ensures.uses.count ∙ c.in_ok-header.ensures.uses.count)) c.requires.fits }

pub returns-clause-gives : goal.returns-clause-gives
returns-clause-gives g c = λ array below free taken lawful kept.
    let pool = c.args.self.now in
    let at = c.args.at in
    let header_step = c.in_ok-header.ensures in
    let link_step = c.in_ok-write.ensures in
    let put_step = c.in_ok-put_header.ensures in
    let below_header = below_before (used_then link_step.uses put_step.uses) below in
    gives_back c.requires.fits (length_shown (below_before header_step.uses below_header)) c.requires.record
    (header_step.words array below_header) c.saturating_sub-live.ensures
    (put_step.shown array ∙ ap (with_header pool (record { first = at; live = c.saturating_sub-live.result }))
    (link_step.shown array ∙ ap (λ words. slice_set words (at + 1) c.in_ok-header.header.first) (shown_same header_step.uses array)))
    free taken lawful kept

pub returns-in_err-put_header-clause-uses : goal.returns-in_err-put_header-clause-uses
returns-in_err-put_header-clause-uses g c = used_handed c.from_residual-in_err-put_header.result c.from_residual-in_err-put_header.ensures.1
    (used_until (used_then c.in_ok-header.ensures.uses c.in_ok-write.ensures.uses) c.in_err-put_header.ensures.uses) (lit≤ tt) (lit≤ tt)

pub returns-clause-uses : goal.returns-clause-uses
returns-clause-uses g c = used_then c.in_ok-header.ensures.uses (used_then c.in_ok-write.ensures.uses c.in_ok-put_header.ensures.uses)

pub returns-clause-wrote : goal.returns-clause-wrote
returns-clause-wrote g c = wrote_then (wrote_none c.in_ok-header.ensures.uses) (wrote_then (wrote_one c.in_ok-write.ensures.writes) c.in_ok-put_header.ensures.wrote)
