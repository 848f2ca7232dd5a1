use Rattle.std.proofs.Common.{None, ap, sym, ◌∙◌, ◌+◌, subst, slice_index, arith, lit≤}
use Rattle.std.proofs.lemmas.Bool.{false≢true}
use Rattle.word_space.specs.Sights.{shown}
use Rattle.word_space.proofs.Runs.{used_until, below_before, length_shown, shown_same, used_handed, used_then, wrote_none, wrote_then}
use Rattle.record_heap.specs.Pool.{Takes, FitsPool, IsRecord, with_header}
use Rattle.record_heap.proofs.Pools.{takes_none, takes_first}
use Rattle.record_heap.proofs.pool.Pool.take.Goals as goal

pub overflow_add-header : goal.overflow_add-header
overflow_add-header g c = omega (arith, c.requires.fits.inside _ (c.has.ensures.0 c.if-not-has.false), c.requires.fits.size, (g.met.W.Words.well_formed c.args.w.now).count)

pub read-requires : goal.read-requires
read-requires g c = record { inside = omega (arith, c.requires.fits.inside _ (c.has.ensures.0 c.if-not-has.false), c.requires.fits.size, c.in_ok-header.ensures.uses.count) }

pub put_header-requires : goal.put_header-requires
put_header-requires g c = record { fits = subst (FitsPool c.args.self.now) (sym (c.in_ok-next.ensures.uses.count ∙ c.in_ok-header.ensures.uses.count)) c.requires.fits }

pub returns-then-not-has-clause-first : goal.returns-then-not-has-clause-first
returns-then-not-has-clause-first g c = λ array below there.
    false≢true (c.if-not-has.ensures.1 (subst (IsRecord c.args.self.now) (sym (c.in_ok-header.ensures.words array below).first) there))

pub returns-then-not-has-clause-takes : goal.returns-then-not-has-clause-takes
returns-then-not-has-clause-takes g c = λ array below free taken lawful.
    let seen = c.in_ok-header.ensures in
    let old = shown (g.W.Words.sight c.args.w.now) array in
    subst (λ new. Takes c.args.self.now free taken None old new) (sym (shown_same seen.uses array))
    (takes_none (seen.words array below).first (λ there. false≢true (c.if-not-has.ensures.1 there)) free taken lawful)

pub returns-clause-first : goal.returns-clause-first
returns-clause-first g c = λ array below.
    (c.has.ensures.0 c.if-not-has.false, sym (c.in_ok-header.ensures.words array (below_before (used_then c.in_ok-next.ensures.uses c.in_ok-put_header.ensures.uses) below)).first)

pub returns-clause-takes : goal.returns-clause-takes
returns-clause-takes g c = λ array below free taken lawful.
    let pool = c.args.self.now in
    let first = c.in_ok-header.header.first in
    let header_step = c.in_ok-header.ensures in
    let next_step = c.in_ok-next.ensures in
    let put_step = c.in_ok-put_header.ensures in
    let below_next = below_before put_step.uses below in
    let below_header = below_before next_step.uses below_next in
    takes_first c.requires.fits (g.met.W.Words.well_formed c.args.w.now).count (length_shown (below_before header_step.uses below_header))
    (c.has.ensures.0 c.if-not-has.false)
    (header_step.words array below_header)
    (next_step.value array below_next ∙ ap (λ words. slice_index words (first + 1)) (shown_same header_step.uses array))
    c.saturating_add-live.ensures
    (put_step.shown array ∙ ap (with_header pool (record { first = c.in_ok-next.next; live = c.saturating_add-live.result })) (shown_same (used_then header_step.uses next_step.uses) array))
    free taken lawful

pub returns-in_err-put_header-clause-uses : goal.returns-in_err-put_header-clause-uses
returns-in_err-put_header-clause-uses g c = used_handed c.from_residual-in_err-put_header.result c.from_residual-in_err-put_header.ensures.1
    (used_until (used_then c.in_ok-header.ensures.uses c.in_ok-next.ensures.uses) c.in_err-put_header.ensures.uses) (lit≤ tt) (lit≤ tt)

pub returns-clause-wrote : goal.returns-clause-wrote
returns-clause-wrote g c = wrote_then (wrote_none (used_then c.in_ok-header.ensures.uses c.in_ok-next.ensures.uses)) c.in_ok-put_header.ensures.wrote
