use Rattle.std.proofs.Common.{arith, sym, subst, lit≤}
use Rattle.std.proofs.lemmas.Result.{IfOk-from_err}
use Rattle.word_space.specs.Sights.{shown}
use Rattle.word_space.proofs.Runs.{used_until, below_before, shown_same, length_shown, wrote_none, wrote_one, wrote_then, used_handed, used_then}
use Rattle.record_heap.specs.Pool.{FitsPool, Gives, IsPool}
use Rattle.hash_table.specs.Table.{records_in}
use Rattle.hash_table.proofs.Removals.{not_free, removes_found}
use Rattle.hash_table.proofs.table.Table.unlink.Goals as goal

pub returns-in_err-next : goal.returns-in_err-next
returns-in_err-next g c = let r = c.from_residual in record { uses = used_handed r.result r.ensures.1 c.in_err-next.ensures.uses (lit≤ tt) (lit≤ tt); wrote = IfOk-from_err _ _ r.ensures.0; drops = IfOk-from_err _ _ r.ensures.0 }

pub returns-in_err-give : goal.returns-in_err-give
returns-in_err-give g c = let r = c.from_residual-in_err-give in record { uses = used_handed r.result r.ensures.1 (used_until c.in_ok-next.ensures.uses c.in_err-give.ensures.uses) (lit≤ tt) (lit≤ tt); wrote = IfOk-from_err _ _ r.ensures.0; drops = IfOk-from_err _ _ r.ensures.0 }

pub returns-in_err-write : goal.returns-in_err-write
returns-in_err-write g c = let r = c.from_residual-in_err-write in record { uses = used_handed r.result r.ensures.1 (used_until (used_then c.in_ok-next.ensures.uses c.in_ok-give.ensures.uses) c.in_err-write.ensures.uses) (lit≤ tt) (lit≤ tt); wrote = IfOk-from_err _ _ r.ensures.0; drops = IfOk-from_err _ _ r.ensures.0 }

pub returns-clause-uses : goal.returns-clause-uses
returns-clause-uses g c = used_then c.in_ok-next.ensures.uses (used_then c.in_ok-give.ensures.uses c.in_ok-write.ensures.uses)

pub overflow_add-position : goal.overflow_add-position
overflow_add-position g c = omega (arith, c.requires.fits.pool.inside _ c.requires.record, c.requires.fits.pool.size, (g.met.W.Words.well_formed c.args.w.now).count)

pub read-requires : goal.read-requires
read-requires g c = record { inside = omega (arith, c.requires.fits.pool.inside _ c.requires.record, c.requires.fits.pool.size) }

pub returns-clause-wrote : goal.returns-clause-wrote
returns-clause-wrote g c = wrote_then (wrote_none c.in_ok-next.ensures.uses) (wrote_then c.in_ok-give.ensures.wrote (wrote_one c.in_ok-write.ensures.writes))

pub returns-clause-drops : goal.returns-clause-drops
returns-clause-drops g c = λ array below chains free key lawful amid.
    let table = c.args.self.now in
    let position = c.args.position in
    let middle = shown (g.W.Words.sight c.give.new.w) array in
    let records = records_in chains in
    let below_give = below_before c.in_ok-write.ensures.uses below in
    let below_next = below_before c.in_ok-give.ensures.uses below_give in
    let same = shown_same c.in_ok-next.ensures.uses array in
    removes_found middle position chains free c.requires.fits (length_shown (below_before c.in_ok-next.ensures.uses below_next))
    c.requires.link lawful amid
    (subst (λ old. Gives table.pool position.record free records old middle) same
    (c.in_ok-give.ensures.gives array below_give free records (subst (λ old. IsPool table.pool old free records) (sym same) lawful.pool) (not_free chains free key position c.requires.fits lawful amid)))
    (c.in_ok-next.ensures.value array below_next)
    (c.in_ok-write.ensures.shown array)

pub give-requires-clause-fits : goal.give-requires-clause-fits
give-requires-clause-fits g c = subst (FitsPool c.args.self.now.pool) (sym c.in_ok-next.ensures.uses.count) c.requires.fits.pool

pub write-requires : goal.write-requires
write-requires g c = record { inside = omega (arith, c.requires.link, c.in_ok-next.ensures.uses.count, c.in_ok-give.ensures.uses.count) }

pub give-requires-clause-record : goal.give-requires-clause-record
give-requires-clause-record g c = c.requires.record
