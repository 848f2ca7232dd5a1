use Rattle.std.proofs.Common.{arith, lit≤}
use Rattle.word_space.proofs.Runs.{used_until, wrote_one, wrote_then, used_handed, used_then}
use Rattle.std.proofs.lemmas.Result.{IfOk-from_err}
use Rattle.hash_table.proofs.table.Table.push_front.Goals as goal

pub returns-in_err-write : goal.returns-in_err-write
returns-in_err-write g c = let r = c.from_residual in record { uses = used_handed r.result r.ensures.1 c.in_err-write.ensures.uses (lit≤ tt) (lit≤ tt); wrote = IfOk-from_err _ _ r.ensures.0; shown = IfOk-from_err _ _ r.ensures.0 }

pub returns-in_err-write-2 : goal.returns-in_err-write-2
returns-in_err-write-2 g c = let r = c.from_residual-in_err-write-2 in record { uses = used_handed r.result r.ensures.1 (used_until c.in_ok-write.ensures.uses c.in_err-write-2.ensures.uses) (lit≤ tt) (lit≤ tt); wrote = IfOk-from_err _ _ r.ensures.0; shown = IfOk-from_err _ _ r.ensures.0 }

pub returns-in_err-write-3 : goal.returns-in_err-write-3
returns-in_err-write-3 g c = let r = c.from_residual-in_err-write-3 in record { uses = used_handed r.result r.ensures.1 (used_until (used_then c.in_ok-write.ensures.uses c.in_ok-write-2.ensures.uses) c.in_err-write-3.ensures.uses) (lit≤ tt) (lit≤ tt); wrote = IfOk-from_err _ _ r.ensures.0; shown = IfOk-from_err _ _ r.ensures.0 }

pub returns-clause-uses : goal.returns-clause-uses
returns-clause-uses g c = used_then c.in_ok-write.ensures.uses (used_then c.in_ok-write-2.ensures.uses c.in_ok-write-3.ensures.uses)

pub write-requires : goal.write-requires
write-requires g c = record { inside = omega (arith, c.requires.fits.pool.inside _ c.requires.record, c.requires.fits.pool.size) }

pub overflow_add-at : goal.overflow_add-at
overflow_add-at g c = omega (arith, c.requires.fits.pool.inside _ c.requires.record, c.requires.fits.pool.size, (g.met.W.Words.well_formed c.args.w.now).count)

pub write-requires-2 : goal.write-requires-2
write-requires-2 g c = record { inside = omega (arith, c.requires.fits.pool.inside _ c.requires.record, c.requires.fits.pool.size, c.in_ok-write.ensures.uses.count) }

pub returns-clause-wrote : goal.returns-clause-wrote
returns-clause-wrote g c = wrote_then (wrote_one c.in_ok-write.ensures.writes) (wrote_then (wrote_one c.in_ok-write-2.ensures.writes) (wrote_one c.in_ok-write-3.ensures.writes))
