use Rattle.std.proofs.Common.{◌+◌, refl, arith}
use Rattle.record_heap.proofs.Pools.{count_fits}
use Rattle.tatp_rows.proofs.Fillings.{inserts_none, inserts_next}
use Rattle.tatp_rows.proofs.kinds.put_kinds.Goals as goal

pub loop-k-init : goal.loop-k-init
loop-k-init g c = inserts_none

pub overflow_add-index : goal.overflow_add-index
overflow_add-index g c = omega (arith, c.requires.room, count_fits c.requires.fits.pool)

pub loop-k-preserved : goal.loop-k-preserved
loop-k-preserved g c = inserts_next (g.K.OfKinds.entry_at c.args.s) 1 c.loop-k.k (c.loop-k.k + 1) (c.args.index + c.loop-k.k) (omega arith) refl c.entry.ensures c.loop-k.invariant c.put_record.ensures.filling

pub overflow_add-result : goal.overflow_add-result
overflow_add-result g c = omega (arith, c.requires.room, count_fits c.requires.fits.pool)
