use Rattle.std.proofs.Common.{inr, refl}
use Rattle.log_ring.proofs.scan_state.ScanState.take.Goals as goal

pub returns-in_ok-insert-clause-takes : goal.returns-in_ok-insert-clause-takes
returns-in_ok-insert-clause-takes c = inr (c.meets.ensures.misses c.if-meets.false, c.in_ok-insert.ensures.updates, refl)
