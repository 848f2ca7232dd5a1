use Rattle.stm_transactions.specs.Seats.{Stays}
use Rattle.stm_transactions.proofs.PinningAll.{Pinning}
use Rattle.stm_transactions.proofs.pinning.pin_all.Given as goal

abbrev pub invariant-loop-k : goal.invariant-loop-k
invariant-loop-k g l = Stays l.stm.events l.fn.seat l.seat × Pinning l.k l.writes l.frames l.fn.seat.me.0.view l.seat.me.0.view
