use Rattle.stm_transactions.specs.Seats.{Stays}
use Rattle.stm_transactions.proofs.Stores.{Touches}
use Rattle.stm_transactions.proofs.storing.touch_all.Given as goal

abbrev pub invariant-loop-k : goal.invariant-loop-k
invariant-loop-k g l = Stays l.stm.events l.fn.seat l.seat × Touches l.k l.frames l.fn.seat.me.0.view l.seat.me.0.view
