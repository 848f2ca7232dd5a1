use Rattle.stm_transactions.specs.Seats.{Stays}
use Rattle.stm_transactions.proofs.Stores.{Stores}
use Rattle.stm_transactions.proofs.storing.store_all.Given as goal

abbrev pub invariant-loop-k : goal.invariant-loop-k
invariant-loop-k g l = Stays l.stm.events l.fn.seat l.seat × Stores l.k l.writes l.fn.seat.me.0.view l.seat.me.0.view
