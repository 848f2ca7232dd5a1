use Rattle.stm_transactions.specs.Seats.{Stays}
use Rattle.stm_transactions.proofs.Extending.{Extending}
use Rattle.stm_transactions.proofs.looking.extend_all.Given as goal

abbrev pub invariant-loop-k : goal.invariant-loop-k
invariant-loop-k g l = Stays l.stm.events l.fn.seat l.seat × Extending l.stm.events.setup l.n l.k l.reads l.fn.seat.me.0.view l.seat.me.0.view
