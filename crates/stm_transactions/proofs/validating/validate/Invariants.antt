use Rattle.stm_transactions.specs.Seats.{Stays}
use Rattle.stm_transactions.proofs.Validates.{Checking}
use Rattle.stm_transactions.proofs.validating.validate.Given as goal

abbrev pub invariant-loop-k : goal.invariant-loop-k
invariant-loop-k g l = Stays l.stm.events l.fn.seat l.seat × Checking l.stm.events.setup l.k l.reads l.fn.seat.me.0.view l.seat.me.0.view
