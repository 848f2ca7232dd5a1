use Rattle.stm_turns.specs.InFront.{AreLeft}
use Rattle.stm_turns.proofs.settling.leave.Given as goal

abbrev pub invariant-loop-k : goal.invariant-loop-k
invariant-loop-k l = record { left : AreLeft l.gathering.threads l.k l.fn.fronts l.fronts }
