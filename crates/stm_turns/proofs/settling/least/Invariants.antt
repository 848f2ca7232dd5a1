use Rattle.stm_turns.proofs.Fronts.{KnowsLeast}
use Rattle.stm_turns.proofs.settling.least.Given as goal

abbrev pub invariant-loop-thread : goal.invariant-loop-thread
invariant-loop-thread l = record { knows : KnowsLeast l.fronts l.thread l.least l.number }
