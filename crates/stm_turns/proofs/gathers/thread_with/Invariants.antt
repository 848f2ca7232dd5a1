use Rattle.stm_turns.specs.InFront.{NoneHas}
use Rattle.stm_turns.proofs.gathers.thread_with.Given as goal

abbrev pub invariant-loop-thread : goal.invariant-loop-thread
invariant-loop-thread l = record { none : NoneHas l.fronts l.thread l.number }
