use Rattle.request_attempts.specs.Tries.{HasTried}
use Rattle.request_attempts.proofs.serve.serve_one.Given as goal

abbrev pub invariant-loop-attempt : goal.invariant-loop-attempt
invariant-loop-attempt g l = HasTried l.attempt l.stm.events l.initial.p l.p
