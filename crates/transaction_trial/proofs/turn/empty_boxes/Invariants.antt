use Rattle.transaction_trial.specs.Turning.{IsTurning}
use Rattle.transaction_trial.proofs.turn.empty_boxes.Given as goal

abbrev pub invariant-loop-place : goal.invariant-loop-place
invariant-loop-place l = IsTurning l.stm.events l.numbers l.seat
