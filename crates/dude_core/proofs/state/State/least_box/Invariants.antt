use Rattle.dude_core.specs.Gathers.{IsLeastOf}
use Rattle.dude_core.proofs.state.State.least_box.Given as goal

abbrev pub invariant-loop-place : goal.invariant-loop-place
invariant-loop-place l = IsLeastOf l.z l.self l.thread l.place l.least
