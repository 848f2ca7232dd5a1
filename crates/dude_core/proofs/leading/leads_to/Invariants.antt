use Rattle.std.proofs.Common.{◌↔◌, ◌-◌}
use Rattle.redo_record.specs.Waiting.{IsEnd}
use Rattle.dude_core.proofs.leading.leads_to.Given as goal

abbrev pub invariant-loop-end : goal.invariant-loop-end
invariant-loop-end l = IsEnd l.waiting l.from l.number ↔ IsEnd l.waiting l.end l.number

abbrev pub decreases-loop-end : goal.decreases-loop-end
decreases-loop-end l = l.number - l.end
