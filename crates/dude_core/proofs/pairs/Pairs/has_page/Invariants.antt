use Rattle.std.proofs.Common.{ℕ, ◌+◌, ◌*◌, ◌<◌}
use Rattle.dude_base.specs.declared.limits.TheConstants.{PAGE}
use Rattle.core_events.specs.Conditions.{IsFilled}
use Rattle.dude_core.proofs.pairs.Pairs.has_page.Given as goal

abbrev pub invariant-loop-offset : goal.invariant-loop-offset
invariant-loop-offset l = (j : ℕ) → j < l.offset → IsFilled l.self (l.page * PAGE + j) l.value
