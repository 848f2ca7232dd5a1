use Rattle.std.proofs.Common.{◌-◌}
use Rattle.dude_core.proofs.state.State.+gather.Given as goal

abbrev pub decreases-gather : goal.decreases-gather
decreases-gather l = 256 - l.bundle.span
