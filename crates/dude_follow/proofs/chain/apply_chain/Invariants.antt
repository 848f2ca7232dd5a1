use Rattle.std.proofs.Common.{◌-◌}
use Rattle.dude_base.specs.declared.limits.TheConstants.{MAX_NUMBER}
use Rattle.dude_follow.specs.Replica.{replica_back, replica_sight}
use Rattle.dude_follow.proofs.Progress.{Progress}
use Rattle.dude_follow.proofs.chain.apply_chain.Given as goal

-- the packet and kept ones that follow it were applied
abbrev pub invariant-loop-k : goal.invariant-loop-k
invariant-loop-k g l = Progress l.buffer.kept.items l.b (replica_back l.fn.replica) (replica_sight l.fn.replica) (replica_back l.replica) (replica_sight l.replica)

abbrev pub decreases-loop-k : goal.decreases-loop-k
decreases-loop-k g l = MAX_NUMBER - (replica_back l.replica).log.reproduced
