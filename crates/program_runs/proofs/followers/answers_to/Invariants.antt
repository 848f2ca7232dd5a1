use Rattle.std.proofs.Common.{◌≡◌}
use Rattle.dude_follow.specs.Follower.{follower_sizes}
use Rattle.program_runs.proofs.followers.answers_to.Given as goal

-- the sizes stay
abbrev pub invariant-loop-packet : goal.invariant-loop-packet
invariant-loop-packet l = follower_sizes l.follower ≡ follower_sizes l.initial.follower
