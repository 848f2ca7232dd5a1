use Rattle.std.proofs.Common.{◌≡◌, ◌-◌}
use Rattle.dude_core.proofs.ChainWrites.{Taking}
use Rattle.dude_core.proofs.chain_writes.take_chain.Given as goal

-- the writes of the bundles gone over so far were taken
abbrev pub invariant-loop-end : goal.invariant-loop-end
invariant-loop-end l = record {
  room : l.out.room ≡ l.fn.out.room;
  taking : Taking l.waiting l.from l.end l.number l.out.taken;
}

abbrev pub decreases-loop-end : goal.decreases-loop-end
decreases-loop-end l = l.number - l.end
