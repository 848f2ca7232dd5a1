use Rattle.std.proofs.Common.{length, take}
use Rattle.pmem_fake.specs.History.{start_state, after_made}
use Rattle.pmem_fake.specs.Replays.{AreInState}
use Rattle.pmem_fake.proofs.replay.replay.Given as goal

-- the words after the calls gone over so far
abbrev pub invariant-loop-made : goal.invariant-loop-made
invariant-loop-made l = AreInState (length l.start) l.words.items (after_made l.late (take l.made-index l.calls) (start_state l.start))
