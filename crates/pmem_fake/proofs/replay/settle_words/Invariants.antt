use Rattle.pmem_trait.specs.declared.call.Call.TheVariants.{Fence}
use Rattle.pmem_fake.proofs.Replays.{SteppedTo}
use Rattle.pmem_fake.proofs.replay.settle_words.Given as goal

abbrev pub invariant-loop-k : goal.invariant-loop-k
invariant-loop-k l = SteppedTo Fence l.fn.words l.k l.words
