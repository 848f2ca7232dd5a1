use Rattle.pmem_trait.specs.declared.call.Call.TheVariants.{Flush}
use Rattle.pmem_fake.proofs.Replays.{SteppedTo}
use Rattle.pmem_fake.proofs.replay.note_line.Given as goal

abbrev pub invariant-loop-k : goal.invariant-loop-k
invariant-loop-k l = SteppedTo (Flush l.line) l.fn.words l.k l.words
