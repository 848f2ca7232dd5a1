use Rattle.pmem_fake.specs.History.{start_state}
use Rattle.pmem_fake.specs.Replays.{AreInState}
use Rattle.pmem_fake.proofs.replay.open_words.Given as goal

abbrev pub invariant-loop-value : goal.invariant-loop-value
invariant-loop-value l = AreInState l.value-index l.words.items (start_state l.start)
