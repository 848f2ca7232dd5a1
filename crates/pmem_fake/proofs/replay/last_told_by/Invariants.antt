use Rattle.std.proofs.Common.{◌≡◌, ℕ, List, take}
use Rattle.pmem_trait.specs.Words.{last_told}
use Rattle.pmem_fake.specs.History.{start_state, after_made}
use Rattle.pmem_fake.proofs.replay.last_told_by.Given as goal

abbrev pub invariant-loop-made : goal.invariant-loop-made
invariant-loop-made l = (start : List ℕ) → l.told ≡ last_told (after_made l.late (take l.made-index l.calls) (start_state start)).told
