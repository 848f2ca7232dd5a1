use Rattle.std.proofs.Common.{◌≡◌, ℕ, ◌<◌, length, get_or}
use Rattle.pmem_trait.specs.Words.{settled_at}
use Rattle.pmem_fake.specs.History.{picked_value}
use Rattle.pmem_fake.proofs.replay.take_picks.Given as goal

-- the picked values of the words gone over so far
abbrev pub invariant-loop-k : goal.invariant-loop-k
invariant-loop-k l = record {
  size : length l.image.items ≡ l.k;
  each : (j : ℕ) → j < l.k → get_or l.image.items j 0 ≡ picked_value (get_or l.words j (settled_at 0)) (get_or l.picks j 0);
}
