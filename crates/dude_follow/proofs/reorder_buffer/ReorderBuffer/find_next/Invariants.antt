use Rattle.std.proofs.Common.{◌≢◌, ◌<◌, ◌+◌, ℕ, get_or}
use Rattle.dude_base.specs.Records.{RedoBundle, first_of}
use Rattle.dude_follow.proofs.reorder_buffer.ReorderBuffer.find_next.Given as goal

-- none before k does
abbrev pub invariant-loop-k : goal.invariant-loop-k
invariant-loop-k l = (j : ℕ) (d : RedoBundle) → j < l.k → first_of (get_or l.self.kept.items j d) ≢ l.number + 1
