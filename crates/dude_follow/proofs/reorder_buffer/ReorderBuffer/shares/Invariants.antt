use Rattle.std.proofs.Common.{◌<◌, ℕ, get_or}
use Rattle.dude_base.specs.Records.{RedoBundle}
use Rattle.dude_follow.specs.Packets.{Share}
use Rattle.dude_follow.proofs.reorder_buffer.ReorderBuffer.shares.Given as goal

-- none so far does
abbrev pub invariant-loop-c : goal.invariant-loop-c
invariant-loop-c l = (j : ℕ) (d : RedoBundle) → j < l.c-index → Share l.b (get_or l.self.kept.items j d) → ⊥
