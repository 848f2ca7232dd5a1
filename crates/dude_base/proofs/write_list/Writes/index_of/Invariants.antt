use Rattle.std.proofs.Common.{◌≢◌, ◌<◌, ℕ, get_or}
use Rattle.dude_base.specs.declared.write.Write.{Write}
use Rattle.dude_base.proofs.write_list.Writes.index_of.Given as goal

-- no write before k is of this word
abbrev pub invariant-loop-k : goal.invariant-loop-k
invariant-loop-k g l = (j : ℕ) (d : Write) → j < l.k → (get_or l.self-inside.slots j d).at ≢ l.at
