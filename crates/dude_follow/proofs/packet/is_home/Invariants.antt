-- the writes gone over so far are those of home words
use Rattle.std.proofs.Common.{ℕ, ◌*◌, ◌<◌, get_or}
use Rattle.dude_base.specs.declared.write.Write.{Write}
use Rattle.dude_follow.proofs.packet.is_home.Given as goal

abbrev pub invariant-loop-k : goal.invariant-loop-k
invariant-loop-k l = (j : ℕ) (d : Write) → j < l.k → (get_or l.b.writes j d).at < l.sizes.pages * 64
