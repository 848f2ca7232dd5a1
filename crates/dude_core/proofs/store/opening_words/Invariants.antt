use Rattle.std.proofs.Common.{◌≡◌, take}
use Rattle.dude_core.proofs.store.opening_words.Given as goal

abbrev pub invariant-loop-at : goal.invariant-loop-at
invariant-loop-at l = l.words.items ≡ take l.at l.z.opening
