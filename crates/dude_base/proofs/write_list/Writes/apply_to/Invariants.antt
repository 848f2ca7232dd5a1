use Rattle.std.proofs.Common.{◌≡◌, take}
use Rattle.dude_base.specs.Writes.{overwritten}
use Rattle.dude_base.proofs.write_list.Writes.apply_to.Given as goal

abbrev pub invariant-loop-k : goal.invariant-loop-k
invariant-loop-k g l = l.words ≡ overwritten (take l.k l.self) l.initial.words
