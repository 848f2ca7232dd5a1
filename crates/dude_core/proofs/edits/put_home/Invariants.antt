use Rattle.std.proofs.Common.{◌≡◌, take}
use Rattle.dude_base.specs.Writes.{overwritten}
use Rattle.dude_core.proofs.edits.put_home.Given as goal

abbrev pub invariant-loop-k : goal.invariant-loop-k
invariant-loop-k l = l.home ≡ overwritten (take l.k l.writes) l.initial.home
