use Rattle.std.proofs.Common.{◌<◌, take, All}
use Rattle.dude_core.proofs.ring.Ring.is_below.Given as goal

abbrev pub invariant-loop-bundle : goal.invariant-loop-bundle
invariant-loop-bundle l = All (λ k. k.last < l.number) (take l.bundle-index l.bundle-items)
