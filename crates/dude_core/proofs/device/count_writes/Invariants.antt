use Rattle.std.proofs.Common.{◌≡◌, take}
use Rattle.dude_core.specs.Chains.{writes_in}
use Rattle.dude_core.proofs.device.count_writes.Given as goal

abbrev pub invariant-loop-bundle : goal.invariant-loop-bundle
invariant-loop-bundle l = l.count ≡ writes_in (take l.bundle-index l.waiting)
