use Rattle.std.proofs.Common.{◌≡◌, replicate}
use Rattle.dude_core.specs.StoreData.{no_ring}
use Rattle.dude_core.proofs.store.empty_rings.Given as goal

abbrev pub invariant-loop : goal.invariant-loop
invariant-loop l = l.rings.items ≡ replicate l.counter no_ring
