use Rattle.std.proofs.Common.{◌≡◌, ◌++◌, map, take, drop}
use Rattle.dude_core.specs.Effects.{ring_released}
use Rattle.dude_core.proofs.edits.release_rings.Given as goal

-- the rings gone over have released their bundles
abbrev pub invariant-loop-ring : goal.invariant-loop-ring
invariant-loop-ring l = l.ring-items ≡ map (ring_released l.number) (take l.ring-index l.fn.rings.items) ++ drop l.ring-index l.fn.rings.items
