use Rattle.std.proofs.Common.{◌≡◌, length, take}
use Rattle.dude_base.specs.Writes.{put_all}
use Rattle.dude_base.proofs.bundle.Bundle.places_with.Given as goal

-- the first k writes were taken
abbrev pub invariant-loop-k : goal.invariant-loop-k
invariant-loop-k l = l.places ≡ length (put_all l.self.writes (take l.k l.r.writes))
