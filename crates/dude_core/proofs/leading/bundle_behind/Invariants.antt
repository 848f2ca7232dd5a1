use Rattle.std.proofs.Common.{◌≡◌, ◌+◌, take, All}
use Rattle.dude_base.specs.Records.{first_of}
use Rattle.dude_core.proofs.leading.bundle_behind.Given as goal

abbrev pub invariant-loop-bundle : goal.invariant-loop-bundle
invariant-loop-bundle l = All (λ w. first_of w.redo ≡ l.number + 1 → ⊥) (take l.bundle-index l.waiting)
