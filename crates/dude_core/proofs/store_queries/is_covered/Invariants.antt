use Rattle.std.proofs.Common.{take, All}
use Rattle.dude_base.specs.Records.{Covers}
use Rattle.dude_core.proofs.store_queries.is_covered.Given as goal

abbrev pub invariant-loop-bundle : goal.invariant-loop-bundle
invariant-loop-bundle l = All (λ w. Covers w.redo l.number → ⊥) (take l.bundle-index l.waiting)
