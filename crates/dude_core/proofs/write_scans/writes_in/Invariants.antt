use Rattle.std.proofs.Common.{◌≡◌}
use Rattle.dude_base.specs.declared.write.Write.{Write}
use Rattle.core_events.specs.Setups.{page_of}
use Rattle.dude_core.proofs.Walks.{AllBelow}
use Rattle.dude_core.proofs.write_scans.writes_in.Given as goal

abbrev pub invariant-loop-k : goal.invariant-loop-k
invariant-loop-k l = AllBelow (λ (w : Write). page_of w.at ≡ l.page → ⊥) l.writes l.k
