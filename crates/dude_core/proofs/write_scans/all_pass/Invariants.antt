use Rattle.std.proofs.Common.{true}
use Rattle.dude_base.specs.declared.write.Write.{Write}
use Rattle.dude_core.proofs.Walks.{AllBelow}
use Rattle.dude_core.proofs.write_scans.all_pass.Given as goal

abbrev pub invariant-loop-k : goal.invariant-loop-k
invariant-loop-k g l = AllBelow (λ (w : Write). goal.F-post g l.passes w.at true) l.writes l.k
