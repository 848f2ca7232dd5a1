use Rattle.std.proofs.Common.{ℕ, ◌<◌, take, get_or, IsTrue}
use Rattle.std.specs.Prelude.{nat_eq, ◌↔◌}
use Rattle.std.specs.HashSet.{contains}
use Rattle.dude_audit.specs.declared.claim.Claim.{Claim}
use Rattle.dude_audit.specs.Rules.{KeepsRule}
use Rattle.dude_audit.proofs.Ruled.{Known, WasWritten}
use Rattle.dude_audit.proofs.rules.first_broken.Given as goal

-- the lines so far keep their rules
abbrev pub invariant-loop-k : goal.invariant-loop-k
invariant-loop-k l = record {
  ruled : (j : ℕ) (d : Claim) → j < l.k → KeepsRule l.first l.last (take j l.claims) (get_or l.claims j d);
  known : Known l.first (take l.k l.claims) l.file l.asked l.any;
  written : (q : ℕ) → IsTrue (contains nat_eq l.written q) ↔ WasWritten (take l.k l.claims) q;
}
