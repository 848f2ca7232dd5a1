use Rattle.std.proofs.Common.{◌≡◌, ℕ, ◌<◌, get_or}
use Rattle.pmem_trait.specs.declared.call.Call.{Call}
use Rattle.dude_core.proofs.fit.fit_of.Given as goal

abbrev pub invariant-loop-k : goal.invariant-loop-k
invariant-loop-k g l = (i : ℕ) (d : Call) → i < l.k → get_or (g.L.CallList.calls l.list) i d ≡ get_or l.made i d
