use Rattle.std.proofs.Common.{◌≡◌, ℕ, ◌<◌, true, false, get_or}
use Rattle.tatp_check.proofs.marks.Marks.first_unmet.Given as goal

-- the marks before this one are set
abbrev pub invariant-loop-index : goal.invariant-loop-index
invariant-loop-index l = (k : ℕ) → k < l.index → get_or l.self.marks.items k false ≡ true
