-- The calls of a loop: those of round 0, then those of round 1, and so on.
use Rattle.std.specs.Prelude.{ℕ, zero, suc, List, [], ◌++◌}
use Rattle.pmem_trait.specs.declared.call.Call.{Call}

-- the calls of the first n rounds
abbrev pub rounds : (ℕ → List Call) → ℕ → List Call
rounds calls zero = []
rounds calls (suc n) = rounds calls n ++ calls n
