-- A medium on which nothing was told.
use Rattle.std.specs.Prelude.{◌≡◌, IsTrue, []}
use Rattle.pmem_trait.specs.Sights.{Sight, state_now}

-- where it shows what it holds, no number was told
abbrev pub IsUntold : Sight → Type 0
IsUntold s = IsTrue s.is_visible → (state_now s).told ≡ []
