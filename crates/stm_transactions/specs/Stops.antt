-- The last Stop of a transaction, and the refusals that it counts.
use Rattle.std.specs.Prelude.{◌≡◌, ℕ, ◌+◌, ◌<◌, ◌≤◌, Option, Some, None}
use Rattle.pmem_trait.specs.Faults.{up_to_last}
use Rattle.core_events.specs.Setups.{Setup}
use Rattle.word_space.specs.declared.stop.Stop.{Stop}
use Rattle.word_space.specs.declared.stop.Stop.TheVariants.{Conflict, Out, Busy, Wide, NoMemory}

-- how many refusals of the pass the last Stop of a transaction is
abbrev pub counts : Option Stop → ℕ
counts None = 0
counts (Some (Conflict lock seen)) = 1
counts (Some (Out page)) = 1
counts (Some (Busy page seen)) = 1
counts (Some Wide) = 0
counts (Some NoMemory) = 0

-- what a transaction's last Stop says: refusals were counted for it, and a page that is out exists
pub record CountsStop (z : Setup) (stopped : Option Stop) (refused : ℕ) : Type 0 where
  pub counted : counts stopped ≤ refused
  pub inside : (page : ℕ) → stopped ≡ Some (Out page) → page < z.pages

-- the count of a transaction's refusals after a call that handed this Stop on, or none
abbrev pub after_stop : Option Stop → ℕ → ℕ
after_stop None n = n
after_stop (Some (Conflict lock seen)) n = up_to_last (n + 1)
after_stop (Some (Out page)) n = up_to_last (n + 1)
after_stop (Some (Busy page seen)) n = up_to_last (n + 1)
after_stop (Some Wide) n = n
after_stop (Some NoMemory) n = n
