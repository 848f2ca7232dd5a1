-- What an atomic step makes of the word that it finds, and what it owes and tells for it.
use Rattle.std.specs.Prelude.{◌≡◌, ℕ, ◌+◌, ◌-◌, ◌%◌, ◌^◌, ◌<◌, ◌==◌, max}
use mathlib.Core.Option.{none}
use prog.Atomic.{either}
use Rattle.atomic_table.specs.Table.{State, Me, Step, step, Allows}
use Rattle.atomic_table.specs.Seated.{TableId}
use Rattle.atomic_table.specs.declared.shared.Seat.{Seat}
use Rattle.core_table.specs.declared.change.Change.{Change}
use Rattle.core_table.specs.declared.change.Change.TheVariants.{Exchange, Add, Subtract, Raise}

-- what the change makes of the word n
abbrev pub changed : Change → ℕ → ℕ
changed (Exchange from to) n = either (n == from) to n
changed (Add more) n = (n + more) % 2 ^ 64
changed (Subtract less) n = (n + (2 ^ 64 - less)) % 2 ^ 64
changed (Raise least) n = max n least

module _ {S : Type 0} where
  -- the step on the word i, of a table with so many slots
  abbrev pub step_of : ℕ → ℕ → Change → Step S
  step_of slots i (Exchange from to) = step slots i from to none
  step_of slots i (Add more) = step slots i more 0 none
  step_of slots i (Subtract less) = step slots i less 0 none
  step_of slots i (Raise least) = step slots i least 0 none

module _ {S V : Type 0} where
  -- the seat may make this change of the word i, and be told `then`
  abbrev pub MayChange : (State S V → Type 0) → (Step S → Me S V → ℕ → Me S V → Type 0) → TableId → Seat S V → ℕ → Change → Type 0
  MayChange holds then t s i x = (s.table_id ≡ t) × (i < t.words) × Allows holds t.slots s.id s.me i (changed x) (then (step_of t.slots i x) s.me)

  -- it made it, which found the number n, and was told `then`
  abbrev pub Changed : (Step S → Me S V → ℕ → Me S V → Type 0) → TableId → Seat S V → Seat S V → ℕ → Change → ℕ → Type 0
  Changed then t old new i x n = (new.table_id ≡ old.table_id) × (new.id ≡ old.id) × then (step_of t.slots i x) old.me n new.me
