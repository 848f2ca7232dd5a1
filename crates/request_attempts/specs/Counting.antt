-- How far a pass's count of refusals rose. It is a number of 64 bits, and stays at its last value.
use Rattle.std.specs.Prelude.{ℕ, ◌+◌, ◌-◌, ◌^◌, ◌<◌, ◌≤◌, ◌⊎◌}

-- the last value of a count
abbrev pub LAST_COUNT : ℕ
LAST_COUNT = 2 ^ 64 - 1

-- a request is refused so often at most
abbrev pub PATIENCE : ℕ
PATIENCE = 1000000

-- it rose by so many, or stands at its last value
abbrev pub RisesBy : ℕ → ℕ → ℕ → Type 0
RisesBy more before now = (before + more ≤ now) ⊎ (LAST_COUNT ≤ now)

-- it rose by fewer, and doesn't stand there
abbrev pub IsUnder : ℕ → ℕ → ℕ → Type 0
IsUnder more before now = (now < before + more) × (now < LAST_COUNT)
