-- Counts of faults, which are numbers of 64 bits.
use Rattle.std.specs.Prelude.{ℕ, ◌+◌, ◌-◌, ◌^◌, min, Bool, if◌then◌else◌}

-- a count stays at its last value
abbrev pub up_to_last : ℕ → ℕ
up_to_last n = min n (2 ^ 64 - 1)

-- a failed call raises the count of faults, up to its last value
abbrev pub faults_after : Bool → ℕ → ℕ
faults_after ok faults = if ok then faults else up_to_last (faults + 1)
