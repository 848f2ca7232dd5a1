-- The ranges of the fields, in requests and in rows.
use Rattle.std.specs.Prelude.{ℕ, ◌≡◌, ◌<◌, ◌≤◌, ◌^◌, ◌⊎◌}

-- a subscriber's id: from 1 to 4,294,967,295
abbrev pub IsId : ℕ → Type 0
IsId n = (1 ≤ n) × (n < 2 ^ 32)

-- a phone number: at most fifteen digits
abbrev pub IsPhone : ℕ → Type 0
IsPhone n = n < 10 ^ 15

-- a type of facility or of access row: from 1 to 4
abbrev pub IsKind : ℕ → Type 0
IsKind n = (1 ≤ n) × (n ≤ 4)

-- the hour at which a call forwarding starts
abbrev pub IsStartTime : ℕ → Type 0
IsStartTime n = (n ≡ 0) ⊎ (n ≡ 8) ⊎ (n ≡ 16)

-- the hour at which a call forwarding ends: from 1 to 24
abbrev pub IsEndTime : ℕ → Type 0
IsEndTime n = (1 ≤ n) × (n ≤ 24)

-- a location: 32 bits
abbrev pub IsLocation : ℕ → Type 0
IsLocation n = n < 2 ^ 32

-- a byte
abbrev pub IsByte : ℕ → Type 0
IsByte n = n < 256

-- 0 or 1
abbrev pub IsBit : ℕ → Type 0
IsBit n = n ≤ 1

-- a letter from A to Z, by its ASCII code
abbrev pub IsLetter : ℕ → Type 0
IsLetter n = (65 ≤ n) × (n ≤ 90)
