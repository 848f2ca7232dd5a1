-- The phone numbers that call rows forward to, by the rows' keys.
use Rattle.std.specs.Prelude.{ℕ, ◌==◌, ◌&&◌, nat_lt, nat_le, Bool, List, map, filter}
use Rattle.tatp_model.specs.declared.call_row.CallRow.{CallRow}
use Rattle.tatp_model.specs.Database.{call_key}

-- call rows with keys from one on and below another, which end after an hour
abbrev pub is_within : ℕ → ℕ → ℕ → CallRow → Bool
is_within first bound end_time r = nat_lt (call_key r) bound && (nat_le first (call_key r) && nat_lt end_time r.end_time)

-- the numbers that these have, in the order of the rows
abbrev pub numbers_within : ℕ → ℕ → ℕ → List CallRow → List ℕ
numbers_within first bound end_time rows = map (λ r. r.numberx) (filter (is_within first bound end_time) rows)

-- the numbers of the rows with one key, which end after an hour
abbrev pub numbers_at : ℕ → ℕ → List CallRow → List ℕ
numbers_at key end_time rows = map (λ r. r.numberx) (filter (λ r. (call_key r == key) && nat_lt end_time r.end_time) rows)
