use Rattle.std.proofs.Common.{◌≡◌, ◌-◌, drop, length}
use Rattle.tatp_layout.specs.Digits.{from_digits}
use Rattle.tatp_rows.proofs.packing.packed.Given as goal

-- the digits behind this one are packed
abbrev pub invariant-loop-done : goal.invariant-loop-done
invariant-loop-done l = l.number ≡ from_digits l.base (drop (length l.digits - l.done) l.digits)
