-- Lemmas on the zeros before short phone numbers.
use Rattle.std.proofs.Common.{ℕ, ◌≡◌, ◌-◌, min, take, drop, arith}
use Rattle.std.specs.Prelude.{replicate}
use Rattle.std.proofs.lemmas.List.{take_all, drop-replicate, length-replicate}

-- the last of fifteen zeros, behind as many as a number has digits
pub zeros_before : (digits skipped : ℕ) → skipped ≡ min digits 15 → take {A = ℕ} (15 - skipped) (drop skipped (replicate 15 48)) ≡ replicate (15 - digits) 48
zeros_before digits skipped is =
    let fewer : 15 - skipped ≡ 15 - digits = omega (arith, is) in
    rw (drop-replicate {X = ℕ} skipped 15 48, fewer) (take_all (15 - digits) (replicate (15 - digits) 48) (omega (arith, length-replicate {A = ℕ} (15 - digits) 48)))
