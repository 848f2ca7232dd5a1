-- A word that is a version up to the snapshot.
use Rattle.std.proofs.Common.{◌≡◌, ◌*◌, ◌/◌, ◌%◌, ◌≤◌, ℕ, leb, arith}
use Rattle.std.proofs.lemmas.Bool.{cases_from_iff}
use Rattle.std.proofs.lemmas.Bool.Decides.{nat_tests}
use Rattle.dude_core.specs.Named.{Tells}

pub version_tells : (n s : ℕ) → n % 2 ≡ 0 → Tells (leb (n / 2) s) ((u : ℕ) × (n ≡ 2 * u) × (u ≤ s))
version_tells n s even = cases_from_iff {P = (u : ℕ) × (n ≡ 2 * u) × (u ≤ s)}
    ((λ t. (n / 2, omega arith, grind (arith, nat_tests))), (λ h. let e = h.1 in let le = h.2 in let m : n / 2 ≤ s = omega arith in grind (arith, nat_tests)))
