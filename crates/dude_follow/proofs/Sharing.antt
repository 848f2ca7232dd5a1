-- Packets that share a number, or stand apart.
use Rattle.std.proofs.Common.{◌≡◌, ◌⊎◌, inl, inr, ◌<◌, ◌≤◌, arith}
use Rattle.std.proofs.lemmas.Bool.{cases_order}
use Rattle.dude_base.specs.Records.{RedoBundle, first_of}
use Rattle.dude_follow.specs.Packets.{Share}

-- two that aren't apart share a number
pub shared : (b c : RedoBundle) → first_of c ≤ b.last → first_of b ≤ c.last → Share b c
shared b c low high = by (cases_order (first_of b) (first_of c))
  where
    from_b : first_of c ≤ first_of b → Share b c
    from_b up = record { number = first_of b; one = record { low = omega arith; high = omega arith }; other = record { low = up; high = high } }

    by : (first_of b ≡ first_of c) ⊎ ((first_of b < first_of c) ⊎ (first_of c < first_of b)) → Share b c
    by (inl same) = from_b (omega (arith, same))
    by (inr (inl lt)) = record { number = first_of c; one = record { low = omega (arith, lt); high = low }; other = record { low = omega arith; high = omega arith } }
    by (inr (inr gt)) = from_b (omega (arith, gt))

pub apart_up : (b c : RedoBundle) → b.last < first_of c → Share b c → ⊥
apart_up b c apart s = (let high = s.one.high in let low = s.other.low in omega (arith, apart, high, low))

pub apart_down : (b c : RedoBundle) → c.last < first_of b → Share b c → ⊥
apart_down b c apart s = (let high = s.other.high in let low = s.one.low in omega (arith, apart, high, low))
