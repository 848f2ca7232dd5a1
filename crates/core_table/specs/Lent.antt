-- What a seat ends as, where a `&mut` to the slot that it took last is returned.
use Rattle.std.specs.Prelude.{ℕ}
use Rattle.std.specs.Borrow.{Lends, Fml, RattleType, MutBor}
use Rattle.atomic_table.specs.Lent.{seat_with}
use Rattle.atomic_table.specs.contracts.shared.Seat.{the_row as seat_row}
use Rattle.atomic_table.specs.declared.shared.Seat.{Seat}
use Rattle.core_table.specs.Known.{Known}
use Rattle.core_table.specs.contracts.known.Known.{the_row as known_row}

-- once the borrow r ends, the slot k of the seat has the last value written through r
abbrev pub LendsSlot : (S X : RattleType) → MutBor (Seat S.Denot (Known X.Denot)) → ℕ → MutBor S.Denot → Fml
LendsSlot S X seat k r = Lends (seat_row S (known_row X)) S seat r (seat_with seat.now k)
