-- What a seat keeps in a turn in which it empties boxes.
use Rattle.std.specs.Prelude.{◌≡◌, true, []}
use Rattle.atomic_table.specs.declared.shared.Seat.{Seat}
use Rattle.core_events.specs.Conditions.{IsIdle}
use Rattle.core_table.specs.Known.{Known}
use Rattle.core_table.specs.Layout.{TableSight}
use Rattle.core_table.specs.Steps.{BelongsTo}
use Rattle.stm_transactions.specs.declared.pass_numbers.PassNumbers.{PassNumbers}
use Rattle.stm_transactions.specs.Passes.{Describes}

-- It has the turn, no transaction of it is open, and these numbers describe it
pub record IsTurning {S X K : Type 0} (t : TableSight K) (f : PassNumbers) (s : Seat S (Known X)) : Type 0 where
  pub belongs : BelongsTo t s
  pub slots : s.me.1 ≡ []
  pub has_it : s.me.0.view.turn.has_it ≡ true
  pub idle : IsIdle s.me.0.view
  pub describes : Describes t.setup f s.me.0.view
