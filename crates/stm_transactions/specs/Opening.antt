-- The first pass of a table.
use Rattle.std.specs.Prelude.{◌≡◌, []}
use Rattle.atomic_table.specs.declared.shared.Seat.{Seat}
use Rattle.core_events.specs.Events.{number, view_after}
use Rattle.core_table.specs.Known.{Known}
use Rattle.core_table.specs.Layout.{TableSight}
use Rattle.core_table.specs.Seats.{opener}
use Rattle.core_table.specs.Steps.{BelongsTo}
use Rattle.stm_transactions.specs.Numbers.{first_numbers}
use Rattle.stm_transactions.specs.Passes.{IsResting, PassSight, pass_view}

-- the seat is as the first one of this table is at its start
pub record IsFirstSeat {S X K : Type 0} (t : TableSight K) (s : Seat S (Known X)) : Type 0 where
  pub belongs : BelongsTo t s
  pub view : s.me.0.view ≡ opener t.setup
  pub slots : s.me.1 ≡ []

-- The pass has all draws and splits that the table gives, but for the split of its own thread
pub record IsFirstPass {X K : Type 0} (t : TableSight K) (p : PassSight X) : Type 0 where
  pub rests : IsResting t p
  pub view : pass_view p ≡ view_after t.setup number (opener t.setup) p.numbers.thread
  pub numbers : p.numbers ≡ first_numbers p.numbers.thread t.setup.threads t.setup.first
