-- The first pass rests.
use Rattle.std.proofs.Common.{◌≡◌, ℕ, refl, arith}
use Rattle.atomic_table.specs.declared.shared.Seat.{Seat}
use Rattle.core_events.specs.Setups.{Setup}
use Rattle.core_events.specs.Events.{number, view_after}
use Rattle.core_table.specs.Known.{Known}
use Rattle.core_table.specs.Layout.{TableSight}
use Rattle.core_table.specs.Seats.{opener}
use Rattle.core_table.specs.Steps.{BelongsTo}
use Rattle.stm_transactions.specs.declared.pass_numbers.PassNumbers.{PassNumbers}
use Rattle.stm_transactions.specs.Numbers.{first_numbers}
use Rattle.stm_transactions.specs.Opening.{IsFirstPass}
use Rattle.stm_transactions.specs.Passes.{Describes, PassSight, is_given}
use Rattle.stm_transactions.proofs.Rests.{given_rests}

first_describes : (z : Setup) (thread : ℕ) → Describes z (first_numbers thread z.threads z.first) (view_after z number (opener z) thread)
first_describes z thread = record { of = record { live = refl; its = refl }; next = refl; last = refl; drawn = refl; left = refl; splits = refl; durable = refl; met_fault = refl; few = omega arith; opening = refl }

pub opens : {S X K : Type 0} (t : TableSight K) (u : Seat S (Known X)) (thread : ℕ) (f : PassNumbers) (p : PassSight X) → u.me.0.view ≡ view_after t.setup number (opener t.setup) thread → BelongsTo t u → f ≡ first_numbers thread t.setup.threads t.setup.first → p ≡ is_given u f → IsFirstPass t p
opens t u thread f p is b ef ep = rw (ep, ef) (record {
  rests = given_rests t u (first_numbers thread t.setup.threads t.setup.first) (view_after t.setup number (opener t.setup) thread) is b (record { no_number = refl; no_lock = refl; no_pin = refl }) refl (first_describes t.setup thread);
  view = is;
  numbers = refl;
})
