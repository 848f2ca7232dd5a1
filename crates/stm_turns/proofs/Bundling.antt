-- What a persist that met a full ring, and what follows it, leave.
use Rattle.std.proofs.Common.{◌≡◌, ℕ, Bool, true, false, [], sym, subst}
use Rattle.std.specs.Prelude.{Ok}
use Rattle.dude_base.specs.Records.{RedoBundle}
use Rattle.pmem_trait.specs.Sights.{Sight}
use Rattle.pmem_trait.specs.declared.medium.Medium.{Ghosts}
use Rattle.back_store.specs.Back.{BackState}
use Rattle.atomic_table.specs.declared.shared.Seat.{Seat}
use Rattle.core_table.specs.Known.{Known}
use Rattle.core_table.specs.Layout.{TableSight}
use Rattle.stm_slots.specs.Beside.{Beside}
use Rattle.stm_slots.specs.declared.home.Home.{Home as TheHome}
use Rattle.stm_slots.specs.declared.slot.Slot.{Slot}
use Rattle.stm_slots.specs.declared.opening.Opening.{Opening}
use Rattle.stm_turns.specs.Bundles.{FoundFull, InTurnWith, IsFullStill, SteppedBy, SteppedWith}
use Rattle.stm_turns.specs.Turns.{Advanced, IsAnnounced, Stepped}
use Rattle.stm_turns.specs.declared.gathering.Gathering.{Gathering}
use Rattle.stm_turns.proofs.Seats.{advanced, then_advanced, then_turn}

-- where all was announced and reproduced before it was tried again
pub full_still : (ring : ℕ) (b : RedoBundle) (v w : BackState) (n : ℕ) → IsAnnounced v n → v.log.reproduced ≡ n → FoundFull ring b v w → IsFullStill ring b w
full_still ring b v w n announced reproduced found = subst (IsFullStill ring b) (sym found.0) (record { number = n; announced = announced; reproduced = reproduced; full = found.1 })

module _ {M : Type 0} {ghosts : Ghosts M} (sight : M → Sight) (t : TableSight (Opening M ghosts)) where
  abbrev TurnSeat : Type 0
  TurnSeat = Seat (Slot M ghosts) (Known Beside)

  -- by what a persist answered
  pub stepped_done : (old new : TurnSeat) (h : TheHome M ghosts) (g : Gathering) (done : Bool) → done ≡ true → SteppedBy sight t (Ok done) old new h g → Stepped sight t old new h []
  stepped_done old new h g done is s = subst (λ (d : Bool). SteppedBy sight t (Ok d) old new h g) is s

  pub stepped_full : (old new : TurnSeat) (h : TheHome M ghosts) (g : Gathering) (done : Bool) → done ≡ false → SteppedBy sight t (Ok done) old new h g → SteppedWith sight t old new h g
  stepped_full old new h g done is s = subst (λ (d : Bool). SteppedBy sight t (Ok d) old new h g) is s

  pub with_of : (old new : TurnSeat) (h : TheHome M ghosts) (g : Gathering) → SteppedWith sight t old new h g → InTurnWith sight t new h g
  with_of old new h g s = record { hand = s.hand; turn = s.step.turn; gathered = s.gathered }

  -- steps behind steps with the records in hand
  pub then_bare : (old mid new : TurnSeat) (h h2 : TheHome M ghosts) (g : Gathering) → SteppedWith sight t old mid h g → Stepped sight t mid new h2 [] → Stepped sight t old new h2 []
  then_bare old mid new h h2 g a b = then_turn sight t old mid new h h2 a.hand [] a.step b

  pub then_advanced_bare : (before after : ℕ) (old mid new : TurnSeat) (h h2 : TheHome M ghosts) (g : Gathering) → SteppedWith sight t old mid h g → Advanced sight t before after mid new h2 [] → Advanced sight t before after old new h2 []
  then_advanced_bare before after old mid new h h2 g a b = then_advanced sight t before before after old mid new h h2 a.hand [] (advanced sight t before old mid h a.hand a.step) b

  pub then_with : (old mid new : TurnSeat) (h h2 : TheHome M ghosts) (g g2 : Gathering) → SteppedWith sight t old mid h g → SteppedWith sight t mid new h2 g2 → SteppedWith sight t old new h2 g2
  then_with old mid new h h2 g g2 a b = record { hand = b.hand; step = then_turn sight t old mid new h h2 a.hand b.hand a.step b.step; gathered = b.gathered }
