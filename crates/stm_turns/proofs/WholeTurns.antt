-- What a whole turn leaves of the seat that had it.
use Rattle.std.proofs.Common.{◌≡◌, ◌≢◌, ◌+◌, ℕ, ◌||◌, Bool, true, false, refl, ap, ◌∙◌, arith, ne_eqb}
use Rattle.std.specs.Prelude.{[]}
use Rattle.pmem_trait.specs.Sights.{Sight}
use Rattle.pmem_trait.specs.declared.medium.Medium.{Ghosts}
use Rattle.back_store.specs.BackView.{state_of}
use Rattle.atomic_table.specs.declared.shared.Seat.{Seat}
use Rattle.core_events.specs.Setups.{Setup}
use Rattle.core_events.specs.Keyed.{has}
use Rattle.core_events.specs.Views.{View}
use Rattle.core_events.specs.Events.{take_turn, give_turn, view_after}
use Rattle.core_table.specs.Known.{Known}
use Rattle.core_table.specs.Layout.{TableSight}
use Rattle.core_table.specs.Steps.{IsAfter}
use Rattle.stm_slots.specs.Beside.{Beside}
use Rattle.stm_slots.specs.declared.home.Home.{Home as TheHome}
use Rattle.stm_slots.specs.declared.slot.Slot.{Slot}
use Rattle.stm_slots.specs.declared.opening.Opening.{Opening}
use Rattle.stm_turns.specs.Pump.{HadTurn, HasFailed, HasPumped, SteppedEmpty}
use Rattle.stm_turns.specs.Bundles.{NextIsNotDrawn}
use Rattle.stm_turns.specs.Turns.{Advanced, DurableRises, EndsSettled, HasTaken, IsBare, IsOthers, IsOwn, raised_view}
use Rattle.stm_turns.specs.declared.pumped.Pumped.{Pumped}

pub or_true : (b : Bool) → (b || true) ≡ true
or_true true = refl
or_true false = refl

module _ {M : Type 0} {ghosts : Ghosts M} (sight : M → Sight) (t : TableSight (Opening M ghosts)) where
  abbrev TurnSeat : Type 0
  TurnSeat = Seat (Slot M ghosts) (Known Beside)

  module _ (failed : Bool) (before after : ℕ) (old took gave new : TurnSeat) (first last : TheHome M ghosts) (taken : HasTaken sight t old took first) (steps : Advanced sight t before after took gave last []) (is_given : IsAfter t (give_turn failed) gave new 0) where
    abbrev pub had_turn : HadTurn sight t (SteppedEmpty sight t) failed old new
    had_turn = record {
      took = took;
      first = first;
      taken = taken;
      gave = gave;
      last = last;
      steps = record { id = steps.id; turn = steps.turn; view = steps.view; durable = record { rises = steps.durable.rises; tells = λ same. refl }; handed = steps.handed };
      is_given = is_given;
    }

    pub turn_view : raised_view new.me.0.view ≡ raised_view (view_after t.setup (give_turn failed) (view_after t.setup take_turn old.me.0.view 0) 0)
    turn_view = ap raised_view is_given ∙ (ap (λ (v : View). raised_view (view_after t.setup (give_turn failed) v 0)) steps.view ∙ ap (λ (v : View). raised_view (view_after t.setup (give_turn failed) v 0)) taken.is_after)

  module _ (before after : ℕ) (old took gave new : TurnSeat) (first last : TheHome M ghosts) (taken : HasTaken sight t old took first) (steps : Advanced sight t before after took gave last []) where
    pub has_pumped : (pumped : Pumped) → IsAfter t (give_turn false) gave new 0 → (state_of first.back).dead ≡ false → EndsSettled gave last pumped.durable → NextIsNotDrawn gave pumped.durable → pumped.reproduced ≡ pumped.durable → HasPumped sight t pumped old new
    has_pumped pumped is_given alive settled next reproduced = record {
      turn = had_turn false before after old took gave new first last taken steps is_given;
      before = alive;
      settled = settled;
      reproduced = reproduced;
      durable = ap (λ (v : View). v.turn.durable) is_given ∙ settled.durable;
      next = ap (λ (v : View). has v.drawn (pumped.durable + 1)) is_given ∙ next;
      view = turn_view false before after old took gave new first last taken steps is_given;
    }

    pub has_failed : (was_dead : Bool) → IsAfter t (give_turn true) gave new 0 → (state_of first.back).dead ≡ was_dead → (state_of last.back).dead ≡ true → HasFailed sight t was_dead old new
    has_failed was_dead is_given was is = record {
      turn = had_turn true before after old took gave new first last taken steps is_given;
      before = was;
      after = is;
      met_fault = ap (λ (v : View). v.turn.met_fault) is_given ∙ or_true gave.me.0.view.turn.met_fault;
      view = turn_view true before after old took gave new first last taken steps is_given;
    }

-- ---- the durable number that the seat knows
-- over a whole turn it goes as in the steps between
pub turn_durable : {S K : Type 0} (t : TableSight K) (failed : Bool) (before after : ℕ) (old took gave new : Seat S (Known Beside)) → IsAfter t take_turn old took 0 → DurableRises before after took gave → IsAfter t (give_turn failed) gave new 0 → DurableRises before after old new
turn_durable t failed before after old took gave new taken d given =
    let first = ap (λ (v : View). v.turn.durable) taken in let last = ap (λ (v : View). v.turn.durable) given in
    record { rises = (let l = d.rises in omega arith); tells = λ is. last ∙ d.tells (first ∙ is) }

-- where the turn is another's, it stays
pub others_durable : {S K : Type 0} (t : TableSight K) (n seen : ℕ) (old new : Seat S (Known Beside)) → IsOthers t seen old new → DurableRises n n old new
others_durable t n seen old new o =
    let same : new.me.0.view.turn.durable ≡ old.me.0.view.turn.durable = ap (λ (v : View). v.turn.durable) o.view ∙ missed t.setup old.me.0.view seen o.held in
    record { rises = omega arith; tells = λ is. same ∙ is }
  where
    missed : (z : Setup) (v : View) (m : ℕ) → m ≢ 0 → (view_after z take_turn v m).turn.durable ≡ v.turn.durable
    missed z v m some = rw (ne_eqb m 0 some) refl

-- a turn without a step between
pub none_durable : {S : Type 0} (n : ℕ) (seat : Seat S (Known Beside)) → DurableRises n n seat seat
none_durable n seat = record { rises = omega arith; tells = λ is. is }

-- the seat that took the turn is of its thread still
pub own_taken : {S K : Type 0} (t : TableSight K) (own : ℕ) (old took : Seat S (Known Beside)) → IsAfter t take_turn old took 0 → IsOwn own old → IsOwn own took
own_taken t own old took is own_old = (ap (λ (v : View). v.part.thread) is ∙ own_old.0, ap (λ (v : View). v.tx.hand.number) is ∙ own_old.1)

-- the turn was given, and no slot is out
pub bare_from : {S X K : Type 0} (t : TableSight K) (old mid new : Seat S (Known X)) → mid.id ≡ old.id → IsBare t mid new → IsBare t old new
bare_from t old mid new id b = record { belongs = b.belongs; id = b.id ∙ id; slots = b.slots }
