-- What a turn that persists what boxes have leaves of the seat that has it.
use Rattle.std.specs.Prelude.{◌≡◌, ◌≢◌, Bool, true, false, []}
use Rattle.pmem_trait.specs.Sights.{Sight}
use Rattle.pmem_trait.specs.declared.medium.Medium.{Ghosts}
use Rattle.back_store.specs.BackView.{state_of}
use Rattle.atomic_table.specs.declared.shared.Seat.{Seat}
use Rattle.core_events.specs.Events.{take_turn, give_turn, view_after}
use Rattle.core_table.specs.Known.{Known}
use Rattle.core_table.specs.Layout.{TableSight}
use Rattle.core_table.specs.Steps.{IsAfter}
use Rattle.stm_slots.specs.Beside.{Beside}
use Rattle.stm_slots.specs.declared.home.Home.{Home as TheHome}
use Rattle.stm_slots.specs.declared.slot.Slot.{Slot}
use Rattle.stm_slots.specs.declared.opening.Opening.{Opening}
use Rattle.stm_turns.specs.Bundles.{NextIsNotDrawn}
use Rattle.stm_turns.specs.Turns.{Advanced, EndsSettled, HasTaken, raised_view}
use Rattle.stm_turns.specs.declared.pumped.Pumped.{Pumped}
use Rattle.stm_turns.specs.declared.pump_fault.PumpFault.{PumpFault}
use Rattle.stm_turns.specs.declared.pump_fault.PumpFault.TheVariants.{Held, Device, Dead}

module _ {M : Type 0} {ghosts : Ghosts M} (sight : M → Sight) (t : TableSight (Opening M ghosts)) where
  -- The seat took the turn, and what the back's slot had is this; it made steps like these, and gave it back with this one
  pub record HadTurn (Made : Seat (Slot M ghosts) (Known Beside) → Seat (Slot M ghosts) (Known Beside) → TheHome M ghosts → Type 0) (failed : Bool) (old new : Seat (Slot M ghosts) (Known Beside)) : Type 0 where
    -- the seat as the turn is taken, and what it has with it
    pub took : Seat (Slot M ghosts) (Known Beside)
    pub first : TheHome M ghosts
    pub taken : HasTaken sight t old took first
    -- the seat as the turn is given, and what it has then
    pub gave : Seat (Slot M ghosts) (Known Beside)
    pub last : TheHome M ghosts
    pub steps : Made took gave last
    pub is_given : IsAfter t (give_turn failed) gave new 0

  -- steps of the turn, with no record in hand behind them
  abbrev pub SteppedEmpty : Seat (Slot M ghosts) (Known Beside) → Seat (Slot M ghosts) (Known Beside) → TheHome M ghosts → Type 0
  SteppedEmpty took gave last = Advanced sight t took.me.0.view.turn.durable gave.me.0.view.turn.durable took gave last []

  -- The back wasn't dead; all up to a number is announced, and in the home
  pub record HasPumped (pumped : Pumped) (old new : Seat (Slot M ghosts) (Known Beside)) : Type 0 where
    pub turn : HadTurn SteppedEmpty false old new
    pub before : (state_of turn.first.back).dead ≡ false
    pub settled : EndsSettled turn.gave turn.last pumped.durable
    pub reproduced : pumped.reproduced ≡ pumped.durable
    -- the view knows it, and didn't draw the next number
    pub durable : new.me.0.view.turn.durable ≡ pumped.durable
    pub next : NextIsNotDrawn new pumped.durable
    -- all else of the view is that of a seat that took the turn and gave it
    pub view : raised_view new.me.0.view ≡ raised_view (view_after t.setup (give_turn false) (view_after t.setup take_turn old.me.0.view 0) 0)

  -- A turn in which the back was, or became, dead: the view has met a fault
  pub record HasFailed (was_dead : Bool) (old new : Seat (Slot M ghosts) (Known Beside)) : Type 0 where
    pub turn : HadTurn SteppedEmpty true old new
    pub before : (state_of turn.first.back).dead ≡ was_dead
    pub after : (state_of turn.last.back).dead ≡ true
    pub met_fault : new.me.0.view.turn.met_fault ≡ true
    -- all else of the view is that of a seat that took the turn and gave it
    pub view : raised_view new.me.0.view ≡ raised_view (view_after t.setup (give_turn true) (view_after t.setup take_turn old.me.0.view 0) 0)

  -- The turn word wasn't 0; or a call of the back in this turn failed; or the back was dead before
  abbrev pub HasPumpFault : PumpFault → Seat (Slot M ghosts) (Known Beside) → Seat (Slot M ghosts) (Known Beside) → Type 0
  HasPumpFault (Held seen) old new = (seen ≢ 0) × IsAfter t take_turn old new seen
  HasPumpFault Device old new = HasFailed false old new
  HasPumpFault Dead old new = HasFailed true old new
