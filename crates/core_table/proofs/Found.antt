-- What a step that was made leaves of its seat, and what a join leaves.
use Rattle.std.proofs.Common.{◌≡◌, ℕ, List, refl, ◌∙◌}
use mathlib.Core.Option.{Option}
use Rattle.atomic_table.specs.declared.shared.Seat.{Seat}
use Rattle.core_events.specs.Setups.{Setup}
use Rattle.core_events.specs.Words.{State}
use Rattle.core_events.specs.Events.{Event}
use Rattle.core_table.specs.Layout.{TableSight}
use Rattle.core_table.specs.Known.{Known}
use Rattle.core_table.specs.Steps.{BelongsTo, MayStepAt, Does, Puts, Rests, StepFinds, StepMakes, NowKnows}

module _ {S X K : Type 0} (slot_fact : K → State → List X → List (Option S) → Type 0) (t : TableSight K) (z : Setup) (e : Event) (old new : Seat S (Known X)) (i : ℕ) (may : MayStepAt slot_fact t e old z i) where
  setup : z ≡ t.setup
  setup = may.at.setup

  seat : BelongsTo t old
  seat = may.may.seat

  -- a step that is told the number that it found
  pub found_by_step : (n : ℕ) → (new.table_id ≡ old.table_id) × (new.id ≡ old.id) × Does z e old.me n new.me → StepFinds t e old new n
  found_by_step n (table, id, does) = record {
    view = rw (does.0, setup) refl;
    found = record {
      made = record {
        belongs = record { table = table ∙ seat.table; small = seat.small; seated = rw (does.0, ← setup) does.1.after };
        id = id;
        beside = rw does.0 refl;
        slots = rw does.0 refl;
        made = rw does.0 refl;
      };
      told = rw (← setup) does.1;
    };
  }

  -- a store, which isn't told it
  pub made_by_store : (new.table_id ≡ old.table_id) × (new.id ≡ old.id) × Puts z e old.me new.me → StepMakes t e old new
  made_by_store (table, id, puts) = record {
    view = rw (puts.0, setup) refl;
    made = record {
      belongs = record { table = table ∙ seat.table; small = seat.small; seated = rw (← setup) puts.1 };
      id = id;
      beside = rw puts.0 refl;
      slots = rw puts.0 refl;
      made = rw puts.0 refl;
    };
  }

-- a seat knows k after a join, and rests in a load behind it
pub joined_by : {S X K : Type 0} (t : TableSight K) (z : Setup) (old joined new : Seat S (Known X)) (k : Known X) → z ≡ t.setup → BelongsTo t old → joined.table_id ≡ old.table_id → joined.id ≡ old.id → joined.me ≡ (k, old.me.1)
    → new.table_id ≡ joined.table_id → new.id ≡ joined.id → Rests z joined.me new.me → NowKnows t old new k
joined_by t z old joined new k setup seat table id me table_on id_on rests = (
  record { table = table_on ∙ (table ∙ seat.table); small = seat.small; seated = rw (rests.0, ← setup) rests.1 },
  id_on ∙ id,
  rests.0 ∙ me,
)
