-- What a step on a box, or a draw for one, leaves of the seat that makes it.
use Rattle.std.specs.Prelude.{◌≡◌, ℕ, List, [], ◌∷◌, ◌++◌, map}
use Rattle.atomic_table.specs.Table.{rest}
use Rattle.atomic_table.specs.declared.shared.Seat.{Seat}
use Rattle.core_events.specs.Setups.{Setup}
use Rattle.core_events.specs.Views.{View}
use Rattle.core_events.specs.Events.{Event, next_box, view_after}
use Rattle.core_events.specs.Telling.{IsTold}
use Rattle.core_table.specs.Known.{Known}
use Rattle.core_table.specs.Layout.{TableSight}
use Rattle.core_table.specs.Steps.{BelongsTo}

-- these slots, and before them that of the thread's next box, where it is taken: it holds what is taken
abbrev pub with_box : {S : Type 0} → List S → Setup → View → List (ℕ × S) → List (ℕ × S)
with_box taken z v slots = map (λ x. (next_box z v, x)) taken ++ slots

-- the slots without that of the next box, where it was taken
abbrev pub without_box : {S : Type 0} → List S → List (ℕ × S) → List (ℕ × S)
without_box [] slots = slots
without_box (x ∷ taken) slots = without_box taken (rest slots)

module _ {S X K : Type 0} where
  -- The seat made the event, which found the number n; it keeps its own number and what it has beside its view, and has these slots
  pub record HasMoved (t : TableSight K) (e : Event) (slots : List (ℕ × S)) (old new : Seat S (Known X)) (n : ℕ) : Type 0 where
    pub belongs : BelongsTo t new
    pub id : new.id ≡ old.id
    pub view : new.me.0.view ≡ view_after t.setup e old.me.0.view n
    pub beside : new.me.0.beside ≡ old.me.0.beside
    pub made : new.me.0.made ≡ e ∷ old.me.0.made
    pub slots_are : new.me.1 ≡ slots
    pub told : IsTold t.setup e old.me.0.view n

  -- the seat has the slot of its thread's next box, where a draw takes it
  abbrev pub HasBox : List S → TableSight K → Seat S (Known X) → Type 0
  HasBox taken t s = s.me.1 ≡ with_box taken t.setup s.me.0.view (without_box taken s.me.1)

  -- the seat made the event, found the number n, and took the slot of its thread's next box, where a draw takes it
  abbrev pub TakesBox : List S → TableSight K → Event → Seat S (Known X) → Seat S (Known X) → ℕ → Type 0
  TakesBox taken t e old new n = HasMoved t e (with_box taken t.setup old.me.0.view old.me.1) old new n

  -- the seat made the event, and gave that slot
  abbrev pub GivesBox : List S → TableSight K → Event → Seat S (Known X) → Seat S (Known X) → Type 0
  GivesBox taken t e old new = HasMoved t e (without_box taken old.me.1) old new 0
