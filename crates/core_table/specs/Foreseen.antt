-- Where a seat knows by its view alone that the rest of the state has what an event asks of it.
use Rattle.std.specs.Prelude.{◌≡◌, ℕ, ◌+◌, ◌≤◌, true, List, Some}
use mathlib.Core.Option.{Option}
use Rattle.dude_base.specs.declared.limits.TheConstants.{MAX_NUMBER}
use Rattle.core_events.specs.Setups.{Setup, box_of}
use Rattle.core_events.specs.Keyed.{find, has}
use Rattle.core_events.specs.Words.{State}
use Rattle.core_events.specs.Events.{empty_box, raise_durable, raise_reproduced}
use Rattle.core_table.specs.Known.{Known}
use Rattle.core_table.specs.Rules.{Foreseen}

module _ {S X K : Type 0} (slot_fact : K → State → List X → List (Option S) → Type 0) where
  -- the turn is had, and the box was seen full in it
  abbrev pub EmptiesFull : Type 0
  EmptiesFull = (key : K) (z : Setup) (id : ℕ) (k : Known X) (t j n : ℕ) → k.view.turn.has_it ≡ true → find k.view.turn.full (box_of z t j) ≡ Some n → Foreseen (slot_fact key) z (empty_box t j) id k

  -- the number was drawn, and none over it
  abbrev pub RaisesDurable : Type 0
  RaisesDurable = (key : K) (z : Setup) (id : ℕ) (k : Known X) (x : ℕ) → has k.view.drawn x ≡ true → MAX_NUMBER ≤ k.view.draws + x → Foreseen (slot_fact key) z (raise_durable x) id k

  -- so it is for the reproduced number
  abbrev pub RaisesReproduced : Type 0
  RaisesReproduced = (key : K) (z : Setup) (id : ℕ) (k : Known X) (x : ℕ) → has k.view.drawn x ≡ true → MAX_NUMBER ≤ k.view.draws + x → Foreseen (slot_fact key) z (raise_reproduced x) id k
