-- Steps of the history that are allowed, and what the seat knows of the rest of the state where they ask something of it.
use Rattle.std.proofs.Common.{◌≡◌, ℕ, List, [], ◌∷◌, refl, ap, ◌∙◌, arith}
use mathlib.Core.Option.{Option}
use Rattle.core_events.specs.Setups.{Setup}
use Rattle.core_events.specs.Keyed.{find, has}
use Rattle.core_events.specs.Views.{View}
use Rattle.core_events.specs.Words.{State}
use Rattle.core_events.specs.Events.{Event, store, touch, take_turn, see_full, empty_box, raise_durable, raise_reproduced, view_after}
use Rattle.core_events.specs.Conditions.{May}
use Rattle.core_table.specs.Known.{Known}
use Rattle.core_table.specs.Rules.{Foreseen}
use Rattle.core_table.specs.Foreseen.{EmptiesFull, RaisesDurable, RaisesReproduced}
use Rattle.core_runs.specs.Views.{two, decided, posted, emptied, after_all}

pub can_store : May two (store 3) decided
can_store = record { live = refl; threaded = (0, refl); named = omega arith; can = (refl, (7, refl), (0, refl), (0, refl)) }

pub can_touch : May two (touch 0) (view_after two (store 3) decided 0)
can_touch = record { live = refl; threaded = (0, refl); named = omega arith; can = (refl, (3, (7, refl), refl), (0, refl)) }

abbrev pub turn_taken : View
turn_taken = after_all ((take_turn, 0) ∷ (see_full 0 0, 1) ∷ []) posted

abbrev pub durable_one : View
durable_one = view_after two (raise_durable 1) emptied 0

module _ {S X K : Type 0} (slot_fact : K → State → List X → List (Option S) → Type 0) (key : K) (id : ℕ) (k : Known X) where
  pub empty_fits : EmptiesFull slot_fact → k.view ≡ turn_taken → Foreseen (slot_fact key) two (empty_box 0 0) id k
  empty_fits law is = law key two id k 0 0 1 (ap (λ (v : View). v.turn.has_it) is) (ap (λ (v : View). find v.turn.full 0) is)

  pub durable_fits : RaisesDurable slot_fact → k.view ≡ emptied → Foreseen (slot_fact key) two (raise_durable 1) id k
  durable_fits law is = let draws : k.view.draws ≡ emptied.draws = ap (λ (v : View). v.draws) is in law key two id k 1 (ap (λ (v : View). has v.drawn 1) is) (omega arith)

  pub reproduced_fits : RaisesReproduced slot_fact → k.view ≡ durable_one → Foreseen (slot_fact key) two (raise_reproduced 1) id k
  reproduced_fits law is = let draws : k.view.draws ≡ durable_one.draws = ap (λ (v : View). v.draws) is in law key two id k 1 (ap (λ (v : View). has v.drawn 1) is) (omega arith)

-- the view after a step, where the one before and the number found are known
pub next_view : (z : Setup) (e : Event) (v w u : View) (n m : ℕ) → z ≡ two → v ≡ u → n ≡ m → w ≡ view_after z e v n → w ≡ view_after two e u m
next_view z e v w u n m setup before found is = is ∙ (λ i. view_after (setup i) e (before i) (found i))
