-- The rule of the table: its words and views are those of a kept state of the machine, and a user's fact holds of the slots.
use Rattle.std.specs.Prelude.{◌≡◌, ℕ, List, [], ◌∷◌, ◌++◌, map, false, slice_set}
use mathlib.Core.Option.{Option, some}
use lib.ListN.{get_elem?}
use Rattle.atomic_table.specs.Table.{State as TableState, Me, Act, Valid, homes_after, carried_after}
use Rattle.core_events.specs.Setups.{Setup}
use Rattle.core_events.specs.Views.{View}
use Rattle.core_events.specs.Words.{State, found}
use Rattle.core_events.specs.Events.{Event, name, view_after}
use Rattle.core_events.specs.Conditions.{Fits, IsAllowed, after}
use Rattle.core_events.specs.Partings.{MaySplit, MayJoin, split, join}
use Rattle.core_events.specs.Kept.{Kept}
use Rattle.core_events.specs.Telling.{IsTold}
use Rattle.core_table.specs.Places.{flat}
use Rattle.core_table.specs.Known.{Known, view_of, beside_of}

-- one that stands in where a type asks for some setup
abbrev pub no_setup : Setup
no_setup = record { threads = 0; locks = 0; pages = 0; frames = 0; boxes = 0; opening = []; first = 0; is_told = false; may_fail = false }

module _ {S X : Type 0} (slot_fact : State → List X → List (Option S) → Type 0) (z : Setup) where
  -- the fact is of the state, of what the seats know beside their views, and of the slots that are at home
  pub record Holds (s : TableState S (Known X)) : Type 0 where
    pub core : State
    pub words : s.words ≡ flat core
    pub views : map view_of s.views ≡ core.views
    pub kept : Kept z core
    pub slots : slot_fact core (map beside_of s.views) s.homes

  -- The fact of the slots outlasts the event, whoever makes it, where no slot is moved
  abbrev pub Outlasts : Event → Type 0
  Outlasts e = (c : State) (who : ℕ) (v : View) (xs : List X) (homes : List (Option S)) → Kept z c → IsAllowed z c who e v → slot_fact c xs homes → slot_fact (after z c who v e) xs homes

  -- It outlasts a split of so many draws, where the new seat has x beside its view
  abbrev pub OutlastsSplit : ℕ → X → Type 0
  OutlastsSplit draws x = (c : State) (who : ℕ) (v : View) (xs : List X) (homes : List (Option S)) → Kept z c → MaySplit c who v draws → slot_fact c xs homes → slot_fact (split z c who v draws) (xs ++ x ∷ []) homes

  -- It outlasts a join, where the seat that is spent has x beside its view
  abbrev pub OutlastsJoin : X → Type 0
  OutlastsJoin x = (c : State) (who other : ℕ) (v w : View) (xs : List X) (homes : List (Option S)) → Kept z c → MayJoin c who v other w → slot_fact c xs homes → slot_fact (join z c who v other w) (slice_set xs other x) homes

  -- Whatever the table is while the seat knows this, the state has what the event asks of it beside the view
  abbrev pub Foreseen : Event → ℕ → Known X → Type 0
  Foreseen e id k = (s : TableState S (Known X)) (h : Holds s) → get_elem? s.views id ≡ some k → Fits z e h.core k.view

  -- What a step that is the event e owes of the slots, and tells of the number found: an act on slots and something to keep beside the
  -- view, with which the fact of the slots holds again
  abbrev pub Acts : Event → ℕ → Me S (Known X) → (ℕ → Me S (Known X) → Type 0) → Type 0
  Acts e id me then = (c : State) (xs : List X) (homes : List (Option S)) → Kept z c → IsAllowed z c id e me.0.view → get_elem? xs id ≡ some me.0.beside → slot_fact c xs homes
      → (a : Act S) × (x : X) × Valid homes me.1 a × slot_fact (after z c id me.0.view e) (slice_set xs id x) (homes_after homes me.1 a)
      × (IsTold z e me.0.view (found c (name z e me.0.view)) → then (found c (name z e me.0.view)) (record { view = view_after z e me.0.view (found c (name z e me.0.view)); beside = x; made = e ∷ me.0.made }, carried_after me.1 a))
