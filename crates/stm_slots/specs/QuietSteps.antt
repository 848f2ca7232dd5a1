-- Which steps keep the rule of the slots, whoever makes them, with no slot moved and nothing changed beside the view.
use Rattle.std.specs.Prelude.{◌≡◌, ℕ, Bool, true, false, List}
use mathlib.Core.Option.{Option as Maybe}
use Rattle.pmem_trait.specs.Sights.{Sight}
use Rattle.pmem_trait.specs.declared.medium.Medium.{Ghosts}
use Rattle.core_events.specs.Words.{State}
use Rattle.core_events.specs.Events.{Event, draw, post, take_turn, give_turn, see_full, empty_box, raise_durable, raise_reproduced, evict, show}
use Rattle.core_table.specs.Layout.{TableSight}
use Rattle.core_table.specs.Rules.{Outlasts, OutlastsSplit, OutlastsJoin}
use Rattle.stm_slots.specs.Beside.{Beside, nothing_beside}
use Rattle.stm_slots.specs.Stage.{stage_of}
use Rattle.stm_slots.specs.Opening.{setup_of}
use Rattle.stm_slots.specs.Rule.{SlotsKept}
use Rattle.stm_slots.specs.declared.slot.Slot.{Slot}
use Rattle.stm_slots.specs.declared.opening.Opening.{Opening}

-- the event moves no slot, and changes nothing of what the holder of the turn keeps beside its view
abbrev pub is_quiet : Event → Bool
is_quiet (draw a ws) = false
is_quiet post = false
is_quiet take_turn = false
is_quiet (give_turn failed) = false
is_quiet (see_full t j) = false
is_quiet (empty_box t j) = false
is_quiet (raise_durable x) = false
is_quiet (raise_reproduced x) = false
is_quiet (evict p) = false
is_quiet (show p f) = false
is_quiet e = true

module _ {M : Type 0} {ghosts : Ghosts M} (sight : M → Sight) where
  -- the slots of the state are kept
  abbrev pub fact_of : Opening M ghosts → State → List Beside → List (Maybe (Slot M ghosts)) → Type 0
  fact_of o c xs homes = SlotsKept sight o (stage_of c) xs homes

  -- Of a table: its setup is that of its key, and a quiet event keeps the rule, whoever makes it; so do a split and a join
  pub record LawOfQuietSteps (t : TableSight (Opening M ghosts)) : Type 0 where
    pub setup : t.setup ≡ setup_of sight t.key
    pub events : (e : Event) → is_quiet e ≡ true → Outlasts (fact_of t.key) t.setup e
    pub splits : (draws : ℕ) → OutlastsSplit (fact_of t.key) t.setup draws nothing_beside
    pub joins : OutlastsJoin (fact_of t.key) t.setup nothing_beside
