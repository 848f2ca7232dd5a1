-- What a seat knows of the rest of the state by its view alone.
use Rattle.std.proofs.Common.{◌≡◌, ℕ, List, arith}
use mathlib.Core.Option.{Option, some}
use lib.ListN.{get_elem?}
use Rattle.atomic_table.specs.Table.{State as TableState}
use Rattle.core_events.specs.Setups.{Setup, box_of}
use Rattle.core_events.specs.Words.{State}
use Rattle.core_events.proofs.Lists.{at_map}
use Rattle.core_events.proofs.Telling.{keeps_full, leaves_draws, has_drawn, has_raised}
use Rattle.core_table.specs.Foreseen.{EmptiesFull, RaisesDurable, RaisesReproduced}
use Rattle.core_table.specs.Known.{Known, view_of}
use Rattle.core_table.specs.Rules.{Holds}

module _ {S X : Type 0} (slot_fact : State → List X → List (Option S) → Type 0) where
  pub is_there : (z : Setup) (id : ℕ) (k : Known X) (s : TableState S (Known X)) (h : Holds slot_fact z s) → get_elem? s.views id ≡ some k → get_elem? h.core.views id ≡ some k.view
  is_there z id k s h at = rw (← h.views) (at_map view_of s.views id k at)

module _ {S X K : Type 0} (slot_fact : K → State → List X → List (Option S) → Type 0) where
  pub empties_full : EmptiesFull slot_fact
  empties_full key z id k t j n turn e s h at = let f = keeps_full z h.core h.kept id k.view (is_there (slot_fact key) z id k s h at) turn (box_of z t j) n e in let is = f.0 in let pos = f.1 in omega arith

  pub raises_durable : RaisesDurable slot_fact
  raises_durable key z id k x drawn all s h at =
      let there = is_there (slot_fact key) z id k s h at in let up = leaves_draws z h.core h.kept id k.view there x all in let low = (has_drawn z h.core h.kept id k.view there x drawn).1 in
      let r = (has_raised z h.core h.kept id k.view there).durable.2 in (omega arith, low)

  pub raises_reproduced : RaisesReproduced slot_fact
  raises_reproduced key z id k x drawn all s h at =
      let there = is_there (slot_fact key) z id k s h at in let up = leaves_draws z h.core h.kept id k.view there x all in let low = (has_drawn z h.core h.kept id k.view there x drawn).1 in
      let r = (has_raised z h.core h.kept id k.view there).reproduced.1 in (omega arith, low)
