use Rattle.std.proofs.Common.{List, [], ◌∷◌, map, refl, sym, subst}
use mathlib.Core.Option.{some}
use Rattle.core_events.specs.Partings.{start}
use Rattle.stm_slots.specs.Beside.{nothing_beside}
use Rattle.stm_slots.specs.Opening.{setup_of}
use Rattle.stm_slots.specs.Rule.{SlotsKept}
use Rattle.stm_slots.specs.Stage.{stage_of}
use Rattle.stm_slots.specs.declared.slot.Slot.{Slot}
use Rattle.stm_slots.proofs.Starting.{slots_start}
use Rattle.stm_turns.proofs.opening.new_events.Goals as goal

pub new-requires : goal.new-requires
new-requires g c =
    let f = c.requires.first in let o = c.args.opening.now in let sight = g.M.Medium.sight in
    record {
      may = record {
        setup = c.requires.setup;
        pages = c.requires.pages;
        terms_are = refl;
        slots = subst (λ (l : List (Slot g.row.M.Denot g.M.Medium)). SlotsKept sight o (stage_of (start (setup_of sight o))) (nothing_beside ∷ []) (map some l)) (sym f.slots_are) (slots_start sight o f.home f.is);
      };
    }
