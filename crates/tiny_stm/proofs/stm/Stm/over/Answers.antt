use Rattle.std.proofs.Common.{[], ◌∷◌, ◌++◌, ◌*◌, List, replicate, sym, ap, ◌∙◌, subst}
use Rattle.core_events.specs.Setups.{Setup, IsSetup}
use Rattle.core_table.specs.Seats.{opener}
use Rattle.stm_slots.specs.Opening.{setup_of}
use Rattle.stm_slots.specs.declared.slot.Slot.{Slot}
use Rattle.stm_slots.specs.declared.slot.Slot.TheVariants.{Empty, Home as HomeSlot}
use Rattle.tiny_stm.proofs.Starts.{setup_within}
use Rattle.tiny_stm.proofs.stm.Stm.over.Goals as goal

pub new_events-requires-clause-first : goal.new_events-requires-clause-first
new_events-requires-clause-first g c =
    let first = c.first_home-opening in record {
      home = first.result.1;
      is = first.ensures.first;
      slots_are = c.push_reserved.ensures.items
          ∙ (ap (λ (l : List (Slot g.row.M.Denot g.M.Medium)). l ++ HomeSlot first.result.1 ∷ []) c.requires.room.slots
          ∙ ap (λ (t : Setup). replicate (t.threads * t.boxes) Empty ++ HomeSlot first.result.1 ∷ []) (sym first.ensures.terms));
    }

pub first-pass-requires-clause-seat : goal.first-pass-requires-clause-seat
first-pass-requires-clause-seat g c = let e = c.in-Ok.ensures.ok in record { belongs = e.belongs; view = ap (λ m. m.0.view) e.me ∙ ap opener (sym e.setup_is); slots = ap (λ m. m.1) e.me }

pub home_of-back-requires : goal.home_of-back-requires
home_of-back-requires g c =
    let first = c.first_home-opening in (
      first.result.1,
      record {
        before = c.args.terms.threads * c.args.terms.boxes;
        slots_are = c.in-Err.ensures.err ∙ (c.push_reserved.ensures.items ∙ ap (λ (l : List (Slot g.row.M.Denot g.M.Medium)). l ++ HomeSlot first.result.1 ∷ []) c.requires.room.slots);
      },
    )

pub returns-in-Ok-clause-ok : goal.returns-in-Ok-clause-ok
returns-in-Ok-clause-ok g c =
    let first = c.first_home-opening in let e = c.in-Ok.ensures.ok in record {
      back_is = ap (λ key. key.back.value) e.key_is ∙ first.ensures.key;
      terms_are = ap (λ key. key.terms) e.key_is ∙ first.ensures.terms;
      setup = e.setup_is ∙ ap (setup_of g.M.Medium.sight) (sym e.key_is);
      within = subst IsSetup (sym e.setup_is) (setup_within g.M.Medium.sight first.result.0 c.args.terms first.ensures.terms c.requires.setup);
      pass = c.first-pass.ensures;
    }
