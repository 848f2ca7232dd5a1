use Rattle.std.proofs.Common.{[], ◌∷◌, ◌++◌, replicate, sym, ap, ◌∙◌}
use Rattle.stm_slots.specs.declared.slot.Slot.{Slot}
use Rattle.stm_slots.specs.declared.slot.Slot.TheVariants.{Empty, Home as HomeSlot}
use Rattle.tiny_stm.proofs.LastSlots.{behind_equal}
use Rattle.tiny_stm.proofs.opening.home_of.Goals as goal

pub home_in-requires : goal.home_in-requires
home_in-requires g c = let b = c.requires.1 in (c.requires.0, sym (behind_equal b.before Empty (HomeSlot c.requires.0) c.in-Some.last c.args.slots.items c.pop.new.self.items b.slots_are c.in-Some.ensures.items).1)

pub returns : goal.returns
returns g c =
    let b = c.requires.1 in
    let last = (behind_equal b.before Empty (HomeSlot c.requires.0) c.in-Some.last c.args.slots.items c.pop.new.self.items b.slots_are c.in-Some.ensures.items).1 in record {
      before = b.before;
      slots_are = b.slots_are ∙ ap (λ (x : Slot g.row.M.Denot g.M.Medium). replicate b.before Empty ++ x ∷ []) (last ∙ c.home_in.ensures);
    }
