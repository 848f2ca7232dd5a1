use Rattle.std.proofs.Common.{◌∷◌}
use Rattle.core_events.specs.Events.{next_box}
use Rattle.stm_transactions.proofs.boxes.KeptSlotsBoxRuleSlotBesideOpening.draw.Given as goal
use Rattle.stm_slots.specs.Turns.{Moved}
use Rattle.stm_slots.specs.declared.slot.Slot.TheVariants.{Empty}
use Rattle.core_table.specs.Abouts.{drawing}

abbrev pub ghosts-change_by : goal.ghosts-change_by
ghosts-change_by g a =
    let e = drawing a._about.now.0.now a._about.now.1.now in
    record { setup = a.self.now.setup; event = e; then = Moved g.M.Medium.sight a.self.now.key e ((next_box a.self.now.setup a.seat.now.me.0.view, Empty) ∷ a.seat.now.me.1) a.seat.now.me }
