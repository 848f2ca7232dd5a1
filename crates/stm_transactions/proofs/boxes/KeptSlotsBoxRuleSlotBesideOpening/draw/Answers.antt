use Rattle.std.proofs.Common.{◌∷◌}
use Rattle.core_events.specs.Events.{next_box}
use Rattle.stm_transactions.proofs.Moves.{draw_on, has_moved}
use Rattle.stm_transactions.proofs.boxes.KeptSlotsBoxRuleSlotBesideOpening.draw.Goals as goal
use Rattle.stm_slots.specs.declared.slot.Slot.TheVariants.{Empty}
use Rattle.core_table.specs.Abouts.{about_of, drawing}

pub change_by-requires-clause-may : goal.change_by-requires-clause-may
change_by-requires-clause-may g c =
    let a = c.args in let r = c.requires in
    record { seat = r.seat; may = r.may; acts = draw_on g.M.Medium.sight a.stm.now.events c.box_count-boxes.ensures.setup a.seat.now (about_of a.served.now) a.writes.now r.seat r.may }

pub returns : goal.returns
returns g c =
    let a = c.args in let x = c.change_by in let seat = a.seat.now in
    record {
      drew = has_moved g.M.Medium.sight a.stm.now.events c.box_count-boxes.ensures.setup seat x.new.seat (drawing a.served.now a.writes.now) ((next_box a.stm.now.events.setup seat.me.0.view, Empty) ∷ seat.me.1) x.result
          c.requires.seat x.ensures.seat.0 x.ensures.seat.1 x.ensures.then;
    }
