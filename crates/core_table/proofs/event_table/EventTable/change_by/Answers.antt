use Rattle.core_table.specs.Changes.{changed}
use Rattle.core_table.proofs.Events.{changes, step_acting}
use Rattle.core_table.proofs.event_table.EventTable.change_by.Goals as goal

pub change_word-requires : goal.change_word-requires
change_word-requires g c =
    let i = c.self.inside.table.shared in let r = c.requires in
    step_acting g.P.SlotRule.setup g.P.SlotRule.fact c.args.self.now i.key i.table_id c.self.view_is c.self.invariant.words_are g.E.SlotChoice.setup g.E.SlotChoice.event c.args.place c.args.seat.now r.at r.fits (changed c.args.form) (changes c.args.self.now g.E.SlotChoice.event c.args.seat.now c.args.form r.word) g.E.SlotChoice.then r.may
