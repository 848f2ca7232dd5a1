use Rattle.core_table.specs.Changes.{changed}
use Rattle.core_table.proofs.Events.{changes, step_does}
use Rattle.core_table.proofs.Found.{found_by_step}
use Rattle.core_table.proofs.event_table.EventTable.change_as.Goals as goal

pub change_word-requires : goal.change_word-requires
change_word-requires g c =
    let i = c.self.inside.table.shared in let r = c.requires in
    step_does g.P.SlotRule.setup g.P.SlotRule.fact c.args.self.now i.key i.table_id c.self.view_is c.self.invariant.words_are g.E.Choice.setup g.E.Choice.event c.args.place c.args.seat.now r.may (changed c.args.change) (changes c.args.self.now g.E.Choice.event c.args.seat.now c.args.change r.word)

pub returns : goal.returns
returns g c = found_by_step g.P.SlotRule.fact c.args.self.now g.E.Choice.setup g.E.Choice.event c.args.seat.now c.change_word.new.seat c.args.place c.requires.may c.change_word.result c.change_word.ensures
