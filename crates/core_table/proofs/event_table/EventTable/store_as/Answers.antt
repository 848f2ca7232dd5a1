use Rattle.std.proofs.Common.{sym}
use Rattle.core_table.proofs.Events.{step_puts}
use Rattle.core_table.proofs.Found.{made_by_store}
use Rattle.core_table.proofs.event_table.EventTable.store_as.Goals as goal

pub store-requires : goal.store-requires
store-requires g c =
    let i = c.self.inside.table.shared in let r = c.requires in
    step_puts g.P.SlotRule.setup g.P.SlotRule.fact c.args.self.now i.key i.table_id c.self.view_is c.self.invariant.words_are g.E.Choice.setup g.E.Choice.event c.args.place c.args.seat.now r.may (λ _. c.args.new) (λ n _ told. sym (r.word n told)) r.blind

pub returns : goal.returns
returns g c = made_by_store g.P.SlotRule.fact c.args.self.now g.E.Choice.setup g.E.Choice.event c.args.seat.now c.store.new.seat c.args.place c.requires.may c.store.ensures
