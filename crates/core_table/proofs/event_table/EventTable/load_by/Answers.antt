use Rattle.std.proofs.Common.{sym}
use Rattle.core_table.proofs.Events.{step_acting}
use Rattle.core_table.proofs.event_table.EventTable.load_by.Goals as goal

pub load-requires : goal.load-requires
load-requires g c =
    let i = c.self.inside.table.shared in let r = c.requires in
    step_acting g.P.SlotRule.setup g.P.SlotRule.fact c.args.self.now i.key i.table_id c.self.view_is c.self.invariant.words_are g.E.SlotChoice.setup g.E.SlotChoice.event c.args.place c.args.seat.now r.at r.fits (λ n. n) (λ n _ told. sym (r.word n told)) g.E.SlotChoice.then r.may
