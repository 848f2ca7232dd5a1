use Rattle.std.proofs.Common.{◌++◌}
use Rattle.redo_record.proofs.WaitingRecords.{consecutive_up}
use Rattle.back_store.specs.Lanes.{waiting_of}
use Rattle.back_store.proofs.Merging.{lead_on}
use Rattle.back_store.proofs.backlog.Backlog.contiguous_end.Goals as goal

pub returns-clause-end : goal.returns-clause-end
returns-clause-end c =
    let a = c.self.inside in
    let led = c.self.invariant.lawful.led in
    let end = rw c.deref.ensures.value at c.contiguous_end.ensures.end in
    rw (← c.self.view_is) (record {
      records = led.records ++ end.records;
      lead = lead_on (waiting_of a.lanes.items) a.reproduced a.durable c.contiguous_end.result led.records end.records led.lead end.lead;
      greatest = end.greatest;
    })

pub returns-clause-least : goal.returns-clause-least
returns-clause-least c = rw (← c.self.view_is) (consecutive_up c.self.inside.durable c.contiguous_end.result c.contiguous_end.ensures.end.records c.contiguous_end.ensures.end.lead.consecutive)
