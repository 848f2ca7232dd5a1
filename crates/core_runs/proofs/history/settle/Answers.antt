use Rattle.std.proofs.Common.{refl}
use Rattle.core_events.specs.Events.{raise_durable}
use Rattle.core_runs.specs.Views.{emptied}
use Rattle.core_runs.proofs.HistorySteps.{next_view, durable_fits, reproduced_fits}
use Rattle.core_runs.proofs.history.settle.Goals as goal

pub raise_durable-requires-clause-fits : goal.raise_durable-requires-clause-fits
raise_durable-requires-clause-fits c = rw c.requires.setup (durable_fits _ c.args.stm.now.events.key c.args.seat.now.id c.args.seat.now.me.0 c.law_of_foreseen.ensures.durable c.requires.view)

pub raise_reproduced-requires-clause-fits : goal.raise_reproduced-requires-clause-fits
raise_reproduced-requires-clause-fits c =
    let setup = c.requires.setup in
    let raised = next_view c.args.stm.now.events.setup (raise_durable 1) c.args.seat.now.me.0.view c.raise_durable.new.seat.me.0.view emptied 0 0 setup c.requires.view refl c.raise_durable.ensures.view in
    rw setup (reproduced_fits _ c.args.stm.now.events.key c.raise_durable.new.seat.id c.raise_durable.new.seat.me.0 c.law_of_foreseen.ensures.reproduced raised)
