use Rattle.dude_core.proofs.DroppedReads.{take_drops}
use Rattle.dude_core.proofs.state.State.turn_drops.Goals as goal

pub returns-in-TakeTurn : goal.returns-in-TakeTurn
returns-in-TakeTurn c = take_drops c.args.z.now c.args.self.now _ c.args.view.now c.args.deed.now c.dropped_if.result c.in-TakeTurn.is c.self.view_is c.dropped_if.ensures
