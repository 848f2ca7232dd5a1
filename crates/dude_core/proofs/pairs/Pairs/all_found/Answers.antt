use Rattle.dude_core.proofs.Walks.{checked_tells}
use Rattle.dude_core.proofs.pairs.Pairs.all_found.Goals as goal

pub returns : goal.returns
returns c = checked_tells c.args.z.now c.args.locks.now c.args.self.now c.all_checked.result c.all_checked.ensures
