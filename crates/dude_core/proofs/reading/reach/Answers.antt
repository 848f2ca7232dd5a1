use Rattle.std.proofs.Common.{rules}
use Rattle.dude_core.proofs.reading.reach.Goals as goal

pub returns : goal.returns
returns c = search rules
