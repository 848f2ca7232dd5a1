use Rattle.std.proofs.Common.{rules}
use Rattle.dude_core.proofs.reading.validate.Goals as goal

pub returns-then-not-is_good-clause-ok : goal.returns-then-not-is_good-clause-ok
returns-then-not-is_good-clause-ok c = search rules
