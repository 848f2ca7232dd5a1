use Rattle.dude_core.proofs.Versions.{version_tells}
use Rattle.dude_core.proofs.queries.is_version.Goals as goal

pub returns-then-word-eq0 : goal.returns-then-word-eq0
returns-then-word-eq0 c = version_tells c.args.word c.args.snapshot c.if-word-eq0.true
