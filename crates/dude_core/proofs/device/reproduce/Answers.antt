use Rattle.dude_core.proofs.MadeCalls.{fewer_by}
use Rattle.dude_core.proofs.device.reproduce.Goals as goal

pub returns-then-is_last-clause-fewer : goal.returns-then-is_last-clause-fewer
returns-then-is_last-clause-fewer c = fewer_by c.end_reproduce.result c.args.writes.now c.args.number c.args.call c.args.store.now c.end_reproduce.new.self c.end_reproduce.ensures.ok c.end_reproduce.ensures.err
