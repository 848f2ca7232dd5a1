use Rattle.tiny_stm.specs.Tables.{table_of}
use Rattle.stm_runs.proofs.Held.{join_on, last_rests}
use Rattle.stm_runs.proofs.stage.join_last.Goals as goal

pub join-requires-clause-other : goal.join-requires-clause-other
join-requires-clause-other c = last_rests (table_of c.args.stm.now) c.args.first.now c.in-Some.other c.args.others.now.items c.pop.new.self.items c.in-Some.ensures.items c.requires

pub returns-in-Some : goal.returns-in-Some
returns-in-Some c = join_on (table_of c.args.stm.now) c.args.first.now c.join.new.p c.in-Some.other c.args.others.now.items c.pop.new.self.items c.in-Some.ensures.items c.requires c.join.ensures
