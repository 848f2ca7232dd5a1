use Rattle.tiny_stm.specs.Tables.{table_of}
use Rattle.stm_runs.proofs.Held.{join_on, last_rests}
use Rattle.stm_runs.proofs.stage.join_all.Goals as goal

pub join-requires-clause-other : goal.join-requires-clause-other
join-requires-clause-other c = last_rests (table_of c.args.stm.now) c.loop-other.first c.in-Some.other c.loop-other.others.items c.pop.new.self.items c.in-Some.ensures.items c.loop-other.invariant

pub loop-other-preserved : goal.loop-other-preserved
loop-other-preserved c = join_on (table_of c.args.stm.now) c.loop-other.first c.join.new.p c.in-Some.other c.loop-other.others.items c.pop.new.self.items c.in-Some.ensures.items c.loop-other.invariant c.join.ensures
