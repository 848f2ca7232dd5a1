use Rattle.tiny_stm.specs.Tables.{table_of}
use Rattle.stm_runs.proofs.Held.{at_rests}
use Rattle.stm_runs.proofs.stage.Stage.around_at.Goals as goal

pub transact_around-requires-clause-other : goal.transact_around-requires-clause-other
transact_around-requires-clause-other c = at_rests (table_of c.args.self.now.stm) c.args.self.now.first c.args.self.now.others.items c.args.k c.index_mut-other.result.now c.requires c.index_mut-other.ensures.value c.args.self.now.held

pub transact_around-requires-else-is_of_first-clause-rests : goal.transact_around-requires-else-is_of_first-clause-rests
transact_around-requires-else-is_of_first-clause-rests c = at_rests (table_of c.args.self.now.stm) c.args.self.now.first c.args.self.now.others.items c.args.k c.index_mut-other.result.now c.requires c.index_mut-other.ensures.value c.args.self.now.held
