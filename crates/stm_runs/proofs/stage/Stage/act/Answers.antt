use Rattle.std.proofs.Common.{◌-◌, arith}
use Rattle.tiny_stm.specs.Tables.{table_of}
use Rattle.stm_runs.proofs.Held.{at_rests}
use Rattle.stm_runs.proofs.stage.Stage.act.Goals as goal

pub act_by-requires-2 : goal.act_by-requires-2
act_by-requires-2 c = at_rests (table_of c.args.self.now.stm) c.args.self.now.first c.args.self.now.others.items (c.args.who - 1) c.index_mut.result.now (let n = c.len.ensures in let lt = c.if-k-len.false in omega arith) c.index_mut.ensures.value c.args.self.now.held
