use Rattle.std.proofs.Common.{arith}
use Rattle.redo_record.proofs.GroupCalls.{reproduction_length}
use Rattle.redo_record.proofs.reproduce_calls.ReproduceCalls.len.Goals as goal

pub overflow_add-result : goal.overflow_add-result
overflow_add-result c = let few = c.args.self.now.few in let lines = c.args.self.now.few_lines in omega arith

pub overflow_add-result-2 : goal.overflow_add-result-2
overflow_add-result-2 c = let few = c.args.self.now.few in let lines = c.args.self.now.few_lines in omega arith

pub returns : goal.returns
returns c = let all = reproduction_length c.args.self.now.place c.args.self.now.writes.now c.args.self.now.number in let lines = c.args.self.now.counted in omega arith
