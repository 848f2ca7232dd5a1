use Rattle.std.proofs.Common.{arith}
use Rattle.redo_record.proofs.GroupCalls.{group_fence, group_flush, group_length, group_put}
use Rattle.redo_record.proofs.group_call.group_call.Goals as goal

pub returns-then-k-writes : goal.returns-then-k-writes
returns-then-k-writes c = group_put c.args.writes.now c.args.lines.now c.args.k (0, 0) (omega arith)

pub returns-then-flush-lines : goal.returns-then-flush-lines
returns-then-flush-lines c = group_flush c.args.writes.now c.args.lines.now c.args.k _ 0 (omega arith) (omega arith)

pub returns : goal.returns
returns c = let long = group_length c.args.writes.now c.args.lines.now in let below = c.requires in group_fence c.args.writes.now c.args.lines.now c.args.k (omega arith)
