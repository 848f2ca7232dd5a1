use Rattle.std.proofs.Common.{sym}
use Rattle.redo_record.proofs.GroupCalls.{append_length}
use Rattle.redo_record.proofs.append_calls.AppendCalls.len.Goals as goal

pub returns : goal.returns
returns c = sym (append_length c.args.self.now c.args.self.now.some c.args.self.now.few c.args.self.now.all_pairs c.args.self.now.all_lines)
