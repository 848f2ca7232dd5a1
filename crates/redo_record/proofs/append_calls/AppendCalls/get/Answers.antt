use Rattle.std.proofs.Common.{◌∙◌, arith}
use Rattle.redo_record.proofs.GroupCalls.{append_behind, append_front, append_length, body_length, tag_length}
use Rattle.redo_record.proofs.append_calls.AppendCalls.get.Goals as goal

pub group_call-requires : goal.group_call-requires
group_call-requires c = rw (c.body.ensures, c.body_lines.ensures) (let long = body_length c.args.self.now c.args.self.now.some c.args.self.now.few c.args.self.now.all_pairs c.args.self.now.all_lines in omega arith)

pub group_call-requires-else-k-first : goal.group_call-requires-else-k-first
group_call-requires-else-k-first c = rw (c.tag.ensures, c.tag_line.ensures)
    (let long = tag_length c.args.self.now c.args.self.now.some c.args.self.now.few c.args.self.now.all_pairs c.args.self.now.all_lines in
    let all = append_length c.args.self.now c.args.self.now.some c.args.self.now.few c.args.self.now.all_pairs c.args.self.now.all_lines in
    let below = c.requires in
    omega arith)

pub returns-then-k-first : goal.returns-then-k-first
returns-then-k-first c =
    append_front c.args.self.now c.args.self.now.some c.args.self.now.few c.args.self.now.all_pairs c.args.self.now.all_lines c.args.k (omega arith)
    ∙ rw (c.body.ensures, c.body_lines.ensures) at c.group_call.ensures

pub returns-else-k-first : goal.returns-else-k-first
returns-else-k-first c =
    append_behind c.args.self.now c.args.self.now.some c.args.self.now.few c.args.self.now.all_pairs c.args.self.now.all_lines c.args.k _ (omega arith)
    ∙ rw (c.tag.ensures, c.tag_line.ensures) at c.group_call-else-k-first.ensures
