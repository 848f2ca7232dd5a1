use Rattle.std.proofs.Common.{◌≡◌, ◌++◌, append_assoc}
use Rattle.std.specs.List.{join_with_byte}
use Rattle.tatp_text.specs.Reply.{access_fields}
use Rattle.tatp_text.proofs.Joined.{written_where_ok}
use Rattle.tatp_text.proofs.reply.push_access.Goals as goal

pub returns : goal.returns
returns c =
    let info = c.args.info.now in
    let steps : c.push-3.new.self.items ++ info.data4 ≡ c.args.line.now.items ++ join_with_byte 44 (access_fields info) =
    rw (c.in_ok-push-3.ensures.items, c.in_ok-extend_from_slice.ensures.items, c.in_ok-push-2.ensures.items, c.in_ok-push_number-2.ensures, c.in_ok-push.ensures.items, c.in_ok-push_number.ensures, c.from.ensures, c.from-2.ensures)
    (simp append_assoc) in
    written_where_ok c.extend_from_slice-2.result _ _ _ _ c.extend_from_slice-2.ensures.items steps
