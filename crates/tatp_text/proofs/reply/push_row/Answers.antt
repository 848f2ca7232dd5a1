use Rattle.std.proofs.Common.{◌≡◌, ◌++◌, ap, sym, ◌∙◌, append_assoc}
use Rattle.std.specs.Prelude.{decimal}
use Rattle.std.proofs.lemmas.Result.{IfOk-equal}
use Rattle.tatp_text.proofs.Joined.{row_text, join_with_byte-row_fields}
use Rattle.tatp_text.proofs.reply.push_row.Goals as goal

pub returns : goal.returns
returns c =
    let row = c.args.row.now in
    let line = c.args.line.now.items in
    let steps : c.push-3.new.self.items ++ decimal row.vlr ≡ line ++ row_text row =
    rw (c.in_ok-push-3.ensures.items, c.in_ok-push_number-2.ensures, c.in_ok-push-2.ensures.items, c.in_ok-push_more-3.ensures, c.in_ok-push_more-2.ensures, c.in_ok-push_more.ensures, c.in_ok-push_phone.ensures, c.in_ok-push.ensures.items, c.in_ok-push_number.ensures)
    (simp append_assoc) in
    IfOk-equal _ _ _ _ c.push_number-3.ensures (steps ∙ ap (λ text. line ++ text) (sym (join_with_byte-row_fields row)))
