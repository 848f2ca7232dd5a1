use Rattle.std.proofs.lemmas.Result.{IfOk-equal}
use Rattle.tatp_text.proofs.Joined.{eight_texts}
use Rattle.tatp_text.proofs.summary.Summary.push_lines.Goals as goal

pub returns : goal.returns
returns c =
    IfOk-equal _ _ _ _ c.push_line-8.ensures (eight_texts _ _ _ _ _ _ _ _ _ _ _ _ _ _ _ _ c.in_ok-push_line.ensures c.in_ok-push_line-2.ensures c.in_ok-push_line-3.ensures c.in_ok-push_line-4.ensures c.in_ok-push_line-5.ensures c.in_ok-push_line-6.ensures c.in_ok-push_line-7.ensures)
