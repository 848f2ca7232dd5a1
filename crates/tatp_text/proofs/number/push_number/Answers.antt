use Rattle.std.proofs.Common.{ℕ, List, ◌++◌, ◌∙◌, ap}
use Rattle.tatp_text.proofs.Joined.{written_where_ok}
use Rattle.tatp_text.proofs.number.push_number.Goals as goal

pub returns : goal.returns
returns c =
    written_where_ok c.extend_from_slice.result _ _ _ _ c.extend_from_slice.ensures.items (ap (λ (text : List ℕ). c.args.line.now.items ++ text) (c.as_bytes.ensures.value ∙ c.format.ensures.text))
