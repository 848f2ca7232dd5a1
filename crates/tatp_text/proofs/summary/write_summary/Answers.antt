use Rattle.std.proofs.Common.{ℕ, List, ◌≡◌, ◌++◌, ap, refl}
use Rattle.tatp_text.specs.Summary.{summary_of}
use Rattle.tatp_text.proofs.Joined.{written_where_ok}
use Rattle.tatp_text.proofs.summary.write_summary.Goals as goal

pub returns-clause-ok : goal.returns-clause-ok
returns-clause-ok c =
    let made : c.deref.result.now ≡ summary_of c.args.done.now = rw (c.deref.ensures.value, c.in_ok-push_lines.ensures, c.new-lines.ensures.items, c.of.ensures) refl in
    written_where_ok c.extend_from_slice.result _ _ _ _ c.extend_from_slice.ensures.items (ap (λ (text : List ℕ). c.args.out.now.items ++ text) made)
