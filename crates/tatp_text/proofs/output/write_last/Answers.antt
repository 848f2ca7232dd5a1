use Rattle.std.proofs.Common.{ℕ, List, ◌≡◌, ◌++◌, ap, refl}
use Rattle.tatp_text.specs.Output.{last_line}
use Rattle.tatp_text.proofs.Joined.{written_where_ok}
use Rattle.tatp_text.proofs.output.write_last.Goals as goal

pub returns-clause-ok : goal.returns-clause-ok
returns-clause-ok c =
    let made : c.deref.result.now ≡ last_line c.args.number = rw (c.deref.ensures.value, c.in_ok-push.ensures.items, c.in_ok-push_number.ensures, c.in_ok-line.ensures.items) refl in
    written_where_ok c.extend_from_slice.result _ _ _ _ c.extend_from_slice.ensures.items (ap (λ (text : List ℕ). c.args.out.now.items ++ text) made)
