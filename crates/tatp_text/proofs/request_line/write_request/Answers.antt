use Rattle.std.proofs.Common.{ℕ, List, ◌≡◌, ◌++◌, ◌∙◌, ap, drop}
use Rattle.std.specs.List.{join_with_byte}
use Rattle.tatp_text.specs.RequestLine.{fields_text, request_fields, request_line}
use Rattle.tatp_text.proofs.Joined.{join_with_byte-first, written_where_ok}
use Rattle.tatp_text.proofs.request_line.write_request.Goals as goal

pub returns-clause-ok : goal.returns-clause-ok
returns-clause-ok c =
    let request = c.args.request.now in
    let name = c.name_of.result.now in
    let line : join_with_byte 44 (request_fields request) ≡ name ++ fields_text request = ap (join_with_byte 44) c.name_of.ensures ∙ join_with_byte-first 44 name (drop 1 (request_fields request)) in
    let made : c.deref.result.now ≡ request_line request = rw (line, c.deref.ensures.value, c.in_ok-push.ensures.items, c.in_ok-push_fields.ensures, c.in_ok-line.ensures.items) in
    written_where_ok c.extend_from_slice.result _ _ _ _ c.extend_from_slice.ensures.items (ap (λ (text : List ℕ). c.args.out.now.items ++ text) made)
