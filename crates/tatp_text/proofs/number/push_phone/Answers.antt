use Rattle.std.proofs.Common.{ℕ, List, min, ◌≡◌, ◌++◌, ◌-◌, ◌∙◌, ap, length, take, drop, append_assoc}
use Rattle.std.specs.Prelude.{decimal, replicate}
use Rattle.tatp_text.specs.Number.{phone_text}
use Rattle.tatp_text.proofs.Joined.{written_where_ok}
use Rattle.tatp_text.proofs.Zeros.{zeros_before}
use Rattle.tatp_text.proofs.number.push_phone.Goals as goal

pub returns : goal.returns
returns c =
    let line = c.args.line.now.items in
    let digits = decimal c.args.number in
    let written : c.as_bytes-digits.result.now ≡ digits = c.as_bytes-digits.ensures.value ∙ c.format.ensures.text in
    let zeros : take {A = ℕ} (15 - c.min.result) (drop c.min.result (replicate 15 48)) ≡ replicate (15 - length digits) 48 = zeros_before (length digits) c.min.result (c.min.ensures ∙ ap (λ (text : List ℕ). min (length text) 15) written) in
    let steps : c.extend_from_slice.new.self.items ++ c.as_bytes-digits.result.now ≡ line ++ phone_text c.args.number = rw (c.in_ok-extend_from_slice.ensures.items, written, zeros) (append_assoc line (replicate (15 - length digits) 48) digits) in
    written_where_ok c.extend_from_slice-2.result _ _ _ _ c.extend_from_slice-2.ensures.items steps
