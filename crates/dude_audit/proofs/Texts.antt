-- The text of a line.
use Rattle.std.proofs.Common.{ℕ, ◌≡◌, ◌-◌, List, length, drop, arith}
use Rattle.std.proofs.lemmas.List.{length-take, length-drop}
use Rattle.dude_audit.specs.declared.claim.Claim.{Claim}
use Rattle.dude_audit.specs.Claim.{IsWithin, text_of}

-- it is as long as its places are apart
pub text_size : (printed : List ℕ) (c : Claim) → IsWithin (length printed) c → length (text_of printed c) ≡ c.to - c.from
text_size printed c within =
    let rises = within.rises in
    let ends = within.ends in
    omega (arith, length-take (c.to - c.from) (drop c.from printed), length-drop c.from printed, rises, ends)
