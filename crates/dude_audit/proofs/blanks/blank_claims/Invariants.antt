use Rattle.std.proofs.Common.{◌≡◌, ℕ, ◌+◌, ◌<◌, ◌++◌, length, get_or, map, take, []}
use Rattle.tatp_model.specs.OneThread.{indexed_requests_from}
use Rattle.dude_audit.specs.declared.claim.Claim.{Claim}
use Rattle.dude_audit.specs.Claim.{claimed_request_of}
use Rattle.tatp_model.specs.Files.{requests_in}
use Rattle.dude_audit.proofs.Blank.{in_file}
use Rattle.dude_audit.proofs.blanks.blank_claims.Given as goal

abbrev pub invariant-loop-k : goal.invariant-loop-k
invariant-loop-k l = record {
  requests : map claimed_request_of l.blanks.items ≡ indexed_requests_from 0 (take l.k (requests_in l.files));
  numbered : (j : ℕ) (d : Claim) → j < length l.blanks.items → (get_or l.blanks.items j d).line ≡ j + 1;
}

abbrev pub invariant-loop-i : goal.invariant-loop-i
invariant-loop-i l = record {
  requests : map claimed_request_of l.blanks.items ≡ indexed_requests_from 0 (take l.k (requests_in l.files)) ++ in_file l.k (take l.i (get_or (requests_in l.files) l.k []));
  numbered : (j : ℕ) (d : Claim) → j < length l.blanks.items → (get_or l.blanks.items j d).line ≡ j + 1;
}
