-- What was written of requests is read back.
use Rattle.std.proofs.Common.{ℕ, suc, ◌≡◌, ◌+◌, ◌≤◌, false, List, [], ◌∷◌, length, map, refl, arith}
use Rattle.std.specs.Prelude.{All, Ok, nat_lt}
use Rattle.std.proofs.lemmas.Bool.Decides.{nat_tests}
use Rattle.std.proofs.lemmas.Grind.{common_steps}
use Rattle.tatp_model.specs.Request.{IsInRange}
use Rattle.tatp_model.specs.declared.request.Request.{Request}
use Rattle.tatp_text.specs.RequestLine.{request_fields}
use Rattle.tatp_text.proofs.FieldsReadBack.{request_of-request_fields}
use Rattle.tatp_csv.specs.RequestFile.{requests_from, requests_of}
use Rattle.tatp_csv.proofs.Requests.{few-records}
use Rattle.tatp_csv.specs.RequestText.{requests_text}
use Rattle.tatp_csv.proofs.Lines.{length-requests_text, records-requests_text, strip_bom-requests_text}

-- the fields of requests, as records from a place on, mean the requests
requests_from-fields : (row : ℕ) (requests : List Request) → All IsInRange requests → row + length requests ≤ 100001 → requests_from row (map request_fields requests) ≡ Ok requests
unfolding requests_from
requests_from-fields row [] all few = refl
requests_from-fields row (request ∷ requests) all few =
    let rest = requests_from-fields (row + 1) requests (λ k d at. all (suc k) d (omega arith)) (omega arith) in
    rw (few-records row (omega arith), request_of-request_fields request (all 0 request (omega arith)), rest) refl

short-enough : (n : ℕ) → n ≤ 16777216 → nat_lt 16777216 n ≡ false
short-enough n few = grind (arith, common_steps, nat_tests)

pub requests_of-requests_text : (requests : List Request) → length requests ≤ 100000 → All IsInRange requests → requests_of (requests_text requests) ≡ Ok requests
requests_of-requests_text requests few all =
    let short = short-enough (length (requests_text requests)) (omega (arith, length-requests_text requests all)) in
    rw (short, strip_bom-requests_text requests, records-requests_text requests all) (requests_from-fields 1 requests all (omega arith))
