-- The requests of a file, one record after another.
use Rattle.std.proofs.Common.{ℕ, ◌≡◌, ◌+◌, ◌≤◌, false, List, [], ◌∷◌, ◌++◌, refl, sym, ap, append_assoc, arith}
use Rattle.std.proofs.lemmas.List.{append-nil}
use Rattle.std.proofs.lemmas.Bool.Decides.{nat_tests}
use Rattle.std.proofs.lemmas.Grind.{common_steps}
use Rattle.std.specs.Prelude.{Result, Ok, Err, nat_lt}
use Rattle.tatp_model.specs.declared.request.Request.{Request}
use Rattle.tatp_text.specs.RequestRecord.{request_of}
use Rattle.tatp_csv.specs.RequestFile.{Place, with_first, requests_from}

-- these requests before the others, unless one of those is bad
abbrev pub after : List Request → Result (List Request) Place → Result (List Request) Place
after done (Err place) = Err place
after done (Ok rest) = Ok (done ++ rest)

pub after-none : (rest : Result (List Request) Place) → after [] rest ≡ rest
after-none (Err place) = refl
after-none (Ok rest) = refl

after-first : (done : List Request) (row : ℕ) (request : Request) (rest : Result (List Request) Place) → after done (with_first row (Ok request) rest) ≡ after (done ++ request ∷ []) rest
after-first done row request (Err place) = refl
after-first done row request (Ok rest) = ap (λ (l : List Request). Ok l) (sym (append_assoc done (request ∷ []) rest))

-- a record up to the last one that may stand
pub few-records : (row : ℕ) → row ≤ 100000 → nat_lt 100000 row ≡ false
few-records row h = grind (arith, common_steps, nat_tests)

-- one more good record
pub after-good : (done : List Request) (row : ℕ) (fields : List (List ℕ)) (rest : List (List (List ℕ))) (request : Request)
    → row ≤ 100000 → request_of fields ≡ Ok request
    → after done (requests_from row (fields ∷ rest)) ≡ after (done ++ request ∷ []) (requests_from (row + 1) rest)
unfolding requests_from
after-good done row fields rest request few good = rw (few-records row few, good) (after-first done row request (requests_from (row + 1) rest))

pub after-bad : (done : List Request) (row : ℕ) (fields : List (List ℕ)) (rest : List (List (List ℕ))) (field : ℕ)
    → row ≤ 100000 → request_of fields ≡ Err field → after done (requests_from row (fields ∷ rest)) ≡ Err (row, field)
unfolding requests_from
after-bad done row fields rest field few bad = rw (few-records row few, bad) refl

pub after-many : (done : List Request) (fields : List (List ℕ)) (rest : List (List (List ℕ))) → after done (requests_from 100001 (fields ∷ rest)) ≡ Err (100001, 0)
unfolding requests_from
after-many done fields rest = refl

pub after-end : (done : List Request) (row : ℕ) → after done (requests_from row []) ≡ Ok done
unfolding requests_from
after-end done row = ap (λ (l : List Request). Ok l) (append-nil done)
