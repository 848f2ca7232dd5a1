-- The requests of a file are in their ranges.
use Rattle.std.proofs.Common.{ℕ, ◌≡◌, ◌+◌, Bool, true, false, List, [], ◌∷◌, length, subst, refl}
use Rattle.std.specs.Prelude.{Result, Ok, Err, if◌then◌else◌, nat_lt, All}
use Rattle.std.proofs.lemmas.List.Elements.{All-cons, All-nil}
use Rattle.csv.specs.Reading.{default_config, records, strip_bom}
use Rattle.tatp_model.specs.Request.{IsInRange}
use Rattle.tatp_model.specs.declared.request.Request.{Request}
use Rattle.tatp_text.specs.RequestRecord.{request_of}
use Rattle.tatp_text.proofs.RecordRanges.{request_of-ranges}
use Rattle.tatp_csv.specs.RequestFile.{Place, requests_from, requests_of, with_first}

list-inj : (a b : List Request) → ◌≡◌ {A = Result (List Request) Place} (Ok a) (Ok b) → a ≡ b
list-inj a b e = cc

-- the requests of records
first-ranges : (row : ℕ) (first : Result Request ℕ) (rest : Result (List Request) Place) (requests : List Request)
    → ((request : Request) → first ≡ Ok request → IsInRange request) → ((more : List Request) → rest ≡ Ok more → All IsInRange more)
    → with_first row first rest ≡ Ok requests → All IsInRange requests
first-ranges row (Err field) rest requests f g e = cc e
first-ranges row (Ok request) (Err place) requests f g e = cc e
first-ranges row (Ok request) (Ok more) requests f g e = let same : request ∷ more ≡ requests = list-inj (request ∷ more) requests e in subst (All IsInRange) same (All-cons IsInRange request more (f request refl) (g more refl))

pub requests_from-ranges : (row : ℕ) (rows : List (List (List ℕ))) (requests : List Request) → requests_from row rows ≡ Ok requests → All IsInRange requests
unfolding requests_from
requests_from-ranges row [] requests e = let same : [] ≡ requests = list-inj [] requests e in subst (All IsInRange) same (All-nil IsInRange)
requests_from-ranges row (fields ∷ rest) requests e =
    by (nat_lt 100000 row) e (first-ranges row (request_of fields) (requests_from (row + 1) rest) requests (request_of-ranges fields) (requests_from-ranges (row + 1) rest))
  where
    by : (b : Bool) → (if b then Err (row, 0) else with_first row (request_of fields) (requests_from (row + 1) rest)) ≡ Ok requests
        → (with_first row (request_of fields) (requests_from (row + 1) rest) ≡ Ok requests → All IsInRange requests) → All IsInRange requests
    by true h f = cc h
    by false h f = f h

pub requests_of-ranges : (bytes : List ℕ) (requests : List Request) → requests_of bytes ≡ Ok requests → All IsInRange requests
requests_of-ranges bytes requests e = by (nat_lt 16777216 (length bytes)) e
  where
    by : (b : Bool) → (if b then Err (0, 0) else requests_from 1 (records default_config (strip_bom bytes))) ≡ Ok requests → All IsInRange requests
    by true h = cc h
    by false h = requests_from-ranges 1 (records default_config (strip_bom bytes)) requests h
