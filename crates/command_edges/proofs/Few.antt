-- A request file has few requests.
use Rattle.std.proofs.Common.{ℕ, ◌≡◌, ◌+◌, ◌-◌, ◌≤◌, Bool, true, false, List, [], ◌∷◌, length, refl, ap, arith}
use Rattle.std.specs.Prelude.{Result, Ok, Err, if◌then◌else◌, nat_lt}
use Rattle.std.proofs.lemmas.Bool.Decides.{nat_tests}
use Rattle.csv.specs.Reading.{default_config, records, strip_bom}
use Rattle.tatp_model.specs.declared.request.Request.{Request}
use Rattle.tatp_text.specs.RequestRecord.{request_of}
use Rattle.tatp_csv.specs.RequestFile.{Place, requests_from, requests_of, with_first}

same_lists : (a b : List Request) → ◌≡◌ {A = Result (List Request) Place} (Ok a) (Ok b) → a ≡ b
same_lists a b e = cc

-- one request more than those behind it
one_more : (row n : ℕ) (first : Result Request ℕ) (rest : Result (List Request) Place) (requests : List Request)
    → ((more : List Request) → rest ≡ Ok more → length more ≤ n) → with_first row first rest ≡ Ok requests → length requests ≤ n + 1
one_more row n (Err field) rest requests f e = cc e
one_more row n (Ok request) (Err place) requests f e = cc e
one_more row n (Ok request) (Ok more) requests f e =
    let same = ap length (same_lists (request ∷ more) requests e) in
    let few = f more refl in
    omega (arith, same, few)

-- a record has a number up to 100,000
in_limit : (row : ℕ) → nat_lt 100000 row ≡ false → row ≤ 100000
in_limit row h = grind (arith, nat_tests)

few_if : (row : ℕ) (fields : List (List ℕ)) (rest : Result (List Request) Place) (requests : List Request) (b : Bool) → nat_lt 100000 row ≡ b
    → ((more : List Request) → rest ≡ Ok more → length more ≤ 100001 - (row + 1))
    → (if b then Err (row, 0) else with_first row (request_of fields) rest) ≡ Ok requests → length requests ≤ 100001 - row
few_if row fields rest requests true is f e = cc e
few_if row fields rest requests false is f e =
    let small = in_limit row is in
    let few = one_more row (100001 - (row + 1)) (request_of fields) rest requests f e in
    omega (arith, small, few)

few_from : (row : ℕ) (rows : List (List (List ℕ))) (requests : List Request) → requests_from row rows ≡ Ok requests → length requests ≤ 100001 - row
unfolding requests_from
few_from row [] requests e = let same = ap length (same_lists [] requests e) in omega (arith, same)
few_from row (fields ∷ rest) requests e = few_if row fields (requests_from (row + 1) rest) requests (nat_lt 100000 row) refl (few_from (row + 1) rest) e

pub few_requests : (bytes : List ℕ) (requests : List Request) → requests_of bytes ≡ Ok requests → length requests ≤ 100000
few_requests bytes requests e = by (nat_lt 16777216 (length bytes)) e
  where
    by : (b : Bool) → (if b then Err (0, 0) else requests_from 1 (records default_config (strip_bom bytes))) ≡ Ok requests → length requests ≤ 100000
    by true h = cc h
    by false h = few_from 1 (records default_config (strip_bom bytes)) requests h
