-- Requests are counted in either way.
use Rattle.std.proofs.Common.{◌≡◌, ℕ, ◌+◌, List, [], ◌∷◌, length, arith}
use Rattle.std.specs.Prelude.{fold}
use Rattle.std.proofs.lemmas.List.Sums.{sum_by-cons}
use Rattle.tatp_model.specs.declared.request.Request.{Request}
use Rattle.run_workers.specs.Jobs.{request_count}
use Rattle.dude_engine.specs.Requests.{request_count as counted}

count_on : (files : List (List Request)) (n : ℕ) → fold (λ count file. count + length file) n files ≡ n + request_count files
count_on [] n = omega arith
count_on (f ∷ files) n = let rest = count_on files (n + length f) in let here = sum_by-cons (λ (requests : List Request). length requests) f files in omega arith

pub same_count : (files : List (List Request)) → counted files ≡ request_count files
same_count files = let e = count_on files 0 in omega arith
