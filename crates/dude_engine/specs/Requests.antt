-- The requests of several files.
use Rattle.std.specs.Prelude.{ℕ, ◌+◌, ◌*◌, ◌≤◌, List, length, map, fold, All}
use Rattle.std.specs.List.{Contains}
use Rattle.dude_base.specs.declared.limits.TheConstants.{MAX_NUMBER}
use Rattle.tatp_model.specs.declared.request.Request.{Request}
use Rattle.tatp_model.specs.Request.{IsInRange}

-- how many requests there are in all
abbrev pub request_count : List (List Request) → ℕ
request_count files = fold (λ count file. count + length file) 0 files

-- a file has so many requests
abbrev pub HasLength : ℕ → List (List Request) → Type 0
HasLength count files = Contains (map (λ file. length file) files) count

-- each request of each file is in range
abbrev pub AreInRange : List (List Request) → Type 0
AreInRange files = All (All IsInRange) files

-- the numbers behind this one are enough for a run of these files: 65 for each request
abbrev pub HasNumbersFor : ℕ → List (List Request) → Type 0
HasNumbersFor first files = first + 65 * request_count files ≤ MAX_NUMBER

-- the numbers behind this one are enough for one for each request
abbrev pub HasNumberEach : ℕ → List (List Request) → Type 0
HasNumberEach first files = first + request_count files ≤ MAX_NUMBER
