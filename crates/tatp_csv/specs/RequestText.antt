-- The text of a list of requests.
use Rattle.std.specs.Prelude.{ℕ, ◌≡◌, ◌≤◌, Ok, List, length, All}
use Rattle.std.specs.List.{flat_map}
use Rattle.tatp_model.specs.declared.request.Request.{Request}
use Rattle.tatp_model.specs.Request.{IsInRange}
use Rattle.tatp_text.specs.RequestLine.{request_line}
use Rattle.tatp_csv.specs.RequestFile.{requests_of}

-- the lines of these requests, one after another
abbrev pub requests_text : List Request → List ℕ
requests_text requests = flat_map request_line requests

-- the text of a list of requests, read as a request file, means that list
abbrev pub LawOfRequestText : Type 0
LawOfRequestText =
    (requests : List Request) → length requests ≤ 100000 → All IsInRange requests → requests_of (requests_text requests) ≡ Ok requests
