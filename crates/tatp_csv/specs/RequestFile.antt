-- What a request file means: its requests, or the place of its first bad record.
use Rattle.std.specs.Prelude.{ℕ, ⊤, ◌≡◌, ◌+◌, nat_lt, Result, Ok, Err, if◌then◌else◌, List, [], ◌∷◌, length}
use Rattle.csv.specs.Reading.{records, default_config, strip_bom}
use Rattle.tatp_model.specs.declared.request.Request.{Request}
use Rattle.tatp_text.specs.declared.text_fault.TextFault.{TextFault}
use Rattle.tatp_text.specs.declared.text_fault.TextFault.TheVariants.{Bad, NoMemory}
use Rattle.tatp_text.specs.RequestRecord.{request_of}

-- the number of a record and of a field, both counted from 1
abbrev pub Place : Type 0
Place = ℕ × ℕ

-- the first request before the others, unless its record or one after it is bad
abbrev pub with_first : ℕ → Result Request ℕ → Result (List Request) Place → Result (List Request) Place
with_first row (Err field) rest = Err (row, field)
with_first row (Ok request) (Err place) = Err place
with_first row (Ok request) (Ok rest) = Ok (request ∷ rest)

-- the requests of these records, the first of which has this number; record 100,001 is bad
unfoldable pub requests_from : ℕ → List (List (List ℕ)) → Result (List Request) Place
requests_from row [] = Ok []
requests_from row (fields ∷ rest) =
    if nat_lt 100000 row then Err (row, 0) else with_first row (request_of fields) (requests_from (row + 1) rest)

-- the requests of a file: its records are those that `csv` reads with commas, double quotes, no header row and no
-- trimming; a file of more than 16,777,216 bytes is bad at record 0
abbrev pub requests_of : List ℕ → Result (List Request) Place
requests_of bytes =
    if nat_lt 16777216 (length bytes) then Err (0, 0) else requests_from 1 (records default_config (strip_bom bytes))

-- why a file is refused: its first bad record and field; or there is no memory, which comes freely
abbrev pub HasCause : List ℕ → TextFault → Type 0
HasCause bytes (Bad row field) = requests_of bytes ≡ Err (row, field)
HasCause bytes NoMemory = ⊤
