-- The rows that a reader of a text has left.
use Rattle.std.specs.Prelude.{ℕ, ◌≡◌, ◌+◌, Bool, true, false, Option, Some, None, IsSome, List, [], ◌∷◌, length}
use Rattle.std.specs.Borrow.{Bor}
use Rattle.csv.specs.Reading.{Ready, default_config, is_flexible, reader_config, reader_state, reader_trim, records_from, source_of}
use Rattle.csv.specs.Records.{fields_of}
use Rattle.csv.specs.declared.record.ByteRecord.{ByteRecord}
use Rattle.csv.specs.declared.parser.State.{State}
use Rattle.csv.specs.declared.reader.Reader.{Reader}
use Rattle.csv.specs.declared.reader.Trim.TheVariants as trim

-- the bytes that the reader has left, where it hasn't failed
abbrev pub bytes_left : Reader (Bor (List ℕ)) → Option (List ℕ)
bytes_left reader = source_of (λ text. Some text.now) reader

-- the reader has commas, double quotes, no header row, no trimming and records of any length,
-- and hasn't failed
abbrev pub IsReading : Reader (Bor (List ℕ)) → Type 0
IsReading reader =
    (reader_trim reader ≡ trim.None) × Ready reader × (reader_config reader ≡ default_config) × IsSome (bytes_left reader)
    × (is_flexible reader ≡ true)

-- the rows of a text from a state of the reader: `records` of it are those from the start of a record
abbrev pub rows_from : State → Option (List ℕ) → List (List (List ℕ))
rows_from state None = []
rows_from state (Some text) = records_from default_config (length text + 1) state text

-- the rows that the reader has left; none where it has failed
abbrev pub rows_left : Reader (Bor (List ℕ)) → List (List (List ℕ))
rows_left reader = rows_from (reader_state reader) (bytes_left reader)

-- a read took the first of these rows, or there was none
abbrev pub TakesFirst : List (List (List ℕ)) → Bool → List (List ℕ) → List (List (List ℕ)) → Type 0
TakesFirst rows false row rest = rows ≡ []
TakesFirst rows true row rest = rows ≡ row ∷ rest

-- a read from a reader took the first row that was left into a record, or there was none
abbrev pub TakesRow : Reader (Bor (List ℕ)) → Reader (Bor (List ℕ)) → ByteRecord → Bool → Type 0
TakesRow old new row found = TakesFirst (rows_left old) found (fields_of row) (rows_left new)
