-- The writer of the dump.
use Rattle.std.specs.Prelude.{ℕ, ◌≡◌, ◌≤◌, ◌++◌, Bool, true, false, List, length}
use Rattle.std.specs.List.{flat_map, list_any}
use Rattle.std.specs.Global.{Vec}
use Rattle.csv.specs.Records.{fields_of}
use Rattle.csv.specs.declared.record.ByteRecord.{ByteRecord}
use Rattle.csv.specs.Writing.{default_writer, fields_written, has_written, needs_byte, with_flexible, writer_pending, writer_setup, writer_under}
use Rattle.csv.specs.declared.writer.Writer.{Writer}
use Rattle.csv.specs.declared.writer.WriterBuilder.{WriterBuilder}
use Rattle.tatp_text.specs.RecordText.{record_text}

-- commas, LF, quotes where they are needed, records of any length
abbrev pub dump_setup : WriterBuilder
dump_setup = with_flexible default_writer true

-- the writer stands between two records
abbrev pub IsBetweenRecords : Writer (Vec ℕ) → Type 0
IsBetweenRecords writer = (writer_setup writer ≡ dump_setup) × (fields_written writer ≡ 0) × (has_written writer ≡ false)

-- all that was written
abbrev pub written : Writer (Vec ℕ) → List ℕ
written writer = (writer_under writer).items ++ writer_pending writer

-- a field that calls for quotes
abbrev pub needs_quotes : List ℕ → Bool
needs_quotes field = list_any (needs_byte dump_setup) field

-- several fields, none of which calls for quotes
abbrev pub IsPlain : List (List ℕ) → Type 0
IsPlain fields = (2 ≤ length fields) × (list_any needs_quotes fields ≡ false)

-- these fields were added behind those that the record had
abbrev pub AddsFields : ByteRecord → ByteRecord → List (List ℕ) → Type 0
AddsFields old new fields = fields_of new ≡ fields_of old ++ fields

-- a record of these fields was written
abbrev pub WroteRecord : Writer (Vec ℕ) → Writer (Vec ℕ) → List (List ℕ) → Type 0
WroteRecord old new fields = written new ≡ written old ++ record_text fields

-- these records were written, one after another
abbrev pub WroteRecords : Writer (Vec ℕ) → Writer (Vec ℕ) → List (List (List ℕ)) → Type 0
WroteRecords old new records = written new ≡ written old ++ flat_map record_text records
