use Rattle.std.proofs.Common.{◌≡◌, ◌++◌, map, take}
use Rattle.std.specs.List.{flat_map}
use Rattle.tatp_text.specs.RecordText.{record_text}
use Rattle.tatp_text.specs.Writing.{IsBetweenRecords, written}
use Rattle.tatp_text.proofs.writing.write_rows.Given as goal

-- the records so far are written
abbrev pub invariant-loop-row : goal.invariant-loop-row
invariant-loop-row g l = record {
  between : IsBetweenRecords l.writer;
  text : written l.writer ≡ written l.initial.writer ++ flat_map record_text (map g.R.DumpRow.record_fields (take l.row-index l.rows));
}
