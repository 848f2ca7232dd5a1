use Rattle.std.proofs.Common.{◌≡◌, ◌+◌}
use Rattle.tatp_csv.specs.Rows.{IsReading, rows_left}
use Rattle.tatp_csv.specs.RequestFile.{requests_from, requests_of}
use Rattle.tatp_csv.proofs.Requests.{after}
use Rattle.tatp_csv.proofs.request_file.read_requests.Given as goal

-- the file means the requests so far, and those of the rows that are left
abbrev pub invariant-loop-before : goal.invariant-loop-before
invariant-loop-before l = record {
  reads : IsReading l.reader;
  left : requests_of l.bytes ≡ after l.requests.items (requests_from (l.before + 1) (rows_left l.reader));
}
