-- The lines that a run of files has, before they are read.
use Rattle.std.specs.Prelude.{ℕ, ◌≡◌, ◌<◌, ◌+◌, List, map, length, slice_index_or}
use Rattle.tatp_model.specs.declared.request.Request.{Request}
use Rattle.tatp_model.specs.OneThread.{indexed_requests_from}
use Rattle.dude_audit.specs.declared.claim.Claim.{Claim}
use Rattle.dude_audit.specs.Claim.{claimed_request_of}

-- lines of the requests of the files, one for each in order of file and index, numbered from 1
pub record AreBlanks (files : List (List Request)) (blanks : List Claim) : Type 0 where
  pub requests : map claimed_request_of blanks ≡ indexed_requests_from 0 files
  pub numbered : (j : ℕ) (d : Claim) → j < length blanks → (slice_index_or blanks j d).line ≡ j + 1
