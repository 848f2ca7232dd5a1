-- Files of which some requests are left.
use Rattle.std.specs.Prelude.{◌≡◌, ℕ, ◌+◌, ◌≤◌, List, length, slice_index}
use Rattle.tatp_model.specs.declared.done.Done.{Done}
use Rattle.tatp_model.specs.declared.request.Request.{Request}
use Rattle.tatp_model.specs.OneThread.{AllAreDone}
use Rattle.run_order.specs.Rests.{LengthsAre, files_of, firsts_of}
use Rattle.legal_entries.specs.Served.{AreDoneBy}
use Rattle.core_events.specs.Views.{Entry}
use Rattle.dude_engine.specs.Requests.{request_count}

-- The files in two parts: all requests of the first one are done, so many as are counted for each file, and some of the second one are left, for
-- each of which there is a number
pub record HasRests (files : List (List Request)) (counts : List ℕ) (draws : ℕ) (es : List Entry) (done : List Done) : Type 0 where
  pub parts : List (List Request × List Request)
  pub files_are : files_of parts ≡ files
  pub lengths : LengthsAre (slice_index counts) 0 (firsts_of parts)
  pub counted : length files ≤ length counts
  pub all : AllAreDone (firsts_of parts) done
  pub done_by : AreDoneBy (firsts_of parts) es done
  pub draws_left : request_count files ≤ length done + draws
