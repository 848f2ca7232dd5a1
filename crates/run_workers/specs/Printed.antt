-- What the printer gave the sink, and what of each file it left.
use Rattle.std.specs.Prelude.{◌≡◌, ℕ, ◌+◌, ◌<◌, ◌≤◌, Option, List, length, slice_index, slice_index_or}
use Rattle.tatp_model.specs.declared.request.Request.{Request}
use Rattle.dude_io.specs.Sink.{SinkSight}
use Rattle.dude_stream.specs.declared.outlet.Outlet.{Outlet}
use Rattle.dude_stream.specs.declared.print_fault.PrintFault.{PrintFault}
use Rattle.dude_stream.specs.Printing.{ReceivedMore, Taken, lines_text}
use Rattle.run_workers.specs.Job.{requests_of}
use Rattle.run_workers.specs.Streamed.{PrintedTo}

-- the lines of the first replies that were received from each lane were printed, and no others
pub record IsPrinted (stopped : Option PrintFault) (from now : List Outlet) (s t : SinkSight) : Type 0 where
  pub lines : List Taken
  pub received : ReceivedMore lines from now
  pub took : PrintedTo stopped (lines_text lines) s t

-- of each file no more lines are left than it has requests
pub record LeaveFew (files : List (List Request)) (outlets : List Outlet) : Type 0 where
  pub count : length outlets ≡ length files
  pub few : (file : ℕ) (o : Outlet) → file < length files → (slice_index_or outlets file o).left ≤ length (requests_of files file)

-- of each file so many lines are printed, and all others are left
pub record ArePrinted (files : List (List Request)) (outlets : List Outlet) (printed : List ℕ) : Type 0 where
  pub count : length printed ≡ length files
  pub each : (file : ℕ) (o : Outlet) → file < length files → slice_index printed file + (slice_index_or outlets file o).left ≡ length (requests_of files file)
