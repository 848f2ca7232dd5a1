-- What a run hands the sink whose lines are printed while it goes on.
use Rattle.std.specs.Prelude.{◌≡◌, ◌⊎◌, ℕ, Bool, true, false, Option, List, length}
use Rattle.tatp_model.specs.declared.done.Done.{Done}
use Rattle.tatp_model.specs.declared.request.Request.{Request}
use Rattle.tatp_model.specs.OneThread.{AllAreDone}
use Rattle.dude_io.specs.Sink.{SinkSight}
use Rattle.dude_stream.specs.declared.print_fault.PrintFault.{PrintFault}
use Rattle.dude_stream.specs.Lanes.{HasReceived}
use Rattle.dude_stream.specs.Streams.{Streams, of_file}
use Rattle.dude_engine.specs.declared.ran.Ran.{Ran}
use Rattle.dude_engine.specs.declared.ran.RanEnd.{RanEnd}
use Rattle.dude_engine.specs.declared.ran.RanEnd.TheVariants.{NoMemory, Whole}
use Rattle.run_workers.specs.Streamed.{HasStreamed}
use Rattle.run_threads.specs.declared.streamed_run.Streamed.{Streamed}

-- all requests are done, and durable
abbrev pub is_whole : RanEnd → Bool
is_whole Whole = true
is_whole _ = false

-- of each file what threads did stands first in what is done of it
abbrev pub StandFirst : List Done → List Done → Type 0
StandFirst threads done = (file : ℕ) → HasReceived (of_file file done) (of_file file threads)

-- The run is as it was; or it was whole, and there was no memory for a line behind it.
pub record IsSameRan {M : Type 0} (old new : Ran M) : Type 0 where
  pub done : new.done ≡ old.done
  pub medium : new.medium ≡ old.medium
  pub last : new.last ≡ old.last
  pub end : (new.end ≡ old.end) ⊎ ((old.end ≡ Whole) × (new.end ≡ NoMemory))

-- Whatever was printed while threads ran, with what is printed behind it the sink has what such a run is to hand it.
abbrev pub PrintsBehind : {M : Type 0} → Ran M → List ℕ → Option PrintFault → Streamed M → SinkSight → SinkSight → Type 0
PrintsBehind ran printed stopped r t u = (files : List (List Request)) (s : SinkSight) → AllAreDone files ran.done.items → HasStreamed (length printed) ran.done.items printed stopped s t
    → Streams (is_whole r.ran.end) r.sink_failed r.ran.done.items r.ran.last s u
