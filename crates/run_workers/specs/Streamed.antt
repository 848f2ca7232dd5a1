-- What is printed while workers run.
use Rattle.std.specs.Prelude.{◌≡◌, ℕ, ◌<◌, Option, None, Some, List, length, slice_index}
use Rattle.tatp_model.specs.declared.done.Done.{Done}
use Rattle.dude_io.specs.Sink.{SinkSight, Took, TookPart}
use Rattle.dude_stream.specs.declared.print_fault.PrintFault.{PrintFault}
use Rattle.dude_stream.specs.declared.print_fault.PrintFault.TheVariants.{Sink, NoMemory}
use Rattle.dude_stream.specs.Printing.{Taken, lines_text}
use Rattle.dude_stream.specs.Streams.{AreFirst, count_in}

-- the sink took the text, or it failed in it
abbrev pub PrintedTo : Option PrintFault → List ℕ → SinkSight → SinkSight → Type 0
PrintedTo None text s t = Took text s t
PrintedTo (Some NoMemory) text s t = Took text s t
PrintedTo (Some Sink) text s t = TookPart text s t

-- first replies of each file were printed, so many of each, and nothing else; or the printer stopped in these lines
pub record HasStreamed (count : ℕ) (done : List Done) (printed : List ℕ) (stopped : Option PrintFault) (s t : SinkSight) : Type 0 where
  pub lines : List Taken
  pub first : AreFirst lines done
  pub each : length printed ≡ count
  pub counted : (file : ℕ) → file < count → count_in lines file ≡ slice_index printed file
  pub took : PrintedTo stopped (lines_text lines) s t
