-- How a command ends that prints while it runs.
use Rattle.std.proofs.Common.{◌≡◌, ◌⊎◌, ℕ, Bool, true, false, IsTrue, List, sym, subst, inl, inr, Option, Some, None}
use Rattle.std.specs.Option.{is_none}
use Rattle.pmem_trait.specs.Sights.{Sight}
use Rattle.tatp_model.specs.declared.done.Done.{Done}
use Rattle.dude_io.specs.Files.{FilesSight}
use Rattle.dude_io.specs.Sink.{SinkSight}
use Rattle.dude_stream.specs.Streams.{IsStreamText, Streams}
use Rattle.command_edges.specs.Command.{Meaning}
use Rattle.dude_engine.specs.Opening.{Opening}
use Rattle.command_edges.specs.declared.fault.Fault.{Fault}
use Rattle.command_edges.specs.declared.fault.Fault.TheVariants.{Device, Output, Memory}
use Rattle.command_edges.proofs.Prints.{part_stops}
use Rattle.dude_program.specs.World.{SinkStays, world_of}
use Rattle.dude_program.specs.Opening.{prints_early}
use Rattle.dude_program.specs.Headline.{StopsPrinting, TookPrefix}
use Rattle.dude_program.specs.Ended.{Ends}
use Rattle.dude_program.specs.Run.{fault_of_stream}
use Rattle.dude_program.proofs.Endings.{Came, Outputs, ends_at_device, ends_at_memory, ends_printed, sink_took}

-- a run that isn't whole printed some of a text
some_of : (done : List Done) (last : ℕ) (failed : Bool) (k l : SinkSight) → Streams false failed done last k l → (text : List ℕ) × IsStreamText done last text × TookPrefix k l text
some_of done last false k l streams = (streams.0, streams.1, λ visible. (streams.2.n, streams.2.less, streams.2.took.taken visible))
some_of done last true k l streams = (streams.0, streams.1, λ visible. (streams.2.n, streams.2.less, streams.2.took.taken visible))

sink_stays : (done : List Done) (last : ℕ) (failed : Bool) {k l : SinkSight} → Streams false failed done last k l → SinkStays k l
sink_stays done last false streams = sink_took streams.2.took
sink_stays done last true streams = sink_took streams.2.took

module _ {meaning : Meaning} {f g : FilesSight} {opening : Opening} {done : List Done} {last : ℕ} {s t : Sight} {k l : SinkSight} (early : IsTrue (prints_early meaning))
    (outputs : (text : List ℕ) → IsStreamText done last text → Outputs meaning opening done last text s) where
  printed_some : (failed : Bool) {fault : Option Fault} → Came meaning f g opening done last fault s t → Streams false failed done last k l → StopsPrinting meaning (world_of s f k) (world_of t g l) done
  printed_some failed came streams =
      let some = some_of done last failed k l streams in
      inr (record {
        early = early;
        opening = opening;
        starts = came.at.starts;
        last = last;
        text = some.0;
        output = (outputs some.0 some.1).0;
        bytes = some.2;
      })

  -- a whole run printed all, or the sink failed
  ends_whole : (failed : Bool) → Came meaning f g opening done last None s t → Streams true failed done last k l → Ends meaning (world_of s f k) (world_of t g l) done (fault_of_stream None failed)
  ends_whole false came streams = ends_printed streams.0 None None came (λ whole. outputs streams.0 streams.1) streams.2
  ends_whole true came streams = ends_printed streams.0 None (Some Output) came (λ whole. outputs streams.0 streams.1) (inl (part_stops _ streams.2))

  -- What the run came to and what was printed decide how the command ends.
  pub ends_streamed : (earlier : Option Fault) (failed : Bool) → (earlier ≡ None) ⊎ (earlier ≡ Some Device) ⊎ (earlier ≡ Some Memory) → Came meaning f g opening done last earlier s t
      → Streams (is_none earlier) failed done last k l → Ends meaning (world_of s f k) (world_of t g l) done (fault_of_stream earlier failed)
  ends_streamed earlier failed only = by only
    where
      P : Option Fault → Type 0
      P o = Came meaning f g opening done last o s t → Streams (is_none o) failed done last k l → Ends meaning (world_of s f k) (world_of t g l) done (fault_of_stream o failed)

      by : (earlier ≡ None) ⊎ (earlier ≡ Some Device) ⊎ (earlier ≡ Some Memory) → P earlier
      by (inl is) = subst P (sym is) (λ came streams. ends_whole failed came streams)
      by (inr (inl is)) = subst P (sym is) (λ came streams. ends_at_device (printed_some failed came streams) (sink_stays done last failed streams) came)
      by (inr (inr is)) = subst P (sym is) (λ came streams. ends_at_memory (printed_some failed came streams) (sink_stays done last failed streams) came)
