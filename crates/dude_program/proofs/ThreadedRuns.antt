-- How `run` and `stream` end, from what their threads leave.
use Rattle.std.proofs.Common.{◌≡◌, ℕ, ◌<◌, Bool, List, length, refl, sym, subst, Option, Vec, Global}
use Rattle.std.specs.Option.{is_none}
use Rattle.dude_base.specs.declared.run.Run.{Run}
use Rattle.dude_base.specs.Run.{IsRunWithin}
use Rattle.pmem_trait.specs.declared.medium.Medium.{Ghosts}
use Rattle.pmem_trait.specs.Sights.{Sight}
use Rattle.tatp_model.specs.declared.request.Request.{Request}
use Rattle.tatp_model.specs.Files.{requests_in}
use Rattle.dude_io.specs.Files.{FilesSight}
use Rattle.dude_io.specs.Sink.{SinkSight}
use Rattle.dude_stream.specs.Streams.{Streams}
use Rattle.dude_engine.specs.Opening.{Opening}
use Rattle.dude_engine.specs.Plain.{IsOpeningOf}
use Rattle.run_threads.specs.Ends.{MayRunOn}
use Rattle.command_edges.specs.declared.fault.Fault.{Fault}
use Rattle.dude_program.specs.declared.prepared.Prepared.{Prepared}
use Rattle.dude_program.specs.declared.print_time.PrintTime.{PrintTime}
use Rattle.dude_program.specs.declared.print_time.PrintTime.TheVariants.{AtEnd, Meanwhile}
use Rattle.dude_program.specs.declared.run_options.RunOptions.{RunOptions}
use Rattle.dude_program.specs.declared.worked.Worked.{Worked}
use Rattle.dude_program.specs.Ended.{Ends}
use Rattle.dude_program.specs.Prepared.{CarriesOut, IsPrepared}
use Rattle.dude_program.specs.Run.{fault_of_stream, meaning_of_run}
use Rattle.dude_program.specs.Work.{HasFrames, PrintsText, lines_of}
use Rattle.dude_program.specs.World.{world_of}
use Rattle.dude_program.proofs.EachCommand.{is_opening_of, opening_of, run_knows}
use Rattle.dude_program.proofs.Endings.{Came, ends_printed}
use Rattle.dude_program.proofs.FileCommands.{came_prepared, of_run, of_stream, some_lists}
use Rattle.dude_program.proofs.StreamEnds.{ends_streamed}
use Rattle.dude_program.proofs.Works.{RanOnThreads}

-- they carry out these files, with these frames
pub carries_out : (time : PrintTime) (options : RunOptions) (names : List (List ℕ)) → CarriesOut (meaning_of_run time options names) options.frames names
carries_out AtEnd options names = (refl, refl)
carries_out Meanwhile options names = (refl, refl)

module _ {M : Type 0} {ghosts : Ghosts M} {sight : M → Sight} (options : RunOptions) {names : List (List ℕ)} {medium : M} {f g : FilesSight} {prepared : Prepared M ghosts}
    (ready : IsPrepared sight options.frames names medium f g prepared) (run : Run) where
  abbrev opening : Opening
  opening = opening_of prepared.opened ready.opened

  own : IsOpeningOf prepared.opened opening
  own = is_opening_of prepared.opened ready.opened

  -- the threads may be started
  pub may_run : IsRunWithin prepared.opened.sizes.pages run → 0 < length names → MayRunOn prepared.opened run (length prepared.lists.items) (requests_in prepared.lists.items)
  may_run within some = record {
    held = ready.held;
    run_within = within;
    some = some_lists ready some;
    rings = ready.rings;
    in_range = ready.in_range;
    numbers = ready.numbers;
  }

  module _ (frames : HasFrames options.frames prepared.opened.sizes.pages run) {lists : List (Vec Request Global)} (same : lists ≡ prepared.lists.items) (worked : Worked M)
      (ran : RanOnThreads sight prepared.opened run lists worked) where
    came : (time : PrintTime) → Came (meaning_of_run time options names) f g opening worked.done.items worked.last worked.fault (sight medium) (sight worked.medium)
    came AtEnd = came_prepared (of_run options.frames options.locks names) ready same refl (run_knows options.frames opening run _ frames) (λ order n any. tt) worked.fault (ran opening own)
    came Meanwhile = came_prepared (of_stream options.frames options.locks names) ready same refl (run_knows options.frames opening run _ frames) (λ order n any. tt) worked.fault (ran opening own)

    -- the replies were printed at the end, or not
    pub ends_at_end : {time : PrintTime} {k l : SinkSight} → time ≡ AtEnd → (fault : Option Fault) → PrintsText (lines_of worked) worked.fault fault k l
        → Ends (meaning_of_run time options names) (world_of (sight medium) f k) (world_of (sight worked.medium) g l) worked.done.items fault
    ends_at_end {k = k} {l = l} is fault printed =
        subst (λ (time : PrintTime). Ends (meaning_of_run time options names) (world_of (sight medium) f k) (world_of (sight worked.medium) g l) worked.done.items fault) (sym is)
        (ends_printed _ _ _ (came AtEnd) (λ whole. (refl, tt)) printed)

    -- they were printed meanwhile, or some of them
    pub ends_meanwhile : {time : PrintTime} {k l : SinkSight} → time ≡ Meanwhile → (failed : Bool) → Streams (is_none worked.fault) failed worked.done.items worked.last k l
        → Ends (meaning_of_run time options names) (world_of (sight medium) f k) (world_of (sight worked.medium) g l) worked.done.items (fault_of_stream worked.fault failed)
    ends_meanwhile {k = k} {l = l} is failed streams =
        subst (λ (time : PrintTime). Ends (meaning_of_run time options names) (world_of (sight medium) f k) (world_of (sight worked.medium) g l) worked.done.items (fault_of_stream worked.fault failed)) (sym is)
        (ends_streamed refl (λ text is. (is, tt)) worked.fault failed (ran opening own).only (came Meanwhile) streams)
