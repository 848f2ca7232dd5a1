-- How a command ends, from what it came to.
use Rattle.std.proofs.Common.{◌≡◌, ◌⊎◌, ℕ, ◌≤◌, Bool, true, false, IsTrue, List, [], ◌++◌, length, take, refl, sym, ◌∙◌, ap, subst, inl, inr, arith, Option, Some, None}
use Rattle.std.specs.Prelude.{⊤}
use Rattle.std.specs.List.{All}
use Rattle.std.specs.Bool.{MatchBool}
use Rattle.std.proofs.lemmas.List.{length-append}
use Rattle.std.proofs.Math.Seq.{take-append_seam}
use Rattle.pmem_trait.specs.Sights.{Sight, Risen}
use Rattle.pmem_trait.specs.Reads.{OnlyReads}
use Rattle.tatp_model.specs.declared.done.Done.{Done}
use Rattle.tatp_model.specs.OneThread.{AllAreDone}
use Rattle.dude_io.specs.Files.{FilesSight}
use Rattle.dude_io.specs.Sink.{SinkSight, Took}
use Rattle.command_edges.specs.Command.{Meaning, Meaning.FreshRun, Meaning.FormatImage, Meaning.RunFiles, Meaning.StreamFiles, Meaning.RecoverImage, Meaning.DumpTables, Meaning.LocateRange, Meaning.DriveLoad, Meaning.AuditRun, Meaning.ShipFiles, Meaning.FollowFiles}
use Rattle.dude_engine.specs.Endings.{End}
use Rattle.dude_engine.specs.Opening.{Opening, IsOpening}
use Rattle.command_edges.specs.declared.fault.Fault.{Fault}
use Rattle.command_edges.specs.declared.fault.Fault.TheVariants.{Usage, File, Text, Small, TooFew, Unformatted, Damaged, NotDb, ManyFiles, Frames, FewSubscribers, Numbers, Device, Output, Memory, Audit, Strange}
use Rattle.command_edges.specs.Printing.{StopsIn}
use Rattle.command_edges.proofs.Order.{IsNoReadFault}
use Rattle.command_openings.specs.Openings.{IsOpeningOn}
use Rattle.dude_program.specs.World.{SinkStays, World, world_of}
use Rattle.dude_program.specs.Ship.{ShipsContent}
use Rattle.dude_program.specs.Opening.{IsOutput, IsReachable, Starts, ends_opened, makes_image, only_reads}
use Rattle.dude_program.specs.Headline.{AllDone, Completed, Crash, Headline, MustOnlyRead, Printed, Replies, StopsPrinting, Sync, TookAll, TookPrefix}
use Rattle.dude_program.specs.Causes.{Causes, FailsOnlyAtDevice, HasCause, IsGood, IsLeft, IsLeftOpened, MustRefuse, OpensOnce, OpensOnceBy, RefusesFormat, RefusesOpening, StoppedByOpening, Untouched}
use Rattle.dude_program.specs.Ended.{Ends}
use Rattle.dude_program.specs.Work.{PrintsText}
use Rattle.dude_program.proofs.FilesRead.{FilesRead, read_bad, read_before, read_fits, read_missing}
use Rattle.dude_program.proofs.Contents.{opens_not_refused}
use Rattle.dude_program.proofs.Refusals.{never_no, one_refusal}
use Rattle.dude_program.proofs.Crashes.{crash_each}

-- a command that has an opening, and doesn't only read
pub must_not : (meaning : Meaning) (s : Sight) → only_reads meaning ≡ false → (opening : Opening) → Starts meaning s opening → MustOnlyRead meaning s → ⊥
must_not meaning s writes opening starts (inl only) = let no : ⊥ = cc in no
must_not meaning s writes opening starts (inr none) = none opening starts

-- All requests are done, up to this last number.
pub record Finished (meaning : Meaning) (f : FilesSight) (opening : Opening) (done : List Done) (last : ℕ) (s t : Sight) : Type 0 where
  pub passes : makes_image meaning ≡ false → (why : Fault) → MustRefuse meaning f opening why → ⊥
  pub replies : Replies meaning f s opening done
  pub all : AllAreDone replies.requests done
  pub none_over : All (λ d. d.number ≤ last) done
  pub from : opening.number ≤ last
  pub reachable : IsReachable meaning opening done last
  pub end : IsTrue s.is_visible → End opening done last s t

-- why a command came to this before its output
abbrev pub CameBy : Meaning → FilesSight → Opening → List Done → ℕ → Sight → Sight → Option Fault → Type 0
CameBy meaning f opening done last s t None = Finished meaning f opening done last s t
CameBy meaning f opening done last s t (Some Device) = Risen s.faults t.faults
CameBy meaning f opening done last s t (Some Memory) = ⊤
CameBy meaning f opening done last s t (Some why) = (makes_image meaning ≡ false) × (done ≡ []) × RefusesOpening meaning f opening why × IsLeftOpened opening s t

-- The command starts from this opening, from no other where the medium is visible, and doesn't only read; its medium fits.
pub record StartsAt (meaning : Meaning) (opening : Opening) (s : Sight) : Type 0 where
  pub writes : only_reads meaning ≡ false
  pub starts : Starts meaning s opening
  pub lawful : IsOpening opening
  pub only : IsTrue s.is_visible → (other : Opening) → Starts meaning s other → other ≡ opening
  pub on : makes_image meaning ≡ false → IsOpeningOn s opening
  pub fits : (why : Fault) → RefusesFormat meaning s.len why → ⊥

-- What a command came to before its output: its files were read, and its image was opened at this opening.
pub record Came (meaning : Meaning) (f g : FilesSight) (opening : Opening) (done : List Done) (last : ℕ) (fault : Option Fault) (s t : Sight) : Type 0 where
  pub files : FilesRead meaning f g
  pub at : StartsAt meaning opening s
  pub replies : (done ≡ []) ⊎ Replies meaning f s opening done
  pub crash : Crash meaning opening done s t
  pub sync : Sync done s t
  pub ran : FailsOnlyAtDevice fault s t
  pub once : OpensOnce meaning fault s t
  pub nothing : makes_image meaning ≡ false → (why : Fault) → MustRefuse meaning f opening why → done ≡ []
  pub cause : CameBy meaning f opening done last s t fault

-- a sink that wasn't called, or that took some bytes
pub sink_same : {k : SinkSight} → SinkStays k k
sink_same = record { faults = omega arith; is_visible = refl }

pub sink_took : {bytes : List ℕ} {k l : SinkSight} → Took bytes k l → SinkStays k l
sink_took took = record { faults = took.faults; is_visible = took.is_visible }

-- the calls before a fault that isn't the medium's
ran_well : {fault : Option Fault} {s t : Sight} → FailsOnlyAtDevice None s t → (fault ≡ Some Device → ⊥) → FailsOnlyAtDevice fault s t
ran_well ran other = (ran.0, ran.1, (λ failed. absurd (let e = ran.2.0 failed in let no : ⊥ = cc in no), λ is. absurd (other is)))

-- and those behind the opening
behind_well : (b : Bool) {fault : Option Fault} (s t : Sight) → MatchBool b (t ≡ s) (FailsOnlyAtDevice None s t) → (fault ≡ Some Device → ⊥) → MatchBool b (t ≡ s) (FailsOnlyAtDevice fault s t)
behind_well true s t behind other = behind
behind_well false s t behind other = ran_well behind other

once_well : {meaning : Meaning} {fault : Option Fault} {s t : Sight} → OpensOnce meaning None s t → (fault ≡ Some Device → ⊥) → OpensOnce meaning fault s t
once_well {meaning} {t = t} once other = record {
  opening = once.opening;
  starts = once.starts;
  words = once.words;
  opened = once.opened;
  calls = once.calls;
  behind = behind_well (ends_opened meaning) once.opened t once.behind other;
  operates = λ well. once.operates tt;
}

pub once_by : (meaning : Meaning) (fault : Option Fault) (done : List Done) (s t : Sight) → OpensOnce meaning fault s t → OpensOnceBy meaning fault done s t
once_by meaning None done s t once = once
once_by meaning (Some Output) done s t once = once
once_by meaning fault done s t once = inr once

-- the prefix of the output that was taken
pub took_prefix : {text : List ℕ} {k l : SinkSight} {fault : Fault} → StopsIn text k l fault → TookPrefix k l text
took_prefix {text} {k} stops visible = (
  length stops.prefix,
  omega (arith, stops.some, ap length stops.split, length-append stops.prefix stops.rest),
  stops.took.taken visible ∙ ap (λ (x : List ℕ). k.taken ++ x) (sym (ap (take (length stops.prefix)) stops.split ∙ take-append_seam stops.prefix stops.rest)),
)

module _ {meaning : Meaning} {f g : FilesSight} {opening : Opening} {done : List Done} {last : ℕ} {earlier : Option Fault} {s t : Sight} (came : Came meaning f g opening done last earlier s t) where
  -- the headline, but for what was printed
  headline_of : {k l : SinkSight} (fault : Option Fault) → Printed meaning (world_of s f k) (world_of t g l) done fault → Headline meaning (world_of s f k) (world_of t g l) done fault
  headline_of fault printed = record {
    replies = elim came.replies [ inl none ↦ inl none | inr replies ↦ inr (opening, came.at.starts, came.at.lawful, replies) ];
    crash = λ other starts. crash_each meaning opening other done s t (λ visible. came.at.only visible other starts) came.crash;
    sync = came.sync;
    printed = printed;
    only_read = λ must. absurd (must_not meaning s came.at.writes opening came.at.starts must);
  }

  -- the causes, but for those of the opened image and of what follows
  causes_of : {k l : SinkSight} (fault : Option Fault) → IsNoReadFault fault → HasCause meaning (world_of s f k) (world_of t g l) fault
      → (makes_image meaning ≡ false → IsTrue s.is_visible → (why : Fault) → MustRefuse meaning f opening why → (fault ≡ Some why) ⊎ StoppedByOpening meaning fault)
      → (IsGood meaning (world_of s f k) → (Risen s.faults t.faults → ⊥) → (Risen k.faults l.faults → ⊥) → (fault ≡ None) ⊎ (fault ≡ Some Memory))
      → Untouched meaning fault s t done → FailsOnlyAtDevice fault s t → OpensOnce meaning fault s t → SinkStays k l → Causes meaning (world_of s f k) (world_of t g l) done fault
  causes_of fault unread cause refused complete untouched ran once sink = record {
    cause = cause;
    order = record {
      missing = λ visible misses. absurd (read_missing came.files visible misses);
      bad = λ reads visible number row field bad. absurd (read_bad came.files number row field visible bad);
      format = λ why refuses. absurd (came.at.fits why refuses);
      content = λ opens visible why refuses. absurd (opens_not_refused s opening why visible (came.at.on opens) refuses);
      opening = λ opens visible other starts why refuses.
          refused opens visible why (subst (λ (o : Opening). MustRefuse meaning f o why) (came.at.only visible other starts) refuses);
    };
    complete = λ good medium files output. complete good medium output;
    untouched = untouched;
    spared = λ bad. elim bad [ inl files ↦ absurd (read_fits came.files files) | inr refuses ↦ absurd (came.at.fits refuses.0 refuses.1) ];
    nothing = λ opens visible other starts why refuses.
        came.nothing opens why (subst (λ (o : Opening). MustRefuse meaning f o why) (came.at.only visible other starts) refuses);
    ran = ran;
    once = λ opens. once_by meaning fault done s t once;
    reads = read_before came.files fault unread;
    sink = sink;
  }

-- a command that opens its image leaves it so
is_left : (meaning : Meaning) (opening : Opening) (s t : Sight) → only_reads meaning ≡ false → IsLeftOpened opening s t → IsLeft meaning opening s t
is_left meaning opening s t writes left = subst (λ (b : Bool). MatchBool b (OnlyReads true s t) (IsLeftOpened opening s t)) (sym writes) left

-- what is said of an output beside: that the packets of `ship` lead from the array to which the content recovers
abbrev pub FromContent : (meaning : Meaning) (opening : Opening) (done : List Done) (last : ℕ) (text : List ℕ) → IsOutput meaning opening done last text → Sight → Type 0
FromContent (ShipFiles files) opening done last text output s = ShipsContent output s
FromContent meaning opening done last text output s = ⊤

-- the text is the command's output, from this medium on
abbrev pub Outputs : Meaning → Opening → List Done → ℕ → List ℕ → Sight → Type 0
Outputs meaning opening done last text s = (output : IsOutput meaning opening done last text) × FromContent meaning opening done last text output s

-- and all is done where it ends well
completed : (meaning : Meaning) (old new : World) (done : List Done) (Taken : List ℕ → Type 0) → only_reads meaning ≡ false → (all : AllDone meaning old new done Taken)
    → FromContent meaning all.opening done all.last all.text all.output old.medium → Completed meaning old new done Taken
completed (FreshRun subscribers file) old new done Taken writes all from = all
completed (FormatImage x s c n k) old new done Taken writes all from = all
completed (RunFiles frames locks files) old new done Taken writes all from = all
completed (StreamFiles frames locks files) old new done Taken writes all from = all
completed RecoverImage old new done Taken writes all from = all
completed DumpTables old new done Taken writes all from = all
completed (LocateRange low high limit) old new done Taken writes all from = all
completed (DriveLoad seed count number) old new done Taken writes all from = all
completed (AuditRun printed names) old new done Taken writes all from = absurd (let no : ⊥ = cc in no)
completed (ShipFiles files) old new done Taken writes all from = record { all = all; from = from }
completed (FollowFiles files) old new done Taken writes all from = all

-- an opened image was refused
ends_behind : {meaning : Meaning} {f g : FilesSight} {opening : Opening} {done : List Done} {last : ℕ} {s t : Sight} {k : SinkSight} (why : Fault) → Came meaning f g opening done last (Some why) s t
    → makes_image meaning ≡ false → RefusesOpening meaning f opening why
    → IsNoReadFault (Some why) → HasCause meaning (world_of s f k) (world_of t g k) (Some why) → Printed meaning (world_of s f k) (world_of t g k) done (Some why) → Untouched meaning (Some why) s t done
    → Ends meaning (world_of s f k) (world_of t g k) done (Some why)
ends_behind {meaning} {f} {g} {opening} {done} {s = s} {t = t} {k = k} why came opens refuses unread cause printed untouched = record {
  headline = λ has. headline_of came (Some why) printed;
  causes = causes_of came (Some why) unread cause
      (λ _ visible other also. inl (ap Some (one_refusal meaning f opening why other refuses also)))
      (λ good medium output. absurd (let o = (good.opens opens).1 in
      o.2 why (subst (λ (p : Opening). RefusesOpening meaning f p why) (sym (came.at.only (good.opens opens).0 o.0 o.1)) refuses)))
      untouched came.ran came.once sink_same;
}

-- The medium failed, or there was no memory; and some may be printed, by a command that prints while it runs.
module _ {meaning : Meaning} {f g : FilesSight} {opening : Opening} {done : List Done} {last : ℕ} {s t : Sight} {k l : SinkSight} (printed : StopsPrinting meaning (world_of s f k) (world_of t g l) done) (sink : SinkStays k l) where
  pub ends_at_device : Came meaning f g opening done last (Some Device) s t → Ends meaning (world_of s f k) (world_of t g l) done (Some Device)
  ends_at_device came = record {
    headline = λ has. headline_of came (Some Device) printed;
    causes = causes_of came (Some Device) tt came.cause (λ opens visible why refuses. inr tt) (λ good medium output. absurd (medium came.cause)) tt came.ran came.once sink;
  }

  pub ends_at_memory : Came meaning f g opening done last (Some Memory) s t → Ends meaning (world_of s f k) (world_of t g l) done (Some Memory)
  ends_at_memory came = record {
    headline = λ has. headline_of came (Some Memory) (inl printed);
    causes = causes_of came (Some Memory) tt tt (λ opens visible why refuses. inr tt) (λ good medium output. inr refl) tt came.ran came.once sink;
  }

-- A fault came before the output.
pub ends_faulted : {meaning : Meaning} {f g : FilesSight} {opening : Opening} {done : List Done} {last : ℕ} {s t : Sight} {k : SinkSight} (fault : Fault) → Came meaning f g opening done last (Some fault) s t
    → Ends meaning (world_of s f k) (world_of t g k) done (Some fault)
ends_faulted Device came = ends_at_device (inl refl) sink_same came
ends_faulted Memory came = ends_at_memory (inl refl) sink_same came
ends_faulted {meaning} {opening = opening} {s = s} {t = t} (ManyFiles a b) came =
    ends_behind (ManyFiles a b) came came.cause.0 came.cause.2 tt (record { opening = opening; opens = came.cause.0; starts = came.at.starts; lawful = came.at.lawful; why = came.cause.2; left = is_left meaning opening s t came.at.writes came.cause.3 }) refl came.cause.1
ends_faulted {meaning} {opening = opening} {s = s} {t = t} (Frames a b) came =
    ends_behind (Frames a b) came came.cause.0 came.cause.2 tt (record { opening = opening; opens = came.cause.0; starts = came.at.starts; lawful = came.at.lawful; why = came.cause.2; left = is_left meaning opening s t came.at.writes came.cause.3 }) refl came.cause.1
ends_faulted {meaning} {opening = opening} {s = s} {t = t} (FewSubscribers a b) came =
    ends_behind (FewSubscribers a b) came came.cause.0 came.cause.2 tt (record { opening = opening; opens = came.cause.0; starts = came.at.starts; lawful = came.at.lawful; why = came.cause.2; left = is_left meaning opening s t came.at.writes came.cause.3 }) refl came.cause.1
ends_faulted {meaning} {opening = opening} {s = s} {t = t} (Numbers a b) came =
    ends_behind (Numbers a b) came came.cause.0 came.cause.2 tt (record { opening = opening; opens = came.cause.0; starts = came.at.starts; lawful = came.at.lawful; why = came.cause.2; left = is_left meaning opening s t came.at.writes came.cause.3 }) refl came.cause.1
ends_faulted Usage came = absurd came.cause.2
ends_faulted (File n) came = absurd came.cause.2
ends_faulted (Text n r c) came = absurd came.cause.2
ends_faulted (Small a b) came = absurd came.cause.2
ends_faulted (TooFew a b) came = absurd came.cause.2
ends_faulted Unformatted came = absurd came.cause.2
ends_faulted (Damaged a) came = absurd came.cause.2
ends_faulted (NotDb a) came = absurd came.cause.2
ends_faulted Output came = absurd came.cause.2
ends_faulted (Strange a b) came = absurd came.cause.2
ends_faulted {meaning} {f} {opening = opening} (Audit line) came = absurd (never_no meaning f opening line came.at.writes came.cause.2)

module _ {meaning : Meaning} {f g : FilesSight} {opening : Opening} {done : List Done} {last : ℕ} {s t : Sight} (came : Came meaning f g opening done last None s t) where
  passed : (fault : Option Fault) → makes_image meaning ≡ false → IsTrue s.is_visible → (why : Fault) → MustRefuse meaning f opening why → (fault ≡ Some why) ⊎ StoppedByOpening meaning fault
  passed fault opens visible why refuses = absurd (came.cause.passes opens why refuses)

  -- all was done, but there was no memory for the text
  pub ends_untold : {k : SinkSight} → Ends meaning (world_of s f k) (world_of t g k) done (Some Memory)
  ends_untold = record {
    headline = λ has. headline_of came (Some Memory) (inl (inl refl));
    causes = causes_of came (Some Memory) tt tt (passed (Some Memory)) (λ good medium output. inr refl) tt (ran_well came.ran (λ e. let no : ⊥ = cc in no)) (once_well came.once (λ e. let no : ⊥ = cc in no)) sink_same;
  }

module _ {meaning : Meaning} {f g : FilesSight} {opening : Opening} {done : List Done} {last : ℕ} {s t : Sight} (came : Came meaning f g opening done last None s t) (text : List ℕ)
    (output : Outputs meaning opening done last text s) where
  abbrev all_done : (k l : SinkSight) {Taken : List ℕ → Type 0} → Taken text → AllDone meaning (world_of s f k) (world_of t g l) done Taken
  all_done k l taken = record {
    opening = opening;
    starts = came.at.starts;
    lawful = came.at.lawful;
    replies = came.cause.replies;
    all = came.cause.all;
    last = last;
    none_over = came.cause.none_over;
    from = came.cause.from;
    reachable = came.cause.reachable;
    end = came.cause.end;
    text = text;
    output = output.0;
    bytes = taken;
  }

  -- all was done and printed
  ends_whole : {k l : SinkSight} → Took text k l → Ends meaning (world_of s f k) (world_of t g l) done None
  ends_whole {k} {l} took = record {
    headline = λ has. headline_of came None (completed meaning (world_of s f k) (world_of t g l) done (TookAll k l) came.at.writes (all_done k l {Taken = TookAll k l} took.taken) output.1);
    causes = causes_of came None tt tt (passed came None) (λ good medium output. inl refl) tt came.ran came.once (sink_took took);
  }

  -- all was done, and a prefix of it printed
  ends_unprinted : {k l : SinkSight} (fault : Fault) → StopsIn text k l fault → Ends meaning (world_of s f k) (world_of t g l) done (Some fault)
  ends_unprinted {k} {l} fault stops = by_fault stops.only
    where
      P : Fault → Type 0
      P x = Ends meaning (world_of s f k) (world_of t g l) done (Some x)

      all : Completed meaning (world_of s f k) (world_of t g l) done (TookPrefix k l)
      all = completed meaning (world_of s f k) (world_of t g l) done (TookPrefix k l) came.at.writes (all_done k l {Taken = TookPrefix k l} (took_prefix stops)) output.1

      at_output : Risen k.faults l.faults → P Output
      at_output risen = record {
        headline = λ has. headline_of came (Some Output) all;
        causes = causes_of came (Some Output) tt risen (passed came (Some Output)) (λ good medium output. absurd (output risen)) tt (ran_well came.ran (λ e. let no : ⊥ = cc in no)) (once_well came.once (λ e. let no : ⊥ = cc in no)) (sink_took stops.took);
      }

      at_memory : P Memory
      at_memory = record {
        headline = λ has. headline_of came (Some Memory) (inr all);
        causes = causes_of came (Some Memory) tt tt (passed came (Some Memory)) (λ good medium output. inr refl) tt (ran_well came.ran (λ e. let no : ⊥ = cc in no)) (once_well came.once (λ e. let no : ⊥ = cc in no)) (sink_took stops.took);
      }

      by_fault : (fault ≡ Output) ⊎ (fault ≡ Memory) → P fault
      by_fault (inl is) = subst P (sym is) (at_output (stops.cause is))
      by_fault (inr is) = subst P (sym is) at_memory

-- What is printed decides how the command ends.
pub ends_printed : {meaning : Meaning} {f g : FilesSight} {opening : Opening} {done : List Done} {last : ℕ} {s t : Sight} {k l : SinkSight} (text : List ℕ) (earlier fault : Option Fault)
    → Came meaning f g opening done last earlier s t → (earlier ≡ None → Outputs meaning opening done last text s) → PrintsText text earlier fault k l → Ends meaning (world_of s f k) (world_of t g l) done fault
ends_printed {meaning} {f} {g} {done = done} {s = s} {t = t} {k = k} {l = l} text (Some earlier) fault came output printed =
    subst (λ (o : Option Fault). Ends meaning (world_of s f k) (world_of t g l) done o) (sym printed.0)
    (subst (λ (x : SinkSight). Ends meaning (world_of s f k) (world_of t g x) done (Some earlier)) (sym printed.1) (ends_faulted earlier came))
ends_printed text None None came output printed = ends_whole came text (output refl) printed
ends_printed text None (Some fault) came output (inl stops) = ends_unprinted came text (output refl) fault stops
ends_printed {meaning} {f} {g} {done = done} {s = s} {t = t} {k = k} {l = l} text None (Some fault) came output (inr printed) =
    subst (λ (x : Fault). Ends meaning (world_of s f k) (world_of t g l) done (Some x)) (sym printed.0)
    (subst (λ (x : SinkSight). Ends meaning (world_of s f k) (world_of t g x) done (Some Memory)) (sym printed.1) (ends_untold came))
