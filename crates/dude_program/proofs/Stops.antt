-- How a command ends that stops before its image is opened.
use Rattle.std.proofs.Common.{◌≡◌, ◌⊎◌, Bool, true, false, IsTrue, List, [], length, map, refl, sym, ap, subst, inl, inr, Option, Some, None}
use Rattle.std.specs.Bool.{MatchBool}
use Rattle.std.proofs.Math.Seq.{drop-length}
use Rattle.dude_base.specs.declared.sizes.Sizes.{Sizes}
use Rattle.pmem_trait.specs.declared.call.Call.TheVariants.{Read}
use Rattle.pmem_trait.specs.Words.{IsSettled}
use Rattle.pmem_trait.specs.Sights.{Sight, state_now, SomeCalls}
use Rattle.pmem_trait.specs.Reads.{ContentHas, OnlyReads}
use Rattle.pmem_trait.proofs.Laws.{every_moment_here}
use Rattle.pmem_trait.proofs.Runs.{ran_here, ran_on}
use Rattle.pmem_trait.proofs.ReadRuns.{reads_here}
use Rattle.tatp_model.specs.declared.done.Done.{Done}
use Rattle.dude_io.specs.Files.{FilesSight}
use Rattle.dude_io.specs.Sink.{SinkSight}
use Rattle.dude_recover.specs.Causes.{FormatsSome}
use Rattle.dude_recover.specs.FormatCalls.{format_calls}
use Rattle.dude_recover.specs.Answers.{OpensSome, StillRecovers}
use Rattle.dude_recover.proofs.OpeningMoments.{opened_some, opens_calls}
use Rattle.dude_recover.proofs.SettledReads.{content_kept}
use Rattle.command_edges.specs.Command.{Meaning, Meaning.FreshRun, Meaning.FormatImage, Meaning.RunFiles, Meaning.StreamFiles, Meaning.RecoverImage, Meaning.DumpTables, Meaning.LocateRange, Meaning.DriveLoad, Meaning.AuditRun, Meaning.ShipFiles, Meaning.FollowFiles}
use Rattle.command_edges.specs.Files.{HasFileFault, MissesFile}
use Rattle.command_edges.specs.Files as read
use Rattle.command_edges.specs.Reads.{ReadsInOrder}
use Rattle.command_edges.proofs.Order.{IsNoReadFault, stopped_in_order, whole_none}
use Rattle.dude_engine.specs.Opening.{Opening}
use Rattle.command_edges.specs.declared.fault.Fault.{Fault}
use Rattle.command_edges.specs.declared.fault.Fault.TheVariants.{File, Text, Small, TooFew, Unformatted, Damaged, NotDb, Device, Memory}
use Rattle.command_openings.specs.Opens.{FailsOpening, OpensPartly, ShowsOpening}
use Rattle.command_openings.specs.Faults.{HasFormatFault, HasOpenFault}
use Rattle.command_openings.specs.Openings.{IsOpeningOn, new_opening}
use Rattle.command_openings.proofs.ImageOpened.{partly_opened}
use Rattle.dude_program.specs.World.{world_of}
use Rattle.dude_program.specs.Opening.{Starts, command_files, makes_image, only_reads}
use Rattle.dude_program.specs.Headline.{Headline, MustOnlyRead, Printed}
use Rattle.dude_program.specs.Causes.{FailsOnlyAtDevice, FilesRefuse, HasCause, MakesSome, OpensOnceBy, RefusesContent, RefusesFormat, RefusesInOrder, StoppedAtFiles, StoppedByOpening, StoppedReading, SucceedsIfGood, Untouched, sizes_made}
use Rattle.dude_program.specs.Ended.{Ends}
use Rattle.dude_program.proofs.FilesRead.{FilesRead, all_read, good_none_bad, one_bad, read_bad, read_before, read_fits, read_missing}
use Rattle.dude_program.proofs.Contents.{fits_not_refused, makes_none, one_content_fault, one_format_fault, opens_not_refused}
use Rattle.dude_program.proofs.Crashes.{crash_prefix, sync_none}
use Rattle.dude_program.proofs.Endings.{must_not, sink_same}

-- the calls behind which a fault isn't the medium's
calls_well : {fault : Option Fault} {s t : Sight} → SomeCalls true s t → (fault ≡ Some Device → ⊥) → FailsOnlyAtDevice fault s t
calls_well ran other = (true, ran, (λ failed. absurd (let no : ⊥ = cc in no), λ is. absurd (other is)))

calls_failed : {s t : Sight} → SomeCalls false s t → FailsOnlyAtDevice (Some Device) s t
calls_failed ran = (false, ran, (λ failed. refl, λ is. refl))

calls_none : {fault : Option Fault} (s t : Sight) → t ≡ s → (fault ≡ Some Device → ⊥) → FailsOnlyAtDevice fault s t
calls_none {fault} s t same other = subst (λ (u : Sight). FailsOnlyAtDevice fault s u) (sym same) (calls_well (ran_here s) other)

pub reads_ran : {fault : Option Fault} {s t : Sight} → OnlyReads true s t → (fault ≡ Some Device → ⊥) → FailsOnlyAtDevice fault s t
reads_ran reads other = calls_well (map Read reads.words, reads.made) other

-- the image was made, or no call was made
made_or_none : (sizes : Sizes) (s t : Sight) → (t ≡ s) ⊎ FormatsSome sizes true s t → FailsOnlyAtDevice (Some Memory) s t
made_or_none sizes s t (inl same) = calls_none s t same (λ e. let no : ⊥ = cc in no)
made_or_none sizes s t (inr made) = calls_well (format_calls sizes made.0, made.2) (λ e. let no : ⊥ = cc in no)

-- the calls of an opening that failed
opening_calls_failed : {s t : Sight} → FailsOpening s t → SomeCalls false s t
opening_calls_failed (inl some) = opened_some some
opening_calls_failed (inr told) = ran_on (opens_calls told.calls.opens) told.calls.tells

-- an opening that wasn't begun
unopened : (meaning : Meaning) (b : Bool) (s : Sight) → MatchBool b ((s ≡ s) ⊎ MakesSome meaning true s s) (OpensSome true s s)
unopened meaning true s = inl refl
unopened meaning false s = inl (reads_here s)

-- the headline where nothing is done
pub headline_none : (meaning : Meaning) {s t : Sight} {f g : FilesSight} {k : SinkSight} (fault : Fault) → ((opening : Opening) → Starts meaning s opening → OpensPartly (makes_image meaning) opening s t)
    → Printed meaning (world_of s f k) (world_of t g k) [] (Some fault) → (MustOnlyRead meaning s → (ok : Bool) × OnlyReads ok s t)
    → Headline meaning (world_of s f k) (world_of t g k) [] (Some fault)
headline_none meaning {s} {t} fault prefix printed reads = record {
  replies = inl refl;
  crash = λ opening starts. crash_prefix meaning opening s t (prefix opening starts);
  sync = sync_none s t;
  printed = printed;
  only_read = reads;
}

-- ---- at the files

-- on a medium at rest
module _ (meaning : Meaning) {s : Sight} {f : FilesSight} {k : SinkSight} (prefix : (opening : Opening) → Starts meaning s opening → OpensPartly (makes_image meaning) opening s s) where
  -- reading stopped for this fault
  order_unread : (fault : Fault) → StoppedReading (Some fault) → StoppedAtFiles meaning (Some fault) → StoppedByOpening meaning (Some fault)
      → RefusesInOrder meaning (world_of s f k) (Some fault)
  order_unread fault unread at_files by_opening = record {
    missing = λ visible misses. unread;
    bad = λ reads visible number row field bad. inr unread;
    format = λ why refuses. inr at_files;
    content = λ opens visible why refuses. inr by_opening;
    opening = λ opens visible opening starts why refuses. inr by_opening;
  }

  -- the medium wasn't called, for this fault
  ends_uncalled : {g : FilesSight} (fault : Fault) → ReadsInOrder (command_files meaning) (Some fault) f g → HasCause meaning (world_of s f k) (world_of s g k) (Some fault)
      → RefusesInOrder meaning (world_of s f k) (Some fault) → SucceedsIfGood meaning (world_of s f k) (world_of s g k) (Some fault) → Untouched meaning (Some fault) s s []
      → OpensOnceBy meaning (Some fault) [] s s → Printed meaning (world_of s f k) (world_of s g k) [] (Some fault) → (◌≡◌ {A = Option Fault} (Some fault) (Some Device) → ⊥)
      → Ends meaning (world_of s f k) (world_of s g k) [] (Some fault)
  ends_uncalled fault read cause order complete untouched once printed other = record {
    headline = λ has. headline_none meaning fault prefix printed (λ none. (true, reads_here s));
    causes = record {
      cause = cause;
      order = order;
      complete = complete;
      untouched = untouched;
      spared = λ bad. (refl, refl);
      nothing = λ opens visible opening starts why refuses. refl;
      ran = calls_none s s refl other;
      once = λ opens. once;
      reads = read;
      sink = sink_same;
    };
  }

  pub ends_at_files : {g : FilesSight} (fault : Fault) → ReadsInOrder (command_files meaning) (Some fault) f g → HasFileFault (command_files meaning) f g fault → (IsTrue f.is_visible → MissesFile (command_files meaning) f → read.StoppedReading fault)
      → Ends meaning (world_of s f k) (world_of s g k) [] (Some fault)
  ends_at_files (File n) read has missing =
      ends_uncalled (File n) read has (order_unread (File n) tt tt tt) (λ good medium files output. absurd (files has.1)) (refl, refl) (inl (refl, tt)) refl (λ e. let no : ⊥ = cc in no)
  ends_at_files (Text n r c) read has missing =
      ends_uncalled (Text n r c) read (λ reads. has.0) (record {
        missing = λ visible misses. absurd (missing visible misses);
        bad = λ reads visible number row field bad. inl (one_bad f (command_files meaning) n number r row c field visible has.0 bad);
        format = λ why refuses. inr (all_read meaning f n r c has.0);
        content = λ opens visible why refuses. inr (all_read meaning f n r c has.0);
        opening = λ opens visible opening starts why refuses. inr (all_read meaning f n r c has.0);
      }) (λ good medium files output. absurd (good_none_bad f (command_files meaning) n r c good.files good.good has.0)) ((λ reads. refl), refl) (inl (refl, tt)) refl (λ e. let no : ⊥ = cc in no)
  ends_at_files Memory read has missing =
      ends_uncalled Memory read tt (order_unread Memory tt tt tt) (λ good medium files output. inr refl) tt (inl (refl, unopened meaning (makes_image meaning) s)) (inl (inl refl)) (λ e. let no : ⊥ = cc in no)
  ends_at_files why read has missing = absurd has

-- a medium that wasn't called
prefix_new : (opening : Opening) (s : Sight) → OpensPartly true opening s s
prefix_new opening s = record {
  moments = every_moment_here (ShowsOpening true (length (state_now s).told) opening) (λ visible. record { each = λ image is. inl (refl, drop-length (state_now s).told) });
  told = λ visible. inl refl;
}

prefix_old : (opening : Opening) (s : Sight) → (IsTrue s.is_visible → IsSettled s.len (state_now s)) → IsOpeningOn s opening → OpensPartly false opening s s
prefix_old opening s settled on =
    partly_opened opening s s (every_moment_here (StillRecovers (state_now s).told opening.number opening.sizes opening.database) (content_kept s settled on))

pub prefix_at_rest : (meaning : Meaning) (s : Sight) → (IsTrue s.is_visible → IsSettled s.len (state_now s)) → (opening : Opening) → Starts meaning s opening → OpensPartly (makes_image meaning) opening s s
prefix_at_rest (FreshRun subscribers file) s settled opening starts = prefix_new opening s
prefix_at_rest (FormatImage x a b c d) s settled opening starts = prefix_new opening s
prefix_at_rest (RunFiles frames locks files) s settled opening starts = prefix_old opening s settled starts
prefix_at_rest (StreamFiles frames locks files) s settled opening starts = prefix_old opening s settled starts
prefix_at_rest RecoverImage s settled opening starts = prefix_old opening s settled starts
prefix_at_rest DumpTables s settled opening starts = prefix_old opening s settled starts
prefix_at_rest (LocateRange low high limit) s settled opening starts = prefix_old opening s settled starts
prefix_at_rest (DriveLoad seed count files) s settled opening starts = prefix_old opening s settled starts
prefix_at_rest (AuditRun printed files) s settled opening starts = prefix_old opening s settled starts
prefix_at_rest (ShipFiles files) s settled opening starts = prefix_old opening s settled starts
prefix_at_rest (FollowFiles files) s settled opening starts = prefix_old opening s settled starts

-- there was no memory for the words
pub ends_at_words : (meaning : Meaning) (s : Sight) (f : FilesSight) (k : SinkSight) → (IsTrue s.is_visible → IsSettled s.len (state_now s))
    → Ends meaning (world_of s f k) (world_of s f k) [] (Some Memory)
ends_at_words meaning s f k settled =
    ends_at_files meaning (prefix_at_rest meaning s settled) Memory (stopped_in_order (command_files meaning) [] (command_files meaning) refl (whole_none f)) tt (λ visible misses. tt)

-- ---- where an image is made

-- A command that makes an image of these sizes.
pub record IsMaker (meaning : Meaning) (sizes : Sizes) (s : Sight) : Type 0 where
  pub makes : makes_image meaning ≡ true
  pub writes : only_reads meaning ≡ false
  pub sized : sizes_made meaning ≡ Some sizes
  pub starts : Starts meaning s (new_opening sizes)
  pub only : (opening : Opening) → Starts meaning s opening → opening ≡ new_opening sizes

makes_both : (b : Bool) → b ≡ true → b ≡ false → ⊥
makes_both b one other = let never : ⊥ = cc in never

module _ {meaning : Meaning} {sizes : Sizes} {s t : Sight} {f g : FilesSight} (maker : IsMaker meaning sizes s) (files : FilesRead meaning f g)
    (prefix : OpensPartly true (new_opening sizes) s t) where
  prefix_each : (opening : Opening) → Starts meaning s opening → OpensPartly (makes_image meaning) opening s t
  prefix_each opening starts =
      subst (λ (b : Bool). OpensPartly b opening s t) (sym maker.makes) (subst (λ (o : Opening). OpensPartly true o s t) (sym (maker.only opening starts)) prefix)

  order_made : {k : SinkSight} (fault : Fault) → ((why : Fault) → RefusesFormat meaning s.len why → (◌≡◌ {A = Option Fault} (Some fault) (Some why)) ⊎ StoppedAtFiles meaning (Some fault)) → RefusesInOrder meaning (world_of s f k) (Some fault)
  order_made fault format = record {
    missing = λ visible misses. absurd (read_missing files visible misses);
    bad = λ reads visible number row field bad. absurd (read_bad files number row field visible bad);
    format = format;
    content = λ opens visible why refuses. absurd (makes_both (makes_image meaning) maker.makes opens);
    opening = λ opens visible opening starts why refuses. absurd (makes_both (makes_image meaning) maker.makes opens);
  }

  -- the medium's length was refused
  ends_refused : {k : SinkSight} (why : Fault) → t ≡ s → (why_not : RefusesFormat meaning s.len why) → HasCause meaning (world_of s f k) (world_of t g k) (Some why) → Printed meaning (world_of s f k) (world_of t g k) [] (Some why)
      → Untouched meaning (Some why) s t [] → OpensOnceBy meaning (Some why) [] s t → (◌≡◌ {A = Option Fault} (Some why) (Some Device) → ⊥) → IsNoReadFault (Some why) → Ends meaning (world_of s f k) (world_of t g k) [] (Some why)
  ends_refused why same refuses cause printed untouched once other unread = record {
    headline = λ has. headline_none meaning why prefix_each printed (λ must. absurd (must_not meaning s maker.writes (new_opening sizes) maker.starts must));
    causes = record {
      cause = cause;
      order = order_made why (λ also r. inl (ap Some (one_format_fault meaning sizes s.len why also maker.sized refuses r)));
      complete = λ good medium read output. absurd (good.fits why refuses);
      untouched = untouched;
      spared = λ bad. (same, refl);
      nothing = λ opens visible opening starts why refuses. refl;
      ran = calls_none s t same other;
      once = λ opens. once;
      reads = read_before files (Some why) unread;
      sink = sink_same;
    };
  }

  -- the image was made, or no call was made
  made_some : (t ≡ s) ⊎ FormatsSome sizes true s t → (t ≡ s) ⊎ MakesSome meaning true s t
  made_some (inl same) = inl same
  made_some (inr made) = inr (sizes, maker.sized, made)

  pub ends_at_format : {k : SinkSight} (fault : Fault) → HasFormatFault sizes s t fault → Ends meaning (world_of s f k) (world_of t g k) [] (Some fault)
  ends_at_format (Small a b) has =
      ends_refused (Small a b) has.0 (sizes, maker.sized, has.1, has.2, has.3) (sizes, maker.sized, has.1, has.2, has.3) refl (has.0, refl) (inl (refl, tt)) (λ e. let no : ⊥ = cc in no) tt
  ends_at_format (TooFew a b) has =
      ends_refused (TooFew a b) has.0 (sizes, maker.sized, has.1, has.2, has.3, has.4) (sizes, maker.sized, has.1, has.2, has.3, has.4) refl (has.0, refl) (inl (refl, tt)) (λ e. let no : ⊥ = cc in no) tt
  ends_at_format Device has = record {
    headline = λ has. headline_none meaning Device prefix_each (inl refl) (λ must. absurd (must_not meaning s maker.writes (new_opening sizes) maker.starts must));
    causes = record {
      cause = has.1;
      order = order_made Device (λ why r. absurd (fits_not_refused meaning sizes s.len why maker.sized has.0 r));
      complete = λ good medium read output. absurd (medium has.1);
      untouched = tt;
      spared = λ bad. absurd (elim bad [ inl unread ↦ read_fits files unread | inr refuses ↦ fits_not_refused meaning sizes s.len refuses.0 maker.sized has.0 refuses.1 ]);
      nothing = λ opens visible opening starts why refuses. refl;
      ran = calls_failed (format_calls sizes has.2.0, has.2.2);
      once = λ opens. inl (refl, subst (λ (b : Bool). MatchBool b (MakesSome meaning false s t) (FailsOpening s t)) (sym maker.makes) (sizes, maker.sized, has.2));
      reads = read_before files (Some Device) tt;
      sink = sink_same;
    };
  }
  ends_at_format Memory has = record {
    headline = λ has. headline_none meaning Memory prefix_each (inl (inl refl)) (λ must. absurd (must_not meaning s maker.writes (new_opening sizes) maker.starts must));
    causes = record {
      cause = tt;
      order = order_made Memory (λ why r. inr tt);
      complete = λ good medium read output. inr refl;
      untouched = tt;
      spared = λ bad. absurd (elim bad [ inl unread ↦ read_fits files unread | inr refuses ↦ fits_not_refused meaning sizes s.len refuses.0 maker.sized has.0 refuses.1 ]);
      nothing = λ opens visible opening starts why refuses. refl;
      ran = made_or_none sizes s t has.1;
      once = λ opens. inl (refl, subst (λ (b : Bool). MatchBool b ((t ≡ s) ⊎ MakesSome meaning true s t) (OpensSome true s t)) (sym maker.makes) (made_some has.1));
      reads = read_before files (Some Memory) tt;
      sink = sink_same;
    };
  }
  ends_at_format why has = absurd has

-- ---- where an image is opened

-- A command that opens its image.
pub record IsOpener (meaning : Meaning) (s : Sight) : Type 0 where
  pub opens : makes_image meaning ≡ false
  pub sized : sizes_made meaning ≡ None
  pub on : (opening : Opening) → Starts meaning s opening → IsOpeningOn s opening
  pub starts : (opening : Opening) → IsOpeningOn s opening → Starts meaning s opening

-- one that doesn't only read, and reads where its content is no opening
pub unless_opened : {meaning : Meaning} {s t : Sight} → IsOpener meaning s → only_reads meaning ≡ false → (((opening : Opening) → IsOpeningOn s opening → ⊥) → (ok : Bool) × OnlyReads ok s t)
    → MustOnlyRead meaning s → (ok : Bool) × OnlyReads ok s t
unless_opened opener writes reads (inl only) = absurd (let no : ⊥ = cc in no)
unless_opened opener writes reads (inr none) = reads (λ opening on. none opening (opener.starts opening on))

module _ {meaning : Meaning} {s t : Sight} {f g : FilesSight} (opener : IsOpener meaning s) (files : FilesRead meaning f g)
    (prefix : (opening : Opening) → IsOpeningOn s opening → OpensPartly false opening s t)
    (reads : MustOnlyRead meaning s → (ok : Bool) × OnlyReads ok s t) where
  pub prefix_opened : (opening : Opening) → Starts meaning s opening → OpensPartly (makes_image meaning) opening s t
  prefix_opened opening starts = subst (λ (b : Bool). OpensPartly b opening s t) (sym opener.opens) (prefix opening (opener.on opening starts))

  pub spares : (FilesRefuse meaning f ⊎ ((why : Fault) × RefusesFormat meaning s.len why)) → (t ≡ s) × (◌≡◌ {A = List Done} [] [])
  spares bad = absurd (elim bad [ inl unread ↦ read_fits files unread | inr refuses ↦ makes_none meaning s.len refuses.0 opener.sized refuses.1 ])

  -- its content was refused
  ends_unopened : {k : SinkSight} (why : Fault) → ContentHas (λ content. RefusesContent content why) s → OnlyReads true s t → HasCause meaning (world_of s f k) (world_of t g k) (Some why)
      → Printed meaning (world_of s f k) (world_of t g k) [] (Some why) → Untouched meaning (Some why) s t [] → OpensOnceBy meaning (Some why) [] s t → (◌≡◌ {A = Option Fault} (Some why) (Some Device) → ⊥)
      → IsNoReadFault (Some why) → Ends meaning (world_of s f k) (world_of t g k) [] (Some why)
  ends_unopened why refuses read cause printed untouched once other unread = record {
    headline = λ has. headline_none meaning why prefix_opened printed reads;
    causes = record {
      cause = cause;
      order = record {
        missing = λ visible misses. absurd (read_missing files visible misses);
        bad = λ reads visible number row field bad. absurd (read_bad files number row field visible bad);
        format = λ also r. absurd (makes_none meaning s.len also opener.sized r);
        content = λ opens visible also r. inl (one_content_fault s why also visible refuses r);
        opening = λ opens visible opening starts also r. absurd (opens_not_refused s opening why visible (opener.on opening starts) refuses);
      };
      complete = λ good medium unread output. absurd (let o = (good.opens opener.opens).1 in opens_not_refused s o.0 why (good.opens opener.opens).0 (opener.on o.0 o.1) refuses);
      untouched = untouched;
      spared = spares;
      nothing = λ opens visible opening starts why refuses. refl;
      ran = reads_ran read other;
      once = λ opens. once;
      reads = read_before files (Some why) unread;
      sink = sink_same;
    };
  }

  order_stopped : {k : SinkSight} (fault : Fault) → StoppedByOpening meaning (Some fault) → RefusesInOrder meaning (world_of s f k) (Some fault)
  order_stopped fault stopped = record {
    missing = λ visible misses. absurd (read_missing files visible misses);
    bad = λ reads visible number row field bad. absurd (read_bad files number row field visible bad);
    format = λ also r. absurd (makes_none meaning s.len also opener.sized r);
    content = λ opens visible also r. inr stopped;
    opening = λ opens visible opening starts also r. inr stopped;
  }

  pub ends_at_open : {k : SinkSight} (fault : Fault) → HasOpenFault s t fault → Ends meaning (world_of s f k) (world_of t g k) [] (Some fault)
  ends_at_open Unformatted has = ends_unopened Unformatted has.0 has.1 (opener.opens, has.0) refl (has.1, refl) (inl (refl, tt)) (λ e. let no : ⊥ = cc in no) tt
  ends_at_open (Damaged line) has = ends_unopened (Damaged line) has.0 has.1 (opener.opens, has.0) refl (has.1, refl) (inl (refl, tt)) (λ e. let no : ⊥ = cc in no) tt
  ends_at_open (NotDb word) has = ends_unopened (NotDb word) has.0 has.1 (opener.opens, has.0) refl (has.1, refl) (inl (refl, tt)) (λ e. let no : ⊥ = cc in no) tt
  ends_at_open Device has = record {
    headline = λ has. headline_none meaning Device prefix_opened (inl refl) reads;
    causes = record {
      cause = has.0;
      order = order_stopped Device tt;
      complete = λ good medium unread output. absurd (medium has.0);
      untouched = tt;
      spared = spares;
      nothing = λ opens visible opening starts why refuses. refl;
      ran = calls_failed (opening_calls_failed has.1);
      once = λ opens. inl (refl, subst (λ (b : Bool). MatchBool b (MakesSome meaning false s t) (FailsOpening s t)) (sym opener.opens) has.1);
      reads = read_before files (Some Device) tt;
      sink = sink_same;
    };
  }
  ends_at_open Memory has = record {
    headline = λ has. headline_none meaning Memory prefix_opened (inl (inl refl)) reads;
    causes = record {
      cause = tt;
      order = order_stopped Memory tt;
      complete = λ good medium unread output. inr refl;
      untouched = tt;
      spared = spares;
      nothing = λ opens visible opening starts why refuses. refl;
      ran = calls_well (opened_some has) (λ e. let no : ⊥ = cc in no);
      once = λ opens. inl (refl, subst (λ (b : Bool). MatchBool b ((t ≡ s) ⊎ MakesSome meaning true s t) (OpensSome true s t)) (sym opener.opens) has);
      reads = read_before files (Some Memory) tt;
      sink = sink_same;
    };
  }
  ends_at_open why has = absurd has
