-- How an audit ends, from what it read and the verdict on it.
use Rattle.std.proofs.Common.{◌≡◌, ◌⊎◌, ℕ, ◌≤◌, true, false, IsTrue, List, [], ◌∷◌, ◌++◌, codes, length, inl, inr, refl, sym, ap, ◌∙◌, subst, arith, Option, Some, None}
use Rattle.std.specs.Prelude.{IsSomeAnd}
use Rattle.std.specs.List.{All, AllZip}
use Rattle.std.proofs.lemmas.List.Elements.{All-cons}
use Rattle.pmem_trait.specs.Words.{IsSettled}
use Rattle.pmem_trait.specs.Sights.{Sight, Risen, state_now}
use Rattle.pmem_trait.specs.Reads.{OnlyReads}
use Rattle.tatp_model.specs.declared.request.Request.{Request}
use Rattle.tatp_model.specs.Request.{IsInRange}
use Rattle.dude_io.specs.Files.{FilesSight}
use Rattle.dude_io.specs.Sink.{SinkSight}
use Rattle.dude_io.specs.declared.file_text.FileText.{FileText}
use Rattle.dude_io.specs.declared.file_text.FileText.TheVariants.{Whole, TooLong}
use Rattle.command_edges.specs.Command.{Meaning.AuditRun}
use Rattle.command_edges.specs.CommandFile.{audit_files, request_files}
use Rattle.command_edges.specs.declared.file_kind.FileKind.TheVariants.{Printed}
use Rattle.command_edges.specs.declared.printed_run.PrintedRun.{PrintedRun}
use Rattle.tatp_model.specs.Files.{requests_in}
use Rattle.command_edges.specs.Files.{IsGoodFile, OfFile}
use Rattle.command_edges.specs.PrintedRun.{AreOfRun}
use Rattle.command_edges.specs.Printing.{StopsIn}
use Rattle.command_edges.specs.Texts.{IsTextOf}
use Rattle.command_edges.specs.declared.fault.Fault.{Fault}
use Rattle.command_edges.specs.declared.fault.Fault.TheVariants.{Audit, Device, Memory, Output}
use Rattle.command_edges.specs.Reads.{ReadsInOrder}
use Rattle.command_edges.proofs.Order.{IsNoReadFault}
use Rattle.command_edges.proofs.Told.{all_good, file_is_there, some_is}
use Rattle.command_openings.specs.Openings.{IsOpeningOn}
use Rattle.command_openings.specs.Opens.{OpensPartly}
use Rattle.command_openings.proofs.OneOpening.{one_opening}
use Rattle.command_openings.proofs.ReadOnly.{read_partly}
use Rattle.dude_engine.specs.Opening.{Opening, IsOpening}
use Rattle.dude_audit.specs.PrintedRun.{IsVerdict}
use Rattle.dude_audit.specs.declared.verdict.Verdict.{Verdict}
use Rattle.dude_audit.specs.declared.verdict.Verdict.TheVariants.{Yes, No}
use Rattle.dude_audit.proofs.Law.{law}
use Rattle.dude_program.specs.World.{SinkStays, world_of}
use Rattle.dude_program.specs.Audit.{IsRefusedRun, IsRunFound, RunRead}
use Rattle.dude_program.specs.Judging.{IsAnswer, IsAnswerOn}
use Rattle.dude_program.specs.Headline.{Headline, Printed as PrintedText, SaidYes, TookAll, TookPrefix}
use Rattle.dude_program.specs.Causes.{Causes, HasCause, MustRefuse, RefusesOpening, StoppedByOpening, SucceedsIfGood, Untouched}
use Rattle.dude_program.specs.Ended.{Ends}
use Rattle.dude_program.specs.Work.{PrintsText}
use Rattle.dude_program.proofs.FilesRead.{FilesRead, read_bad, read_before, read_missing}
use Rattle.dude_program.proofs.Contents.{makes_none, opens_not_refused}
use Rattle.dude_program.proofs.Crashes.{crash_prefix, sync_none}
use Rattle.dude_program.proofs.Refusals.{long_or_read, one_of_files, one_refusal, one_text, passes_if}
use Rattle.dude_program.proofs.Endings.{sink_same, sink_took, took_prefix}
use Rattle.dude_program.proofs.Stops.{reads_ran, spares}
use Rattle.dude_program.proofs.EachCommand.{audit_opens}

-- the files of an audit were read, and are good
pub audit_files_read : (printed : List ℕ) (names : List (List ℕ)) {f g : FilesSight} (run : PrintedRun) → AreOfRun f printed names run
    → ReadsInOrder (audit_files printed names) None f g → FilesRead (AuditRun printed names) f g
audit_files_read printed names {f} run are reads = record {
  good = All-cons (IsGoodFile f) (record { name = printed; kind = Printed }) (request_files names)
      (λ visible. file_is_there f (record { name = printed; kind = Printed }) run.printed are.text visible) (all_good f names (requests_in run.files.items) are.read);
  reads = reads;
}

-- ---- the verdict

module _ (printed : List ℕ) (names : List (List ℕ)) (f : FilesSight) (files : List (List Request)) (opening : Opening) (read : AllZip (OfFile f) names files) where
  whole_run : (bytes : List ℕ) → (IsTrue f.is_visible → IsSomeAnd (f.text printed) (λ text. bytes ≡ text)) → length bytes ≤ 268435456 → RunRead printed names f
  whole_run bytes is short = record { requests = files; read = read; text = bytes; short = short; of_file = λ visible. some_is (f.text printed) bytes (is visible) }

  -- at `Yes` the text is a printed run of the files
  found_by : (text : FileText) → IsTextOf f (record { name = printed; kind = Printed }) text → All (All IsInRange) files → IsAnswer opening files text Yes
      → (found : IsRunFound printed names f opening) × All (All IsInRange) found.run.requests
  unfolding whole_run
  found_by (Whole bytes) is ranges answer = (record { run = whole_run bytes.items is.0 is.1; is = answer.0.0 refl }, ranges)
  found_by TooLong is ranges answer = absurd (let no : ⊥ = cc in no)

  same_line : (line : ℕ) → ◌≡◌ {A = Verdict} (No line) (No 0) → line ≡ 0
  same_line line is = cc

  -- at `No` it is wrong at this line, or too long
  refused_by : (line : ℕ) (text : FileText) → IsTextOf f (record { name = printed; kind = Printed }) text → IsAnswer opening files text (No line) → IsRefusedRun printed names f opening line
  unfolding whole_run
  refused_by line (Whole bytes) is answer = inr (record { run = whole_run bytes.items is.0 is.1; verdict = answer.1 })
  refused_by line TooLong is answer = inl (is.0, same_line line answer)

-- where files are visible, a printed run isn't refused
module _ (printed : List ℕ) (names : List (List ℕ)) (f : FilesSight) (opening : Opening) (lawful : IsOpening opening) (found : IsRunFound printed names f opening) (ranges : All (All IsInRange) found.run.requests) where
  not_refused : (line : ℕ) → IsTrue f.is_visible → IsRefusedRun printed names f opening line → ⊥
  not_refused line visible (inl long) = long_or_read printed names f opening visible long.0 found.run
  not_refused line visible (inr wrong) =
      let requests = one_of_files f names wrong.run.requests found.run.requests visible wrong.run.read found.run.read in
      let text = one_text wrong.run.text found.run.text (sym (wrong.run.of_file visible) ∙ found.run.of_file visible) in
      let verdict : IsVerdict opening.number opening.sizes.calls opening.database found.run.requests found.run.text (No line) =
      subst (λ (t : List ℕ). IsVerdict opening.number opening.sizes.calls opening.database found.run.requests t (No line)) text
      (subst (λ (q : List (List Request)). IsVerdict opening.number opening.sizes.calls opening.database q wrong.run.text (No line)) requests wrong.verdict) in
      let yes = (law opening.number opening.sizes.calls opening.database found.run.requests found.run.text (No line) ranges lawful.in_order lawful.room verdict).1 found.is in
      let no : ⊥ = cc in no

  pub audit_passes : (why : Fault) → MustRefuse (AuditRun printed names) f opening why → ⊥
  audit_passes why refuses =
      passes_if (AuditRun printed names) f opening (λ line visible says. not_refused line visible says) (omega arith) (λ w no. no) (λ w no. no) (λ known n no. no.0) why refuses

-- ---- how it ends

module _ (printed : List ℕ) (names : List (List ℕ)) {s t : Sight} {f g : FilesSight} (k : SinkSight) (opening : Opening) (lawful : IsOpening opening) (on : IsOpeningOn s opening)
    (settled : IsTrue s.is_visible → IsSettled s.len (state_now s)) (reads : OnlyReads true s t) (files : FilesRead (AuditRun printed names) f g) where
  partly : (other : Opening) → IsOpeningOn s other → OpensPartly false other s t
  partly other starts = read_partly settled reads other starts

  headline_read : {l : SinkSight} (fault : Option Fault) → PrintedText (AuditRun printed names) (world_of s f k) (world_of t g l) [] fault → Headline (AuditRun printed names) (world_of s f k) (world_of t g l) [] fault
  headline_read fault text = record {
    replies = inl refl;
    crash = λ other starts. crash_prefix (AuditRun printed names) other s t (partly other starts);
    sync = sync_none s t;
    printed = text;
    only_read = λ must. (true, reads);
  }

  causes_read : {l : SinkSight} (fault : Option Fault) → IsNoReadFault fault → HasCause (AuditRun printed names) (world_of s f k) (world_of t g l) fault
      → (IsTrue s.is_visible → (why : Fault) → MustRefuse (AuditRun printed names) f opening why → (fault ≡ Some why) ⊎ StoppedByOpening (AuditRun printed names) fault)
      → SucceedsIfGood (AuditRun printed names) (world_of s f k) (world_of t g l) fault
      → Untouched (AuditRun printed names) fault s t [] → (fault ≡ Some Device → ⊥) → SinkStays k l → Causes (AuditRun printed names) (world_of s f k) (world_of t g l) [] fault
  causes_read fault unread cause refused complete untouched other sink = record {
    cause = cause;
    order = record {
      missing = λ visible misses. absurd (read_missing files visible misses);
      bad = λ judged visible number row field bad. absurd (read_bad files number row field visible bad);
      format = λ why refuses. absurd (makes_none (AuditRun printed names) s.len why refl refuses);
      content = λ opens visible why refuses. absurd (opens_not_refused s opening why visible on refuses);
      opening = λ opens visible one starts why refuses.
          refused visible why (subst (λ (o : Opening). MustRefuse (AuditRun printed names) f o why) (one_opening s one opening visible starts on) refuses);
    };
    complete = complete;
    untouched = untouched;
    spared = spares (audit_opens printed names s) files partly (λ must. (true, reads));
    nothing = λ opens visible one starts why refuses. refl;
    ran = reads_ran reads other;
    once = λ writes. absurd (let never : ⊥ = cc in never);
    reads = read_before files fault unread;
    sink = sink;
  }

  -- it says no
  ends_no : (line : ℕ) → IsRefusedRun printed names f opening line → Ends (AuditRun printed names) (world_of s f k) (world_of t g k) [] (Some (Audit line))
  ends_no line refused = record {
    headline = λ has. headline_read (Some (Audit line)) refl;
    causes = causes_read (Some (Audit line)) tt (record { opening = opening; opens = refl; starts = on; lawful = lawful; why = refused; left = reads })
        (λ visible why also. inl (ap Some (one_refusal (AuditRun printed names) f opening (Audit line) why refused also)))
        (λ good medium unread output. absurd (let o = (good.opens refl).1 in
        o.2 (Audit line) (subst (λ (p : Opening). RefusesOpening (AuditRun printed names) f p (Audit line)) (sym (one_opening s o.0 opening (good.opens refl).0 o.1 on)) refused)))
        (reads, refl) (λ e. let no : ⊥ = cc in no) sink_same;
  }

  -- it says yes
  module _ (found : IsRunFound printed names f opening) (ranges : All (All IsInRange) found.run.requests) where
    abbrev yes_text : List ℕ
    yes_text = codes "yes" ++ 10 ∷ []

    yes_with : (l : SinkSight) (Taken : List ℕ → Type 0) → Taken yes_text → SaidYes printed names (world_of s f k) [] Taken
    yes_with l Taken taken = record { opening = opening; starts = on; lawful = lawful; found = found; none = refl; text = yes_text; output = refl; bytes = taken }

    passed : (fault : Option Fault) → IsTrue s.is_visible → (why : Fault) → MustRefuse (AuditRun printed names) f opening why → (fault ≡ Some why) ⊎ StoppedByOpening (AuditRun printed names) fault
    passed fault visible why refuses = absurd (audit_passes printed names f opening lawful found ranges why refuses)

    at_output : {l : SinkSight} (fault : Fault) → StopsIn yes_text k l fault → Risen k.faults l.faults → Ends (AuditRun printed names) (world_of s f k) (world_of t g l) [] (Some Output)
    at_output {l} fault stops risen = record {
      headline = λ has. headline_read (Some Output) (yes_with l (TookPrefix k l) (took_prefix stops));
      causes = causes_read (Some Output) tt risen (passed (Some Output)) (λ good medium unread output. absurd (output risen)) tt (λ e. let no : ⊥ = cc in no) (sink_took stops.took);
    }

    at_memory : {l : SinkSight} (fault : Fault) → StopsIn yes_text k l fault → Ends (AuditRun printed names) (world_of s f k) (world_of t g l) [] (Some Memory)
    at_memory {l} fault stops = record {
      headline = λ has. headline_read (Some Memory) (inr (yes_with l (TookPrefix k l) (took_prefix stops)));
      causes = causes_read (Some Memory) tt tt (passed (Some Memory)) (λ good medium unread output. inr refl) tt (λ e. let no : ⊥ = cc in no) (sink_took stops.took);
    }

    ends_yes : {l : SinkSight} (fault : Option Fault) → PrintsText yes_text None fault k l → Ends (AuditRun printed names) (world_of s f k) (world_of t g l) [] fault
    ends_yes {l} None took = record {
      headline = λ has. headline_read None (yes_with l (TookAll k l) took.taken);
      causes = causes_read None tt tt (passed None) (λ good medium unread output. inl refl) tt (λ e. let no : ⊥ = cc in no) (sink_took took);
    }
    ends_yes {l} (Some fault) (inl stops) = elim stops.only [
      | inl is ↦ subst (λ (x : Fault). Ends (AuditRun printed names) (world_of s f k) (world_of t g l) [] (Some x)) (sym is) (at_output fault stops (stops.cause is))
      | inr is ↦ subst (λ (x : Fault). Ends (AuditRun printed names) (world_of s f k) (world_of t g l) [] (Some x)) (sym is) (at_memory fault stops)
    ]
    ends_yes {l} (Some fault) (inr none) =
        subst (λ (x : Fault). Ends (AuditRun printed names) (world_of s f k) (world_of t g l) [] (Some x)) (sym none.0)
        (subst (λ (x : SinkSight). Ends (AuditRun printed names) (world_of s f k) (world_of t g x) [] (Some Memory)) (sym none.1) (record {
          headline = λ has. headline_read (Some Memory) (inl (inl refl));
          causes = causes_read (Some Memory) tt tt (passed (Some Memory)) (λ good medium unread output. inr refl) tt (λ e. let no : ⊥ = cc in no) sink_same;
        }))

-- the same, from the verdict on what was read
module _ (printed : List ℕ) (names : List (List ℕ)) {s t : Sight} {f g : FilesSight} (k : SinkSight) (run : PrintedRun) (are : AreOfRun f printed names run)
    (in_order : ReadsInOrder (audit_files printed names) None f g) (settled : IsTrue s.is_visible → IsSettled s.len (state_now s)) (reads : OnlyReads true s t) where
  pub audited_yes : {l : SinkSight} → IsAnswerOn s run Yes → (fault : Option Fault) → PrintsText (codes "yes" ++ 10 ∷ []) None fault k l → Ends (AuditRun printed names) (world_of s f k) (world_of t g l) [] fault
  audited_yes answer fault text =
      let found = found_by printed names f (requests_in run.files.items) answer.0 are.read run.printed are.text are.in_range answer.3 in
      ends_yes printed names k answer.0 answer.1 answer.2 settled reads (audit_files_read printed names run are in_order) found.0 found.1 fault text

  pub audited_no : (line : ℕ) → IsAnswerOn s run (No line) → Ends (AuditRun printed names) (world_of s f k) (world_of t g k) [] (Some (Audit line))
  audited_no line answer =
      let refused = refused_by printed names f (requests_in run.files.items) answer.0 are.read line run.printed are.text answer.3 in
      ends_no printed names k answer.0 answer.1 answer.2 settled reads (audit_files_read printed names run are in_order) line refused
