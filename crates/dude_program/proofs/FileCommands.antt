-- A command that carries out the requests of files over the image at hand: how it is refused, and what it comes to.
use Rattle.std.proofs.Common.{◌≡◌, ◌↔◌, ℕ, ◌<◌, ◌≤◌, Bool, true, false, IsTrue, List, [], length, refl, sym, ◌∙◌, ap, subst, arith, Option, Some, None, Vec, Global}
use Rattle.std.specs.List.{All, AllZip, list_all}
use Rattle.pmem_trait.specs.declared.medium.Medium.{Ghosts}
use Rattle.pmem_trait.specs.Sights.{Sight, IsAtRest}
use Rattle.tatp_model.specs.declared.done.Done.{Done}
use Rattle.tatp_model.specs.declared.request.Request.{Request}
use Rattle.tatp_model.specs.Files.{requests_in}
use Rattle.dude_io.specs.Files.{FilesSight}
use Rattle.dude_io.specs.Sink.{SinkSight}
use Rattle.back_store.specs.BackView.{medium_of}
use Rattle.dude_recover.specs.declared.opened.Opened.{Opened}
use Rattle.dude_recover.specs.Opened.{IsOpened}
use Rattle.command_edges.specs.Command.{Meaning, Meaning.RunFiles, Meaning.StreamFiles, Meaning.ShipFiles}
use Rattle.command_edges.specs.CommandFile.{CommandFile, is_judged_first, request_files}
use Rattle.command_edges.specs.Files.{HasFileFault, IsGoodFile, MissesFile, OfFile, StoppedReading}
use Rattle.command_edges.specs.Reads.{ReadsInOrder}
use Rattle.command_edges.specs.declared.fault.Fault.{Fault}
use Rattle.command_edges.specs.declared.fault.Fault.TheVariants.{ManyFiles, Frames, Numbers, Device}
use Rattle.command_edges.proofs.Told.{all_good}
use Rattle.command_openings.specs.Opens.{OpensOwn}
use Rattle.dude_engine.specs.Opening.{Opening}
use Rattle.dude_engine.specs.Requests.{HasNumbersFor, request_count}
use Rattle.dude_program.specs.declared.prepared.Prepared.{Prepared}
use Rattle.dude_program.specs.Causes.{AreOutOfLimits, DrawsNumbers, IsLeftOpened, MustRefuse, RefusesAudit, RefusesOpening, WantsFrames, WantsSubscribers, files_run}
use Rattle.dude_program.specs.Ended.{Ends}
use Rattle.dude_program.specs.Opening.{IsReachable, KnowsReplies, RequestsAre, command_files, only_reads, runs_requests, runs_threads}
use Rattle.dude_program.specs.Prepared.{CarriesOut, IsPrepared}
use Rattle.dude_program.specs.Work.{AllowsFrames, RanOver, RefusesRun}
use Rattle.dude_program.specs.World.{world_of}
use Rattle.dude_program.proofs.Came.{ImageOpens, came_ran, came_refused, opened_old}
use Rattle.dude_program.proofs.Crashes.{left_opened}
use Rattle.dude_program.proofs.EachCommand.{is_opening_of, opening_of, refused_by, run_opens, ship_opens, stream_opens}
use Rattle.dude_program.proofs.Endings.{Came, CameBy, ends_faulted}
use Rattle.dude_program.proofs.FilesRead.{FilesRead, all_judged, as_many_lists}
use Rattle.dude_program.proofs.Refusals.{one_requests, passes_if}
use Rattle.dude_program.proofs.Stops.{IsOpener, ends_at_files, prefix_at_rest}

-- ---- which commands these are

-- What such a command has, of these files, and with these frames, where it says any.
pub record OfFiles (own : Meaning) (frames : Option ℕ) (names : List (List ℕ)) : Type 0 where
  pub opener : (s : Sight) → IsOpener own s
  pub writes : only_reads own ≡ false
  pub runs : runs_requests own ≡ true
  pub files : command_files own ≡ request_files names
  pub many : files_run own ≡ length names
  pub requests : (f : FilesSight) (opening : Opening) (lists : List (List Request)) → AllZip (OfFile f) names lists → RequestsAre own f opening lists
  pub draws : DrawsNumbers own
  pub wants : (wanted pages : ℕ) → WantsFrames own wanted pages ↔ AreOutOfLimits frames wanted pages
  pub no_load : (has wanted : ℕ) → WantsSubscribers own has wanted → ⊥
  pub no_audit : (f : FilesSight) (opening : Opening) (line : ℕ) → RefusesAudit own f opening line → ⊥

-- `run`, `stream` and `ship`
pub of_run : (frames locks : Option ℕ) (names : List (List ℕ)) → OfFiles (RunFiles frames locks names) frames names
of_run frames locks names = record { opener = run_opens frames locks names; writes = refl; runs = refl; files = refl; many = refl; requests = λ f opening lists are. are; draws = tt; wants = λ wanted pages. (λ w. w, λ w. w); no_load = λ has wanted no. no; no_audit = λ f opening line no. no }

pub of_stream : (frames locks : Option ℕ) (names : List (List ℕ)) → OfFiles (StreamFiles frames locks names) frames names
of_stream frames locks names = record { opener = stream_opens frames locks names; writes = refl; runs = refl; files = refl; many = refl; requests = λ f opening lists are. are; draws = tt; wants = λ wanted pages. (λ w. w, λ w. w); no_load = λ has wanted no. no; no_audit = λ f opening line no. no }

pub of_ship : (names : List (List ℕ)) → OfFiles (ShipFiles names) None names
of_ship names = record { opener = ship_opens names; writes = refl; runs = refl; files = refl; many = refl; requests = λ f opening lists are. are; draws = tt; wants = λ wanted pages. (λ w. w, λ w. w); no_load = λ has wanted no. no; no_audit = λ f opening line no. no }

-- and so each command that carries them out
said_so : {own : Meaning} {said frames : Option ℕ} {files names : List (List ℕ)} → frames ≡ said → names ≡ files → OfFiles own said files → OfFiles own frames names
said_so {own = own} {frames = frames} {files = files} same_frames same_files command =
    subst (λ (list : List (List ℕ)). OfFiles own frames list) (sym same_files) (subst (λ (those : Option ℕ). OfFiles own those files) (sym same_frames) command)

pub of_command : (own : Meaning) (frames : Option ℕ) (names : List (List ℕ)) → CarriesOut own frames names → OfFiles own frames names
of_command (RunFiles said locks files) frames names is = said_so is.0 is.1 (of_run said locks files)
of_command (StreamFiles said locks files) frames names is = said_so is.0 is.1 (of_stream said locks files)
of_command (ShipFiles files) frames names is = said_so is.0 is.1 (of_ship files)
of_command own frames names is = absurd is

module _ {own : Meaning} {frames : Option ℕ} {names : List (List ℕ)} (command : OfFiles own frames names) where
  -- ---- its files

  at_files : (P : List CommandFile → Type 0) → P (request_files names) → P (command_files own)
  at_files P is = subst P (sym command.files) is

  -- they gave no requests
  pub ends_unread : {f g : FilesSight} {s : Sight} {k : SinkSight} → IsAtRest s → (fault : Fault) → ReadsInOrder (request_files names) (Some fault) f g → HasFileFault (request_files names) f g fault
      → (IsTrue f.is_visible → MissesFile (request_files names) f → StoppedReading fault) → Ends own (world_of s f k) (world_of s g k) [] (Some fault)
  ends_unread {f} {g} {s} settled fault reads cause missing =
      ends_at_files own (prefix_at_rest own s settled) fault (at_files (λ files. ReadsInOrder files (Some fault) f g) reads) (at_files (λ files. HasFileFault files f g fault) cause)
      (at_files (λ files. IsTrue f.is_visible → MissesFile files f → StoppedReading fault) missing)

  pub files_read : {f g : FilesSight} (lists : List (List Request)) → AllZip (OfFile f) names lists → ReadsInOrder (request_files names) None f g → FilesRead own f g
  files_read {f} {g} lists read reads = record {
    good = at_files (λ files. All (IsGoodFile f) files) (all_good f names lists read);
    reads = at_files (λ files. ReadsInOrder files None f g) reads;
  }

  -- ---- what the opened image refuses

  module _ (f : FilesSight) (requests : List (List Request)) (read : AllZip (OfFile f) names requests) (number : ℕ) (as_many : number ≡ length names) (opening : Opening) where
    -- nothing, where it has rings for the files, allows the frames, and has numbers for the requests
    passes : number ≤ opening.sizes.rings → AllowsFrames frames opening.sizes.pages → HasNumbersFor opening.number requests → (why : Fault) → MustRefuse own f opening why → ⊥
    passes rings allows enough why refuses =
        let many = command.many in
        passes_if own f opening (λ line known no. command.no_audit f opening line no) (omega (arith, rings, as_many, many))
        (λ wanted wants. allows None names wanted ((command.wants wanted opening.sizes.pages).0 wants)) (λ wanted few. command.no_load opening.sizes.subscribers wanted few)
        (λ known count few. let same : count ≡ request_count requests = few.1.2 ∙ ap request_count (one_requests own f opening few.1.0 requests known few.1.1 (command.requests f opening requests read)) in
        let over = few.2 in omega (arith, same, over, enough)) why refuses

    -- what refuses a run of the files
    refuses : (why : Fault) → RefusesRun (RunFiles frames None names) number opening.sizes opening.number requests why → RefusesOpening own f opening why
    refuses (ManyFiles a b) r = (r.0 ∙ as_many ∙ sym command.many, r.1, r.2, at_files (λ files. IsTrue (list_all (λ file. is_judged_first file.kind) files)) (all_judged names))
    refuses (Frames a b) r = (let many = command.many in omega (arith, as_many, many, r.0), r.1, (command.wants a b).1 r.2)
    refuses (Numbers a b) r = (
      let many = command.many in omega (arith, as_many, many, r.0),
      λ wanted wants. r.1 wanted ((command.wants wanted opening.sizes.pages).0 wants),
      λ wanted few. command.no_load opening.sizes.subscribers wanted few,
      r.2,
      (command.draws, (requests, command.requests f opening requests read, r.3), r.4),
    )
    refuses why r = absurd r

    came_by : (last : ℕ) (s t : Sight) → IsLeftOpened opening s t → (why : Fault) → RefusesRun (RunFiles frames None names) number opening.sizes opening.number requests why
        → CameBy own f opening [] last s t (Some why) × (◌≡◌ {A = Option Fault} (Some why) (Some Device) → ⊥)
    came_by last s t left why r =
        refused_by own f opening (command.opener s).opens (λ line no. command.no_audit f opening line no) last s t left why (refuses why r)

  -- ---- what it comes to

  image_opens : {M : Type 0} {ghosts : Ghosts M} (sight : M → Sight) (medium : M) (o : Opened M ghosts) (opened : IsOpened o) → OpensOwn sight medium o
      → ImageOpens own (opening_of o opened) o.words.items (sight medium) (sight (medium_of o.back))
  image_opens sight medium o opened is_open =
      let at = is_open (opening_of o opened) (is_opening_of o opened) in
      opened_old (command.opener (sight medium)) command.writes at.0 at.1

  -- the opened image refuses a run of its files
  pub ends_refused : {M : Type 0} {ghosts : Ghosts M} {f g : FilesSight} {k : SinkSight} (sight : M → Sight) (medium : M) (o : Opened M ghosts) → IsOpened o → OpensOwn sight medium o
      → (lists : List (Vec Request Global)) → AllZip (OfFile f) names (requests_in lists) → ReadsInOrder (request_files names) None f g
      → (why : Fault) → RefusesRun (RunFiles frames None names) (length lists) o.sizes o.number (requests_in lists) why
      → Ends own (world_of (sight medium) f k) (world_of (sight (medium_of o.back)) g k) [] (Some why)
  ends_refused {f = f} sight medium o opened is_open lists read reads why refused =
      let opening = opening_of o opened in
      let at = is_open opening (is_opening_of o opened) in
      let by = came_by f (requests_in lists) read (length lists) (as_many_lists f names lists read) opening 0 (sight medium) (sight (medium_of o.back)) (left_opened _ _ _ _ at.1) why refused in
      ends_faulted why (came_refused (files_read (requests_in lists) read reads) (image_opens sight medium o opened is_open) 0 why by.1 by.0)

  -- its requests were run
  pub came_prepared : {M : Type 0} {ghosts : Ghosts M} {sight : M → Sight} {medium : M} {f g : FilesSight} {prepared : Prepared M ghosts} {threads : Bool} {Knows : Type 0} {Reaches : List Done → ℕ → Type 0} {done : List Done} {last : ℕ} {t : Sight}
      (ready : IsPrepared sight frames names medium f g prepared) {lists : List (Vec Request Global)} → lists ≡ prepared.lists.items → runs_threads own ≡ threads
      → (KnowsReplies own (opening_of prepared.opened ready.opened) (sight (medium_of prepared.opened.back)) → Knows) → ((order : List Done) (n : ℕ) → Reaches order n → IsReachable own (opening_of prepared.opened ready.opened) order n)
      → (fault : Option Fault) → RanOver threads Knows Reaches (opening_of prepared.opened ready.opened) prepared.opened.words.items (requests_in lists) done last fault (sight (medium_of prepared.opened.back)) t
      → Came own f g (opening_of prepared.opened ready.opened) done last fault (sight medium) t
  came_prepared {sight = sight} {medium = medium} {f = f} {prepared = prepared} {threads = threads} {Knows = Knows} {Reaches = Reaches} {done = done} {last = last} {t = t} ready same where_run knows reaches fault ran =
      let opening = opening_of prepared.opened ready.opened in
      let items = prepared.lists.items in
      let P : List (Vec Request Global) → Type 0 = λ list. RanOver threads Knows Reaches opening prepared.opened.words.items (requests_in list) done last fault (sight (medium_of prepared.opened.back)) t in
      came_ran (files_read (requests_in items) ready.read ready.reads) (image_opens sight medium prepared.opened ready.opened ready.is_open) where_run knows reaches command.runs (command.requests f opening (requests_in items) ready.read)
      (λ opens why refused. passes f (requests_in items) ready.read (length items) (as_many_lists f names items ready.read) opening ready.rings ready.allows ready.numbers why refused) fault (subst P same ran)

-- where files were named, there are requests to run
pub some_lists : {M : Type 0} {ghosts : Ghosts M} {sight : M → Sight} {frames : Option ℕ} {names : List (List ℕ)} {medium : M} {f g : FilesSight} {prepared : Prepared M ghosts}
    → IsPrepared sight frames names medium f g prepared → 0 < length names → 0 < length prepared.lists.items
some_lists {names = names} {f = f} {prepared = prepared} ready some = omega (arith, as_many_lists f names prepared.lists.items ready.read, some)
