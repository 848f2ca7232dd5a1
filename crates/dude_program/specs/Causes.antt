-- With which fault a command ends, and where; and what stays then.
use Rattle.std.specs.Prelude.{◌≡◌, ◌⊎◌, ◌↔◌, ℕ, ◌+◌, ◌*◌, ◌<◌, ◌≤◌, ⊤, Bool, true, false, Option, Some, None, IsTrue, List, [], ◌∷◌, ◌++◌, length, min, All, MatchBool}
use Rattle.dude_base.specs.declared.limits.TheConstants.{MAX_NUMBER, MIN_FRAMES}
use Rattle.dude_base.specs.declared.sizes.Sizes.{Sizes}
use Rattle.dude_base.specs.Sizes.{IsFrom}
use Rattle.dude_base.specs.Image.{image_words}
use Rattle.pmem_trait.specs.Words.{EveryImage}
use Rattle.pmem_trait.specs.Sights.{Sight, Risen, SomeCalls, state_now}
use Rattle.pmem_trait.specs.Reads.{ContentHas, OnlyReads}
use Rattle.tatp_model.specs.declared.done.Done.{Done}
use Rattle.tatp_model.specs.declared.request.Request.{Request}
use Rattle.tatp_model.specs.Population.{population_calls}
use Rattle.dude_io.specs.Files.{FilesSight}
use Rattle.redo_record.specs.Recovery.{IsFormatted, IsDamaged}
use Rattle.back_store.specs.Back.{idle}
use Rattle.image_recovery.specs.Recovered.{IsNoDatabase, RecoversTo}
use Rattle.dude_recover.specs.Causes.{FormatsSome}
use Rattle.dude_recover.specs.Answers.{OpensSome}
use Rattle.command_edges.specs.Command.{Meaning, Meaning.FreshRun, Meaning.FormatImage, Meaning.RunFiles, Meaning.StreamFiles, Meaning.RecoverImage, Meaning.DumpTables, Meaning.LocateRange, Meaning.DriveLoad, Meaning.AuditRun, Meaning.ShipFiles, Meaning.FollowFiles}
use Rattle.command_edges.specs.Files.{HasReadFault, IsFirstBad, IsGoodFile, MissesFile}
use Rattle.command_edges.specs.Reads.{ReadsInOrder}
use Rattle.command_openings.specs.Opens.{FailsOpening, OpensByCalls}
use Rattle.dude_engine.specs.Opening.{Opening, IsOpening}
use Rattle.dude_engine.specs.Requests.{request_count}
use Rattle.command_edges.specs.declared.fault.Fault.{Fault}
use Rattle.command_edges.specs.declared.fault.Fault.TheVariants.{Usage, File, Text, Small, TooFew, Unformatted, Damaged, NotDb, ManyFiles, Frames, FewSubscribers, Numbers, Device, Output, Memory, Audit, Strange}
use Rattle.command_edges.specs.CommandFile.{IsInLimit}
use Rattle.dude_program.specs.Audit.{IsRefusedRun}
use Rattle.dude_program.specs.Delivery.{IsRefusedDelivery}
use Rattle.back_store.specs.Operations.{MakesOperations}
use Rattle.dude_program.specs.Opening.{RequestsAre, Starts, command_files, ends_opened, format_sizes, fresh_sizes, judges_files, makes_image, only_reads}
use Rattle.dude_program.specs.World.{World, IsSameWorld, SinkStays}

-- the sizes of the image that a command makes, if it makes one
abbrev pub sizes_made : Meaning → Option Sizes
sizes_made (FreshRun subscribers file) = Some (fresh_sizes subscribers)
sizes_made (FormatImage indexed subscribers calls rings cells) = Some (format_sizes indexed subscribers calls rings cells)
sizes_made (RunFiles frames locks files) = None
sizes_made (StreamFiles frames locks files) = None
sizes_made RecoverImage = None
sizes_made DumpTables = None
sizes_made (LocateRange low high limit) = None
sizes_made (DriveLoad seed count number) = None
sizes_made (AuditRun printed files) = None
sizes_made (ShipFiles files) = None
sizes_made (FollowFiles files) = None

-- how many files the command runs: request files, or those of its load; an audit runs none, nor does a follower
abbrev pub files_run : Meaning → ℕ
files_run (FreshRun subscribers file) = 1
files_run (FormatImage indexed subscribers calls rings cells) = 0
files_run (RunFiles frames locks files) = length files
files_run (StreamFiles frames locks files) = length files
files_run RecoverImage = 0
files_run DumpTables = 0
files_run (LocateRange low high limit) = 0
files_run (DriveLoad seed count number) = number
files_run (AuditRun printed files) = 0
files_run (ShipFiles files) = length files
files_run (FollowFiles files) = 0

-- These frames are said, and out of their limits: more than the pages, or fewer than 32 and than the pages.
abbrev pub AreOutOfLimits : Option ℕ → ℕ → ℕ → Type 0
AreOutOfLimits None wanted pages = ⊥
AreOutOfLimits (Some frames) wanted pages = (wanted ≡ frames) × ¬ IsFrom (min MIN_FRAMES pages) pages frames

-- The frames asked for are out of their limits.
abbrev pub WantsFrames : Meaning → ℕ → ℕ → Type 0
WantsFrames (RunFiles frames locks files) wanted pages = AreOutOfLimits frames wanted pages
WantsFrames (StreamFiles frames locks files) wanted pages = AreOutOfLimits frames wanted pages
WantsFrames _ wanted pages = ⊥

-- the command is a load of more files than there are subscribers
abbrev pub WantsSubscribers : Meaning → ℕ → ℕ → Type 0
WantsSubscribers (DriveLoad seed count number) subscribers wanted = (wanted ≡ number) × (subscribers < number)
WantsSubscribers _ subscribers wanted = ⊥

-- whether the numbers of the command may run out
abbrev pub DrawsNumbers : Meaning → Type 0
DrawsNumbers (FreshRun subscribers file) = ⊥
DrawsNumbers (FormatImage indexed subscribers calls rings cells) = ⊥
DrawsNumbers (RunFiles frames locks files) = ⊤
DrawsNumbers (StreamFiles frames locks files) = ⊤
DrawsNumbers RecoverImage = ⊥
DrawsNumbers DumpTables = ⊥
DrawsNumbers (LocateRange low high limit) = ⊥
DrawsNumbers (DriveLoad seed count number) = ⊤
DrawsNumbers (AuditRun printed files) = ⊥
DrawsNumbers (ShipFiles files) = ⊤
DrawsNumbers (FollowFiles files) = ⊥

-- the numbers from the opening one on may not be enough for so many requests
abbrev pub WantsNumbers : Meaning → FilesSight → Opening → ℕ → Type 0
WantsNumbers meaning files opening count =
    DrawsNumbers meaning × ((requests : List (List Request)) × RequestsAre meaning files opening requests × (count ≡ request_count requests))
    × (MAX_NUMBER < opening.number + 65 * count)

-- an audit says no, and names this line
abbrev pub RefusesAudit : Meaning → FilesSight → Opening → ℕ → Type 0
RefusesAudit (AuditRun printed names) files opening line = IsRefusedRun printed names files opening line
RefusesAudit _ files opening line = ⊥

-- packets of the command's files are refused behind the opening, for this
abbrev pub RefusesPackets : Meaning → FilesSight → Opening → Fault → Type 0
RefusesPackets (FollowFiles names) files opening why = IsRefusedDelivery names files opening why
RefusesPackets _ files opening why = ⊥

-- Why the opened image, or the one that was only read, is refused: the first of these that fits.
abbrev pub RefusesOpening : Meaning → FilesSight → Opening → Fault → Type 0
RefusesOpening meaning files opening (ManyFiles wanted rings) =
    (wanted ≡ files_run meaning) × (rings ≡ opening.sizes.rings) × (rings < wanted) × IsTrue (judges_files meaning)
RefusesOpening meaning files opening (Frames wanted pages) =
    (files_run meaning ≤ opening.sizes.rings) × (pages ≡ opening.sizes.pages) × WantsFrames meaning wanted pages
RefusesOpening meaning files opening (FewSubscribers subscribers wanted) =
    (files_run meaning ≤ opening.sizes.rings) × (subscribers ≡ opening.sizes.subscribers) × WantsSubscribers meaning subscribers wanted
RefusesOpening meaning files opening (Numbers number count) =
    (files_run meaning ≤ opening.sizes.rings) × ((wanted : ℕ) → ¬ WantsFrames meaning wanted opening.sizes.pages)
    × ((wanted : ℕ) → ¬ WantsSubscribers meaning opening.sizes.subscribers wanted)
    × (number ≡ opening.number) × WantsNumbers meaning files opening count
RefusesOpening meaning files opening (Audit line) = RefusesAudit meaning files opening line
RefusesOpening meaning files opening _ = ⊥

-- The requests of the command are known: those of its files where the files are visible, and any others always.
abbrev pub KnowsRequests : Meaning → FilesSight → Type 0
KnowsRequests (FreshRun subscribers file) files = IsTrue files.is_visible
KnowsRequests (FormatImage indexed subscribers calls rings cells) files = ⊤
KnowsRequests (RunFiles frames locks names) files = IsTrue files.is_visible
KnowsRequests (StreamFiles frames locks names) files = IsTrue files.is_visible
KnowsRequests RecoverImage files = ⊤
KnowsRequests DumpTables files = ⊤
KnowsRequests (LocateRange low high limit) files = ⊤
KnowsRequests (DriveLoad seed count number) files = ⊤
KnowsRequests (AuditRun printed names) files = ⊤
KnowsRequests (ShipFiles names) files = IsTrue files.is_visible
KnowsRequests (FollowFiles names) files = ⊤

-- What a refusal of the opened image rests on is known: for too few numbers the requests too; for an audit the files, which have
-- one verdict at most; else the words and the image.
abbrev pub KnowsCause : Meaning → FilesSight → Opening → Fault → Type 0
KnowsCause meaning files opening (Numbers number count) = KnowsRequests meaning files
KnowsCause meaning files opening (Audit line) = IsTrue files.is_visible
KnowsCause meaning files opening _ = ⊤

-- The opened image is refused for this, and what that rests on is known.
abbrev pub MustRefuse : Meaning → FilesSight → Opening → Fault → Type 0
MustRefuse meaning files opening why = RefusesOpening meaning files opening why × KnowsCause meaning files opening why

-- Why the medium can't be formatted: the first of these that fits.
abbrev pub RefusesFormat : Meaning → ℕ → Fault → Type 0
RefusesFormat meaning len (Small has needs) = (s : Sizes) × (sizes_made meaning ≡ Some s) × (has ≡ len) × (needs ≡ image_words s) × (has < needs)
RefusesFormat meaning len (TooFew rows calls) = (s : Sizes) × (sizes_made meaning ≡ Some s) × (image_words s ≤ len)
    × (rows ≡ population_calls s.subscribers) × (calls ≡ s.calls) × (calls < rows)
RefusesFormat meaning len _ = ⊥

-- Why the content can't be opened: the first of these that fits.
abbrev pub RefusesContent : List ℕ → Fault → Type 0
RefusesContent content Unformatted = ¬ IsFormatted content
RefusesContent content (Damaged line) = IsFormatted content × IsDamaged content line
RefusesContent content (NotDb word) = IsNoDatabase word content
RefusesContent content _ = ⊥

-- An opened image that is refused is left opened.
pub record IsLeftOpened (opening : Opening) (s t : Sight) : Type 0 where
  -- exactly the calls of its opening were made
  pub words : List ℕ
  pub calls : OpensByCalls false opening words s t
  -- where the medium is visible, its number was told, and nothing else
  pub told : IsTrue s.is_visible → (state_now t).told ≡ (state_now s).told ++ opening.number ∷ []
  -- and every image recovers to it
  pub images : IsTrue s.is_visible
      → EveryImage t.len (λ told image. RecoversTo image opening.number opening.sizes opening.database) (state_now t)

-- A command that opens its image leaves it opened; one that only reads has read the medium.
abbrev pub IsLeft : Meaning → Opening → Sight → Sight → Type 0
IsLeft meaning opening s t = MatchBool (only_reads meaning) (OnlyReads true s t) (IsLeftOpened opening s t)

-- An opening of the command is refused so.
pub record RefusedBehind (meaning : Meaning) (old new : World) (fault : Fault) : Type 0 where
  pub opening : Opening
  pub opens : makes_image meaning ≡ false
  pub starts : Starts meaning old.medium opening
  pub lawful : IsOpening opening
  -- the image refuses the command
  pub why : RefusesOpening meaning old.files opening fault
  -- it is left opened, or was only read
  pub left : IsLeft meaning opening old.medium new.medium

-- Packets of the command's files are refused so, behind an opening of its own.
pub record RefusedPackets (meaning : Meaning) (old : World) (fault : Fault) : Type 0 where
  pub opening : Opening
  pub opens : makes_image meaning ≡ false
  pub starts : Starts meaning old.medium opening
  pub lawful : IsOpening opening
  pub why : RefusesPackets meaning old.files opening fault

-- Why the command ended with this fault, if any. Want of memory is free.
abbrev pub HasCause : Meaning → World → World → Option Fault → Type 0
HasCause meaning old new None = ⊤
HasCause meaning old new (Some Memory) = ⊤
HasCause meaning old new (Some Usage) = ⊥
HasCause meaning old new (Some (File number)) = HasReadFault (command_files meaning) old.files new.files (File number)
HasCause meaning old new (Some (Text number row field)) =
    IsTrue (judges_files meaning) → IsFirstBad (command_files meaning) old.files number row field
HasCause meaning old new (Some Unformatted) = (makes_image meaning ≡ false) × ContentHas (λ content. RefusesContent content Unformatted) old.medium
HasCause meaning old new (Some (Damaged line)) = (makes_image meaning ≡ false) × ContentHas (λ content. RefusesContent content (Damaged line)) old.medium
HasCause meaning old new (Some (NotDb word)) = (makes_image meaning ≡ false) × ContentHas (λ content. RefusesContent content (NotDb word)) old.medium
HasCause meaning old new (Some (Small has needs)) = RefusesFormat meaning old.medium.len (Small has needs)
HasCause meaning old new (Some (TooFew rows calls)) = RefusesFormat meaning old.medium.len (TooFew rows calls)
HasCause meaning old new (Some Device) = Risen old.medium.faults new.medium.faults
HasCause meaning old new (Some Output) = Risen old.sink.faults new.sink.faults
HasCause meaning old new (Some (Strange file packet)) = RefusedPackets meaning old (Strange file packet)
HasCause meaning old new (Some fault) = RefusedBehind meaning old new fault

-- The command ended in reading its files: one couldn't be read, or there was no memory.
abbrev pub StoppedReading : Option Fault → Type 0
StoppedReading (Some (File number)) = ⊤
StoppedReading (Some Memory) = ⊤
StoppedReading _ = ⊥

-- The command ended with its files: one couldn't be read, or one of requests is bad; or there was no memory.
abbrev pub StoppedAtFiles : Meaning → Option Fault → Type 0
StoppedAtFiles meaning (Some (Text number row field)) = IsTrue (judges_files meaning)
StoppedAtFiles meaning fault = StoppedReading fault

-- The command ended with its files, or since the medium failed, or there was no memory.
abbrev pub StoppedByOpening : Meaning → Option Fault → Type 0
StoppedByOpening meaning (Some Device) = ⊤
StoppedByOpening meaning fault = StoppedAtFiles meaning fault

-- What refuses a command is answered in this order, unless a fault that is counted, or want of memory, comes before its test:
-- a file that isn't there; a bad file of requests; a medium that can't be formatted, or whose content can't be opened; an
-- opened image that is refused, or the answer no of an audit, where what that rests on is known.
pub record RefusesInOrder (meaning : Meaning) (old : World) (fault : Option Fault) : Type 0 where
  pub missing : IsTrue old.files.is_visible → MissesFile (command_files meaning) old.files → StoppedReading fault
  pub bad : IsTrue (judges_files meaning) → IsTrue old.files.is_visible → (number row field : ℕ)
      → IsFirstBad (command_files meaning) old.files number row field → (fault ≡ Some (Text number row field)) ⊎ StoppedReading fault
  pub format : (why : Fault) → RefusesFormat meaning old.medium.len why → (fault ≡ Some why) ⊎ StoppedAtFiles meaning fault
  pub content : makes_image meaning ≡ false → IsTrue old.medium.is_visible → (why : Fault) → ContentHas (λ content. RefusesContent content why) old.medium
      → (fault ≡ Some why) ⊎ StoppedByOpening meaning fault
  pub opening : makes_image meaning ≡ false → IsTrue old.medium.is_visible → (opening : Opening)
      → Starts meaning old.medium opening → (why : Fault) → MustRefuse meaning old.files opening why
      → (fault ≡ Some why) ⊎ StoppedByOpening meaning fault

-- Nothing refuses the command: its files are there, and those of requests hold requests; the medium is long enough for an
-- image that holds the population, or its content recovers to an opening that isn't refused; and no packet is refused.
pub record IsGood (meaning : Meaning) (old : World) : Type 0 where
  pub files : IsTrue old.files.is_visible
  pub good : All (IsGoodFile old.files) (command_files meaning)
  pub fits : (why : Fault) → ¬ RefusesFormat meaning old.medium.len why
  pub opens : makes_image meaning ≡ false → IsTrue old.medium.is_visible
      × ((opening : Opening) × Starts meaning old.medium opening × ((why : Fault) → ¬ RefusesOpening meaning old.files opening why))
  pub delivered : (opening : Opening) → Starts meaning old.medium opening → (why : Fault) → ¬ RefusesPackets meaning old.files opening why

-- Completeness: where nothing refuses the command and no count of faults rose, it ends well, or there was no memory.
abbrev pub SucceedsIfGood : Meaning → World → World → Option Fault → Type 0
SucceedsIfGood meaning old new fault = IsGood meaning old
    → (Risen old.medium.faults new.medium.faults → ⊥) → (Risen old.files.faults new.files.faults → ⊥) → (Risen old.sink.faults new.sink.faults → ⊥)
    → (fault ≡ None) ⊎ (fault ≡ Some Memory)

-- What stays at a refusal. Nothing is done. Where a file couldn't be read, one of requests is bad, or a medium can't be
-- formatted, the medium is as it was; where its content can't be opened it was only read. An opened image that is refused is
-- left opened, as its cause says; where an audit says no, the medium was only read. Where a call failed or there was no
-- memory, nothing is said here.
abbrev pub Untouched : Meaning → Option Fault → Sight → Sight → List Done → Type 0
Untouched meaning (Some (File number)) s t done = (t ≡ s) × (done ≡ [])
Untouched meaning (Some (Text number row field)) s t done = (IsTrue (judges_files meaning) → t ≡ s) × (done ≡ [])
Untouched meaning (Some (Small has needs)) s t done = (t ≡ s) × (done ≡ [])
Untouched meaning (Some (TooFew rows calls)) s t done = (t ≡ s) × (done ≡ [])
Untouched meaning (Some Unformatted) s t done = OnlyReads true s t × (done ≡ [])
Untouched meaning (Some (Damaged line)) s t done = OnlyReads true s t × (done ≡ [])
Untouched meaning (Some (NotDb word)) s t done = OnlyReads true s t × (done ≡ [])
Untouched meaning (Some (ManyFiles files rings)) s t done = done ≡ []
Untouched meaning (Some (Frames frames pages)) s t done = done ≡ []
Untouched meaning (Some (FewSubscribers subscribers files)) s t done = done ≡ []
Untouched meaning (Some (Numbers number requests)) s t done = done ≡ []
Untouched meaning (Some (Audit line)) s t done = OnlyReads true s t × (done ≡ [])
Untouched meaning (Some (Strange file packet)) s t done = done ≡ []
Untouched meaning _ s t done = ⊤

-- The command's files are judged first and visible, and refuse it: not each is there and good, or one is too long.
pub record FilesRefuse (meaning : Meaning) (files : FilesSight) : Type 0 where
  pub are_judged : IsTrue (judges_files meaning)
  pub visible : IsTrue files.is_visible
  pub why : (All (IsGoodFile files) (command_files meaning) → ⊥) ⊎ (All (IsInLimit files) (command_files meaning) → ⊥)

-- A command whose files or whose medium's length are refused leaves the medium as it is, and does nothing, also where it is
-- answered that there was no memory.
abbrev pub SparesMedium : Meaning → World → World → List Done → Type 0
SparesMedium meaning old new done =
    (FilesRefuse meaning old.files ⊎ ((why : Fault) × RefusesFormat meaning old.medium.len why))
    → (new.medium ≡ old.medium) × (done ≡ [])

-- Where an opened image is refused nothing is done, whatever is answered.
abbrev pub DoesNothingRefused : Meaning → World → List Done → Type 0
DoesNothingRefused meaning old done = makes_image meaning ≡ false → IsTrue old.medium.is_visible → (opening : Opening)
    → Starts meaning old.medium opening → (why : Fault) → MustRefuse meaning old.files opening why → done ≡ []

-- Some calls were made on the medium. None failed but perhaps the last, and that one exactly where the fault is `Device`.
abbrev pub FailsOnlyAtDevice : Option Fault → Sight → Sight → Type 0
FailsOnlyAtDevice fault s t = (ok : Bool) × SomeCalls ok s t × ((ok ≡ false) ↔ (fault ≡ Some Device))

-- it ended well, or only its output failed
abbrev pub EndedWell : Option Fault → Type 0
EndedWell None = ⊤
EndedWell (Some Output) = ⊤
EndedWell _ = ⊥

-- The calls of the command begin with exactly those that make its image, or open it and tell its number.
pub record OpensOnce (meaning : Meaning) (fault : Option Fault) (s t : Sight) : Type 0 where
  -- the command starts from this opening
  pub opening : Opening
  pub starts : Starts meaning s opening
  -- first come exactly the calls of the opening, up to the tell of its number
  pub words : List ℕ
  pub opened : Sight
  pub calls : OpensByCalls (makes_image meaning) opening words s opened
  -- behind them come calls of the command's work; or none, where it ends with its opening
  pub behind : MatchBool (ends_opened meaning) (t ≡ opened) (FailsOnlyAtDevice fault opened t)
  -- and where it ended well these are operations of the opened log
  pub operates : EndedWell fault → MakesOperations (idle opening.sizes opening.number) opened t

-- exactly the calls that make the command's image were made; or, where ok is false, these up to one that failed
abbrev pub MakesSome : Meaning → Bool → Sight → Sight → Type 0
MakesSome meaning ok s t = (sizes : Sizes) × (sizes_made meaning ≡ Some sizes) × FormatsSome sizes ok s t

-- The opening of the command's image ended early. At a failed call exactly the calls up to it were made, of those that make
-- the image, or of those that open it and tell its number. Where there was no memory, none was made but reads, or exactly
-- those that make the image or open it. At another fault its cause and what stays say it.
abbrev pub StopsOpening : Meaning → Option Fault → Sight → Sight → Type 0
StopsOpening meaning (Some Device) s t = MatchBool (makes_image meaning) (MakesSome meaning false s t) (FailsOpening s t)
StopsOpening meaning (Some Memory) s t = MatchBool (makes_image meaning) ((t ≡ s) ⊎ MakesSome meaning true s t) (OpensSome true s t)
StopsOpening meaning fault s t = ⊤

-- So it is of a command that ended well or whose output failed. Each other one did so, or its opening ended early, and nothing
-- is done.
abbrev pub OpensOnceBy : Meaning → Option Fault → List Done → Sight → Sight → Type 0
OpensOnceBy meaning None done s t = OpensOnce meaning None s t
OpensOnceBy meaning (Some Output) done s t = OpensOnce meaning (Some Output) s t
OpensOnceBy meaning fault done s t = ((done ≡ []) × StopsOpening meaning fault s t) ⊎ OpensOnce meaning fault s t

-- When a command that means something ends with which fault, and what stays.
pub record Causes (meaning : Meaning) (old new : World) (done : List Done) (fault : Option Fault) : Type 0 where
  -- the fault has its cause
  pub cause : HasCause meaning old new fault
  -- what refuses the command is answered in its order
  pub order : RefusesInOrder meaning old fault
  -- where nothing refuses it and no call fails, it ends well, or there was no memory
  pub complete : SucceedsIfGood meaning old new fault
  -- what stays where it is refused
  pub untouched : Untouched meaning fault old.medium new.medium done
  -- where its files, or the length of its medium, refuse it, the medium stays and nothing is done, whatever is answered
  pub spared : SparesMedium meaning old new done
  -- where an opened image is refused nothing is done, whatever is answered
  pub nothing : DoesNothingRefused meaning old done
  -- no call on the medium failed but the last one, where the fault is `Device`
  pub ran : FailsOnlyAtDevice fault old.medium new.medium
  -- unless it only reads, its calls begin with exactly those of one opening, or they are these up to one that failed
  pub once : only_reads meaning ≡ false → OpensOnceBy meaning fault done old.medium new.medium
  -- its files were read in order, each once, up to one that couldn't be read, and no other file
  pub reads : ReadsInOrder (command_files meaning) fault old.files new.files
  pub sink : SinkStays old.sink new.sink

-- Words that are refused: so it is answered, or that there was no memory; nothing was called and nothing is done.
pub record RefusesWords (old new : World) (done : List Done) (fault : Option Fault) : Type 0 where
  pub answer : (fault ≡ Some Usage) ⊎ (fault ≡ Some Memory)
  pub same : IsSameWorld old new
  pub none : done ≡ []
