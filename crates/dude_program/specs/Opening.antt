-- What a command starts from, and what it runs: the cases, a command each, below the headline.
use Rattle.std.specs.Prelude.{◌≡◌, ◌⊎◌, ℕ, ◌*◌, ◌≤◌, ⊤, Bool, true, false, Option, Some, None, IsTrue, if◌then◌else◌, List, [], ◌∷◌, ◌++◌, codes, map}
use Rattle.std.specs.List.{AllZip, list_all, range_with_len}
use Rattle.dude_base.specs.declared.sizes.Sizes.{Sizes}
use Rattle.dude_base.specs.Sizes.{indexed_sizes, sizes_for}
use Rattle.pmem_trait.specs.Sights.{Sight}
use Rattle.tatp_model.specs.Database.{Database}
use Rattle.tatp_model.specs.declared.done.Done.{Done}
use Rattle.tatp_model.specs.declared.request.Request.{Request}
use Rattle.tatp_text.specs.Output.{output_of, last_line}
use Rattle.tatp_text.specs.Dump.{dump_text}
use Rattle.tatp_text.specs.Load.{mixed}
use Rattle.tatp_text.specs.Summary.{summary_of}
use Rattle.tatp_core.specs.Located.{Locates}
use Rattle.dude_io.specs.Files.{FilesSight}
use Rattle.dude_stream.specs.Streams.{IsStreamText}
use Rattle.command_edges.specs.Command.{Meaning, Meaning.FreshRun, Meaning.FormatImage, Meaning.RunFiles, Meaning.StreamFiles, Meaning.RecoverImage, Meaning.DumpTables, Meaning.LocateRange, Meaning.DriveLoad, Meaning.AuditRun, Meaning.ShipFiles, Meaning.FollowFiles}
use Rattle.command_edges.specs.Files.{OfFile}
use Rattle.command_edges.specs.Located.{located_text}
use Rattle.dude_engine.specs.Opening.{Opening, last_of}
use Rattle.command_openings.specs.Openings.{IsOpeningOn, new_opening}
use Rattle.command_edges.specs.CommandFile.{CommandFile, audit_files, is_judged_first, packet_files, request_files}
use Rattle.dude_program.specs.Ship.{IsShipment}

-- the sizes of the image that `fresh` makes
abbrev pub fresh_sizes : ℕ → Sizes
fresh_sizes subscribers = sizes_for subscribers (12 * subscribers) 1 16

-- the sizes of the image that `format` makes, and, with an index, `xformat`
abbrev pub format_sizes : Bool → ℕ → ℕ → ℕ → ℕ → Sizes
format_sizes indexed subscribers calls rings cells =
    if indexed then indexed_sizes subscribers calls rings cells else sizes_for subscribers calls rings cells

-- This text is what is located of the subscribers of a database, and the last number.
abbrev pub IsLocatedText : ℕ → ℕ → ℕ → Database → ℕ → List ℕ → Type 0
IsLocatedText low high limit db last text =
    (found : List (ℕ × ℕ)) × Locates low high limit db.subscribers found × (text ≡ located_text found last)

-- What a command does and doesn't, whatever its numbers and files are; the functions below say each.
pub record Properties : Type 0 where
  pub makes_image : Bool
  pub runs_requests : Bool
  pub runs_threads : Bool
  pub ends_opened : Bool
  pub only_reads : Bool
  pub prints_early : Bool
  pub has_headline : Bool

-- the properties of each command
abbrev pub properties_of : Meaning → Properties
properties_of (FreshRun subscribers file) = record { makes_image = true; runs_requests = true; runs_threads = false; ends_opened = false; only_reads = false; prints_early = false; has_headline = true }
properties_of (FormatImage indexed subscribers calls rings cells) = record { makes_image = true; runs_requests = false; runs_threads = false; ends_opened = true; only_reads = false; prints_early = false; has_headline = true }
properties_of (RunFiles frames locks files) = record { makes_image = false; runs_requests = true; runs_threads = true; ends_opened = false; only_reads = false; prints_early = false; has_headline = true }
properties_of (StreamFiles frames locks files) = record { makes_image = false; runs_requests = true; runs_threads = true; ends_opened = false; only_reads = false; prints_early = true; has_headline = true }
properties_of RecoverImage = record { makes_image = false; runs_requests = false; runs_threads = false; ends_opened = true; only_reads = false; prints_early = false; has_headline = true }
properties_of DumpTables = record { makes_image = false; runs_requests = false; runs_threads = false; ends_opened = true; only_reads = false; prints_early = false; has_headline = true }
properties_of (LocateRange low high limit) = record { makes_image = false; runs_requests = false; runs_threads = false; ends_opened = true; only_reads = false; prints_early = false; has_headline = true }
properties_of (DriveLoad seed count number) = record { makes_image = false; runs_requests = true; runs_threads = true; ends_opened = false; only_reads = false; prints_early = false; has_headline = true }
properties_of (AuditRun printed files) = record { makes_image = false; runs_requests = false; runs_threads = false; ends_opened = true; only_reads = true; prints_early = false; has_headline = true }
properties_of (ShipFiles files) = record { makes_image = false; runs_requests = true; runs_threads = false; ends_opened = false; only_reads = false; prints_early = false; has_headline = true }
properties_of (FollowFiles files) = record { makes_image = false; runs_requests = false; runs_threads = false; ends_opened = false; only_reads = false; prints_early = false; has_headline = false }

-- whether the command makes its image anew
abbrev pub makes_image : Meaning → Bool
makes_image meaning = (properties_of meaning).makes_image

-- whether the command carries requests out
abbrev pub runs_requests : Meaning → Bool
runs_requests meaning = (properties_of meaning).runs_requests

-- whether the command carries them out on threads
abbrev pub runs_threads : Meaning → Bool
runs_threads meaning = (properties_of meaning).runs_threads

-- The command starts from this opening. One that makes its image starts with the new image's, each other one with what the
-- content at entry recovers to.
abbrev pub Starts : Meaning → Sight → Opening → Type 0
Starts (FreshRun subscribers file) medium opening = opening ≡ new_opening (fresh_sizes subscribers)
Starts (FormatImage indexed subscribers calls rings cells) medium opening = opening ≡ new_opening (format_sizes indexed subscribers calls rings cells)
Starts (RunFiles frames locks files) medium opening = IsOpeningOn medium opening
Starts (StreamFiles frames locks files) medium opening = IsOpeningOn medium opening
Starts RecoverImage medium opening = IsOpeningOn medium opening
Starts DumpTables medium opening = IsOpeningOn medium opening
Starts (LocateRange low high limit) medium opening = IsOpeningOn medium opening
Starts (DriveLoad seed count number) medium opening = IsOpeningOn medium opening
Starts (AuditRun printed files) medium opening = IsOpeningOn medium opening
Starts (ShipFiles files) medium opening = IsOpeningOn medium opening
Starts (FollowFiles files) medium opening = IsOpeningOn medium opening

-- whether the command makes no call on the medium behind its opening
abbrev pub ends_opened : Meaning → Bool
ends_opened meaning = (properties_of meaning).ends_opened

-- whether the command only reads the medium, at every end: it opens no image and tells nothing
abbrev pub only_reads : Meaning → Bool
only_reads meaning = (properties_of meaning).only_reads

-- the load of so many files, one of each
abbrev pub load_of : ℕ → ℕ → ℕ → ℕ → List (List Request)
load_of subscribers seed count files = map (λ file. mixed seed file files subscribers count) (range_with_len 0 files)

-- the files that the command reads, in their order
abbrev pub command_files : Meaning → List CommandFile
command_files (FreshRun subscribers file) = request_files (file ∷ [])
command_files (FormatImage indexed subscribers calls rings cells) = []
command_files (RunFiles frames locks files) = request_files files
command_files (StreamFiles frames locks files) = request_files files
command_files RecoverImage = []
command_files DumpTables = []
command_files (LocateRange low high limit) = []
command_files (DriveLoad seed count number) = []
command_files (AuditRun printed files) = audit_files printed files
command_files (ShipFiles files) = request_files files
command_files (FollowFiles files) = packet_files files

-- Whether all that the command reads in files is judged before its medium is called. A command with other files says by
-- itself when it judges them.
abbrev pub judges_files : Meaning → Bool
judges_files meaning = list_all (λ file. is_judged_first file.kind) (command_files meaning)

-- The lists of requests that the command runs: those of its files, one for each; or those of its load; or none.
abbrev pub RequestsAre : Meaning → FilesSight → Opening → List (List Request) → Type 0
RequestsAre (FreshRun subscribers file) files opening requests = AllZip (OfFile files) (file ∷ []) requests
RequestsAre (FormatImage indexed subscribers calls rings cells) files opening requests = requests ≡ []
RequestsAre (RunFiles frames locks names) files opening requests = AllZip (OfFile files) names requests
RequestsAre (StreamFiles frames locks names) files opening requests = AllZip (OfFile files) names requests
RequestsAre RecoverImage files opening requests = requests ≡ []
RequestsAre DumpTables files opening requests = requests ≡ []
RequestsAre (LocateRange low high limit) files opening requests = requests ≡ []
RequestsAre (AuditRun printed names) files opening requests = requests ≡ []
RequestsAre (ShipFiles names) files opening requests = AllZip (OfFile files) names requests
RequestsAre (FollowFiles names) files opening requests = requests ≡ []
RequestsAre (DriveLoad seed count number) files opening requests = requests ≡ load_of opening.sizes.subscribers seed count number

-- It is known what threads over so many frames read: all pages are in memory, or the medium is visible. Where no frames are
-- said each page has one.
abbrev pub KnowsReadsOver : Option ℕ → Opening → Sight → Type 0
KnowsReadsOver None opening medium = ⊤
KnowsReadsOver (Some frames) opening medium = IsTrue medium.is_visible ⊎ (frames ≡ opening.sizes.pages)

-- It is known what the command's requests read: all pages are in memory while they run, or the medium is visible.
abbrev pub KnowsReplies : Meaning → Opening → Sight → Type 0
KnowsReplies (FreshRun subscribers file) opening medium = ⊤
KnowsReplies (FormatImage indexed subscribers calls rings cells) opening medium = ⊤
KnowsReplies (RunFiles frames locks files) opening medium = KnowsReadsOver frames opening medium
KnowsReplies (StreamFiles frames locks files) opening medium = KnowsReadsOver frames opening medium
KnowsReplies RecoverImage opening medium = ⊤
KnowsReplies DumpTables opening medium = ⊤
KnowsReplies (LocateRange low high limit) opening medium = ⊤
KnowsReplies (DriveLoad seed count number) opening medium = ⊤
KnowsReplies (AuditRun printed files) opening medium = ⊤
KnowsReplies (ShipFiles files) opening medium = ⊤
KnowsReplies (FollowFiles files) opening medium = ⊤

-- The command may come to this number. Where threads may run, numbers may follow those of what is done; `follow` comes to those
-- of packets.
abbrev pub IsReachable : Meaning → Opening → List Done → ℕ → Type 0
IsReachable (FreshRun subscribers file) opening done n = n ≤ last_of opening.number done
IsReachable (FormatImage indexed subscribers calls rings cells) opening done n = n ≤ last_of opening.number done
IsReachable (RunFiles frames locks files) opening done n = ⊤
IsReachable (StreamFiles frames locks files) opening done n = ⊤
IsReachable RecoverImage opening done n = n ≤ last_of opening.number done
IsReachable DumpTables opening done n = n ≤ last_of opening.number done
IsReachable (LocateRange low high limit) opening done n = n ≤ last_of opening.number done
IsReachable (DriveLoad seed count number) opening done n = ⊤
IsReachable (AuditRun printed files) opening done n = n ≤ last_of opening.number done
IsReachable (ShipFiles files) opening done n = n ≤ last_of opening.number done
IsReachable (FollowFiles files) opening done n = ⊤

-- whether the command prints while it runs, so that some is printed also where the medium fails or there is no memory
abbrev pub prints_early : Meaning → Bool
prints_early meaning = (properties_of meaning).prints_early

-- whether the headline is said of the command: one without it has a theorem of its own
abbrev pub has_headline : Meaning → Bool
has_headline meaning = (properties_of meaning).has_headline

-- This text is the output of the command. It is a relation, since what is done doesn't fix the output of each command. What
-- `follow` prints isn't said here: it does nothing of its own, and has a theorem of its own.
abbrev pub IsOutput : Meaning → Opening → List Done → ℕ → List ℕ → Type 0
IsOutput (FreshRun subscribers file) opening done last text = text ≡ output_of done last
IsOutput (FormatImage indexed subscribers calls rings cells) opening done last text = text ≡ last_line last
IsOutput (RunFiles frames locks files) opening done last text = text ≡ output_of done last
IsOutput (StreamFiles frames locks files) opening done last text = IsStreamText done last text
IsOutput RecoverImage opening done last text = text ≡ last_line last
IsOutput DumpTables opening done last text = text ≡ dump_text opening.database last
IsOutput (LocateRange low high limit) opening done last text = IsLocatedText low high limit opening.database last text
IsOutput (DriveLoad seed count number) opening done last text = text ≡ summary_of done
IsOutput (AuditRun printed files) opening done last text = text ≡ codes "yes" ++ 10 ∷ []
IsOutput (ShipFiles files) opening done last text = IsShipment opening done last text
IsOutput (FollowFiles files) opening done last text = ⊤
