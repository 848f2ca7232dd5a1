-- The headline: the replies of a run are those that one thread gives when it executes the requests in the order of
-- their numbers, each request once and each file's in its order; and at every moment of the run, every image that a
-- crash may leave recovers to the database after a prefix of that order, with everything up to the last number told as
-- durable.
--
-- It is said over an opening: the number, the sizes and the tables that the command starts from (`Opening`). A command
-- joins by its cases there.
use Rattle.std.specs.Prelude.{◌≡◌, ◌⊎◌, ℕ, ◌<◌, ◌≤◌, Bool, false, Option, Some, None, IsTrue, List, [], ◌∷◌, ◌++◌, drop, take, length, All}
use Rattle.pmem_trait.specs.Words.{AtLeast}
use Rattle.pmem_trait.specs.Sights.{Sight, AtEveryMoment, SomeCalls, state_now}
use Rattle.pmem_trait.specs.Reads.{OnlyReads}
use Rattle.tatp_model.specs.declared.done.Done.{Done}
use Rattle.tatp_model.specs.declared.request.Request.{Request}
use Rattle.tatp_model.specs.OneThread.{is_sync, IsPrintedOrder, AllAreDone, RepliesOfOneThread}
use Rattle.dude_io.specs.Files.{FilesSight}
use Rattle.dude_io.specs.Sink.{SinkSight}
use Rattle.run_order.specs.Runs.{SyncsFollow}
use Rattle.run_order.specs.Printed.{NumbersOfOneThread}
use Rattle.dude_engine.specs.Opening.{Opening, IsOpening, RecoversAt}
use Rattle.dude_engine.specs.Endings.{AreSyncsTold, End, LosesAtMost}
use Rattle.dude_engine.specs.Plain.{most_lost_by}
use Rattle.command_edges.specs.declared.fault.Fault.{Fault}
use Rattle.command_edges.specs.declared.fault.Fault.TheVariants.{Device, Output, Memory}
use Rattle.command_edges.specs.Command.{Meaning, Meaning.FreshRun, Meaning.FormatImage, Meaning.RunFiles, Meaning.StreamFiles, Meaning.RecoverImage, Meaning.DumpTables, Meaning.LocateRange, Meaning.DriveLoad, Meaning.AuditRun, Meaning.ShipFiles, Meaning.FollowFiles}
use Rattle.dude_program.specs.Audit.{IsRunFound}
use Rattle.dude_program.specs.Ship.{ShipsContent}
use Rattle.dude_program.specs.World.{World}
use Rattle.command_openings.specs.Opens.{TellsAtMost}
use Rattle.dude_program.specs.Opening.{makes_image, only_reads, runs_requests, runs_threads, Starts, RequestsAre, KnowsReplies, IsReachable, IsOutput, prints_early}

-- Replies: of the command's requests these are done, each file's first ones in its order, each once, at numbers along which
-- each file keeps its order; and, where it is known what they read, the replies are those of one thread along the printed
-- order. A `SYNC` has a number from the opening number on.
pub record Replies (meaning : Meaning) (files : FilesSight) (medium : Sight) (opening : Opening) (done : List Done) : Type 0 where
  pub requests : List (List Request)
  pub read : RequestsAre meaning files opening requests
  pub numbers : NumbersOfOneThread opening.number requests done
  pub answered : KnowsReplies meaning opening medium → RepliesOfOneThread opening.number opening.sizes.calls opening.database requests done
  pub syncs_from : All (λ d. IsTrue (is_sync d.request) → opening.number ≤ d.number) done

-- The command makes its image anew and told nothing yet; or the image recovers, to a number that the command may come to,
-- which is at least the opening number and every number told in this call, and to the database after the requests of the
-- order that wrote with numbers up to it.
abbrev pub RecoversSince : Meaning → ℕ → Opening → List Done → List ℕ → List ℕ → Type 0
RecoversSince meaning before opening order told image =
    (IsTrue (makes_image meaning) × (drop before told ≡ []))
    ⊎ ((n : ℕ) × (opening.number ≤ n) × AtLeast before told n × IsReachable meaning opening order n × RecoversAt opening order image n)

-- this number was told first, in this call, if any was told
abbrev pub WasToldFirst : ℕ → Sight → Sight → Type 0
WasToldFirst first s t =
    (drop (length (state_now s).told) (state_now t).told ≡ [])
    ⊎ ((more : List ℕ) × (drop (length (state_now s).told) (state_now t).told ≡ first ∷ more))

-- Where the medium is visible, at exit every image recovers to a number that is at most 256 under the greatest one done, or
-- 257 where the last call on the medium failed.
abbrev pub LosesFewAtExit : Opening → List Done → Sight → Sight → Type 0
LosesFewAtExit opening done s t = IsTrue s.is_visible → (ok : Bool) × SomeCalls ok s t × LosesAtMost (most_lost_by ok) opening done t

-- The command runs threads, and a call on the medium failed.
abbrev pub FailedOnThreads : Meaning → Sight → Sight → Type 0
FailedOnThreads meaning s t = IsTrue (runs_threads meaning) × SomeCalls false s t

-- Crash: at each moment of the call each image that a crash may leave recovers so, along the printed order. The first
-- number that is told in the call is the opening number; a command that carries no requests out tells it once, and no other.
pub record Crash (meaning : Meaning) (opening : Opening) (done : List Done) (s t : Sight) : Type 0 where
  pub order : List Done
  pub printed : IsPrintedOrder done order
  pub keeps : AtEveryMoment (RecoversSince meaning (length (state_now s).told) opening order) s t
  pub first_told : IsTrue s.is_visible → WasToldFirst opening.number s t
  pub told_alone : runs_requests meaning ≡ false → IsTrue s.is_visible → TellsAtMost opening.number s t
  -- at exit few numbers are lost of those done, whatever the status; on threads, unless a call on the medium failed
  pub few_lost : (done ≡ []) ⊎ FailedOnThreads meaning s t ⊎ LosesFewAtExit opening done s t

-- Sync: the number of a `SYNC` is at least that of each earlier request of its file, and at most the last number told
pub record Sync (done : List Done) (s t : Sight) : Type 0 where
  pub over_earlier : SyncsFollow done
  pub told : IsTrue s.is_visible → AreSyncsTold done s t

-- All requests are done. The last number is at least the opening number and each number done; and of its output the sink
-- took this much.
pub record AllDone (meaning : Meaning) (old new : World) (done : List Done) (Taken : List ℕ → Type 0) : Type 0 where
  -- the command starts from this opening
  pub opening : Opening
  pub starts : Starts meaning old.medium opening
  pub lawful : IsOpening opening
  -- what is done is answered as by one thread
  pub replies : Replies meaning old.files old.medium opening done
  pub all : AllAreDone replies.requests done
  -- the last number
  pub last : ℕ
  pub none_over : All (λ d. d.number ≤ last) done
  pub from : opening.number ≤ last
  -- the command may come to it
  pub reachable : IsReachable meaning opening done last
  -- at the end it was told last, and every image recovers to it
  pub end : IsTrue old.medium.is_visible → End opening done last old.medium new.medium
  -- this text is the command's output
  pub text : List ℕ
  pub output : IsOutput meaning opening done last text
  -- and the sink took this much of it
  pub bytes : Taken text

-- An audit said yes: the printed text is the printed run of its files from the opening on. Nothing is done, and of the
-- output the sink took this much.
pub record SaidYes (printed : List ℕ) (names : List (List ℕ)) (old : World) (done : List Done) (Taken : List ℕ → Type 0) : Type 0 where
  -- the command starts from this opening
  pub opening : Opening
  pub starts : Starts (AuditRun printed names) old.medium opening
  pub lawful : IsOpening opening
  -- the text is the printed run of the files
  pub found : IsRunFound printed names old.files opening
  pub none : done ≡ []
  -- this text is the command's output
  pub text : List ℕ
  pub output : IsOutput (AuditRun printed names) opening done opening.number text
  -- and the sink took this much of it
  pub bytes : Taken text

-- All requests are done, and of the packets of their run the sink took this much. The array that these lead from is the one
-- to which the content recovers.
pub record ShippedAll (files : List (List ℕ)) (old new : World) (done : List Done) (Taken : List ℕ → Type 0) : Type 0 where
  pub all : AllDone (ShipFiles files) old new done Taken
  pub from : ShipsContent all.output old.medium

-- What a command that came to its output has found or done: an audit has said yes, and each other one has done all.
abbrev pub Completed : Meaning → World → World → List Done → (List ℕ → Type 0) → Type 0
Completed (FreshRun subscribers file) old new done Taken = AllDone (FreshRun subscribers file) old new done Taken
Completed (FormatImage indexed subscribers calls rings cells) old new done Taken = AllDone (FormatImage indexed subscribers calls rings cells) old new done Taken
Completed (RunFiles frames locks files) old new done Taken = AllDone (RunFiles frames locks files) old new done Taken
Completed (StreamFiles frames locks files) old new done Taken = AllDone (StreamFiles frames locks files) old new done Taken
Completed RecoverImage old new done Taken = AllDone RecoverImage old new done Taken
Completed DumpTables old new done Taken = AllDone DumpTables old new done Taken
Completed (LocateRange low high limit) old new done Taken = AllDone (LocateRange low high limit) old new done Taken
Completed (DriveLoad seed count number) old new done Taken = AllDone (DriveLoad seed count number) old new done Taken
Completed (AuditRun printed names) old new done Taken = SaidYes printed names old done Taken
Completed (ShipFiles files) old new done Taken = ShippedAll files old new done Taken
Completed (FollowFiles files) old new done Taken = AllDone (FollowFiles files) old new done Taken

-- the sink took all of a text
abbrev pub TookAll : SinkSight → SinkSight → List ℕ → Type 0
TookAll s t text = IsTrue s.is_visible → t.taken ≡ s.taken ++ text

-- the sink took a prefix of a text, and not the whole
abbrev pub TookPrefix : SinkSight → SinkSight → List ℕ → Type 0
TookPrefix s t text = IsTrue s.is_visible → (n : ℕ) × (n < length text) × (t.taken ≡ s.taken ++ take n text)

-- A command that prints while it runs came to its opening, and the sink took a prefix of an output of what is done.
pub record PrintedEarly (meaning : Meaning) (old new : World) (done : List Done) : Type 0 where
  pub early : IsTrue (prints_early meaning)
  -- the command starts from this opening
  pub opening : Opening
  pub starts : Starts meaning old.medium opening
  -- this text is an output of what is done
  pub last : ℕ
  pub text : List ℕ
  pub output : IsOutput meaning opening done last text
  -- and the sink took a prefix of it
  pub bytes : TookPrefix old.sink new.sink text

-- Nothing was printed, but perhaps by a command that prints while it runs.
abbrev pub StopsPrinting : Meaning → World → World → List Done → Type 0
StopsPrinting meaning old new done = (new.sink ≡ old.sink) ⊎ PrintedEarly meaning old new done

-- Bytes: where the command ended well, all is done and printed; where the output failed, all is done and a prefix was
-- printed; where there was no memory, either so or nothing was printed; else nothing was printed. Where the medium failed or
-- there was no memory, a command that prints while it runs may have printed some. For an audit, that all is done is that it
-- said yes.
abbrev pub Printed : Meaning → World → World → List Done → Option Fault → Type 0
Printed meaning old new done None = Completed meaning old new done (TookAll old.sink new.sink)
Printed meaning old new done (Some Output) = Completed meaning old new done (TookPrefix old.sink new.sink)
Printed meaning old new done (Some Device) = StopsPrinting meaning old new done
Printed meaning old new done (Some Memory) =
    StopsPrinting meaning old new done ⊎ Completed meaning old new done (TookPrefix old.sink new.sink)
Printed meaning old new done (Some _) = new.sink ≡ old.sink

-- the command only reads, or it has no opening
abbrev pub MustOnlyRead : Meaning → Sight → Type 0
MustOnlyRead meaning s = IsTrue (only_reads meaning) ⊎ ((opening : Opening) → Starts meaning s opening → ⊥)

-- The headline, of a command that means something and ended with this fault or none. Where it only reads, or has no opening,
-- it only read the medium.
pub record Headline (meaning : Meaning) (old new : World) (done : List Done) (fault : Option Fault) : Type 0 where
  -- nothing is done; or what is done is answered as by one thread that starts from the opening
  pub replies : (done ≡ [])
      ⊎ ((opening : Opening) × Starts meaning old.medium opening × IsOpening opening × Replies meaning old.files old.medium opening done)
  -- what each image that a crash at any moment may leave recovers to, for each opening of the command
  pub crash : (opening : Opening) → Starts meaning old.medium opening → Crash meaning opening done old.medium new.medium
  -- the number of each `SYNC` is at least that of each earlier request of its file, and at most the last number told
  pub sync : Sync done old.medium new.medium
  -- what the sink took, and, where all is done, what the medium holds at the end
  pub printed : Printed meaning old new done fault
  -- where the command only reads, or has no opening, it only read the medium
  pub only_read : MustOnlyRead meaning old.medium → (ok : Bool) × OnlyReads ok old.medium new.medium
