-- The printed bytes of a run, and the verdict on bytes.
use Rattle.std.specs.Prelude.{ℕ, ◌≡◌, ◌⊎◌, ◌≤◌, ◌↔◌, IsTrue, List, length, All}
use Rattle.std.specs.Global.{Vec}
use Rattle.dude_base.specs.declared.limits.TheConstants.{MAX_NUMBER}
use Rattle.tatp_model.specs.declared.request.Request.{Request}
use Rattle.tatp_model.specs.declared.done.Done.{Done}
use Rattle.tatp_model.specs.declared.tables.Tables.{Tables}
use Rattle.tatp_model.specs.Database.{Database, database_of, IsInOrder}
use Rattle.tatp_model.specs.Request.{IsInRange}
use Rattle.tatp_model.specs.OneThread.{is_sync, AllAreDone, RepliesOfOneThread}
use Rattle.run_order.specs.Runs.{SyncsFollow}
use Rattle.tatp_text.specs.Output.{output_of}
use Rattle.dude_audit.specs.declared.claim.Claim.{Claim}
use Rattle.tatp_model.specs.Files.{requests_in}
use Rattle.dude_audit.specs.Blanks.{AreBlanks}
use Rattle.dude_audit.specs.Reading.{AreLines, IsMisformed}
use Rattle.dude_audit.specs.declared.verdict.Verdict.{Verdict}
use Rattle.dude_audit.specs.declared.verdict.Verdict.TheVariants.{Yes, No}
use Rattle.dude_audit.specs.Verdict.{HasVerdict}

-- This was done in a run of all requests of the files, from a database and a number on, where at most `limit` call rows may
-- stand, and the run ended with this last number.
pub record RunsAsOneThread (first limit : ℕ) (db : Database) (files : List (List Request)) (done : List Done) (last : ℕ) : Type 0 where
  -- all is done, and answered as by one thread along the printed order
  pub all : AllAreDone files done
  pub replies : RepliesOfOneThread first limit db files done
  -- a `SYNC` has no number under the first one, nor under an earlier one of its file
  pub syncs_from : All (λ d. IsTrue (is_sync d.request) → first ≤ d.number) done
  pub syncs_follow : SyncsFollow done
  -- no number is over the last one
  pub none_over : All (λ d. d.number ≤ last) done
  pub from : first ≤ last

-- The bytes are the output of a run of all requests of the files, from a database and a number on, where at most `limit` call rows
-- may stand.
pub record IsPrintedRun (first limit : ℕ) (db : Database) (files : List (List Request)) (printed : List ℕ) : Type 0 where
  pub done : List Done
  pub last : ℕ
  pub run : RunsAsOneThread first limit db files done last
  -- the last number has at most 48 bits
  pub small : last ≤ MAX_NUMBER
  -- the bytes are what is printed of it
  pub printed_so : printed ≡ output_of done last

-- the bytes are lines of the requests of the blanks, and this is the verdict on these
pub record HasReadVerdict (first limit : ℕ) (db : Database) (blanks : List Claim) (printed : List ℕ) (v : Verdict) : Type 0 where
  pub claims : List Claim
  pub last : ℕ
  pub lines : AreLines blanks printed claims last
  pub verdict : HasVerdict first limit db printed claims last v

-- the first line that isn't formed as it has to be; else the verdict on the lines
abbrev pub HasFormVerdict : ℕ → ℕ → Database → List Claim → List ℕ → Verdict → Type 0
HasFormVerdict first limit db blanks printed Yes = HasReadVerdict first limit db blanks printed Yes
HasFormVerdict first limit db blanks printed (No line) = IsMisformed blanks printed line ⊎ HasReadVerdict first limit db blanks printed (No line)

-- the verdict on the printed bytes of a run of these files
pub record IsVerdict (first limit : ℕ) (db : Database) (files : List (List Request)) (printed : List ℕ) (v : Verdict) : Type 0 where
  pub blanks : List Claim
  pub are : AreBlanks files blanks
  pub verdict : HasFormVerdict first limit db blanks printed v

-- the bytes are those of a run of files in memory, from tables in memory on
abbrev pub IsRunOf : ℕ → ℕ → Tables → List (Vec Request) → List ℕ → Type 0
IsRunOf number limit start files printed = IsPrintedRun number limit (database_of start) (requests_in files) printed

-- the verdict on the printed bytes of a run of files in memory, from tables in memory on
abbrev pub IsVerdictOn : ℕ → ℕ → Tables → List (Vec Request) → List ℕ → Verdict → Type 0
IsVerdictOn number limit start files printed v = IsVerdict number limit (database_of start) (requests_in files) printed v

-- The law: the verdict is `Yes` exactly where the bytes are those of such a run.
abbrev pub LawOfPrintedRuns : Type 0
LawOfPrintedRuns = (first limit : ℕ) (db : Database) (files : List (List Request)) (printed : List ℕ) (v : Verdict)
    → All (All IsInRange) files → IsInOrder db → length db.calls ≤ limit → IsVerdict first limit db files printed v
    → (v ≡ Yes) ↔ IsPrintedRun first limit db files printed

-- The law: bytes have one verdict at most. So a `No` names one line.
abbrev pub LawOfVerdicts : Type 0
LawOfVerdicts = (first limit : ℕ) (db : Database) (files : List (List Request)) (printed : List ℕ) (v w : Verdict)
    → IsVerdict first limit db files printed v → IsVerdict first limit db files printed w → v ≡ w
