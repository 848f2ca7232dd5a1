-- What an audit finds of a printed run and its files.
use Rattle.std.specs.Prelude.{◌≡◌, ◌⊎◌, ℕ, ◌<◌, ◌≤◌, IsTrue, Some, IsSomeAnd, List, length}
use Rattle.std.specs.List.{AllZip}
use Rattle.tatp_model.specs.declared.request.Request.{Request}
use Rattle.dude_io.specs.Files.{FilesSight}
use Rattle.command_edges.specs.Files.{OfFile}
use Rattle.dude_engine.specs.Opening.{Opening}
use Rattle.dude_audit.specs.PrintedRun.{IsPrintedRun, IsVerdict}
use Rattle.dude_audit.specs.declared.verdict.Verdict.TheVariants.{No}

-- Files that are read as a printed run and its requests: the requests of each file, and the printed text, which isn't too
-- long; those of the files of these names, where files are visible.
pub record RunRead (printed : List ℕ) (names : List (List ℕ)) (files : FilesSight) : Type 0 where
  pub requests : List (List Request)
  pub read : AllZip (OfFile files) names requests
  pub text : List ℕ
  pub short : length text ≤ 268_435_456
  pub of_file : IsTrue files.is_visible → files.text printed ≡ Some text

-- The text is the printed run of its files, from the opening on.
pub record IsRunFound (printed : List ℕ) (names : List (List ℕ)) (files : FilesSight) (opening : Opening) : Type 0 where
  pub run : RunRead printed names files
  pub is : IsPrintedRun opening.number opening.sizes.calls opening.database run.requests run.text

-- The text is no printed run of its files, and the verdict on it names this line.
pub record IsWrongRun (printed : List ℕ) (names : List (List ℕ)) (files : FilesSight) (opening : Opening) (line : ℕ) : Type 0 where
  pub run : RunRead printed names files
  pub verdict : IsVerdict opening.number opening.sizes.calls opening.database run.requests run.text (No line)

-- The printed text is too long, where files are visible.
abbrev pub IsLongRun : List ℕ → FilesSight → Type 0
IsLongRun printed files = IsTrue files.is_visible → IsSomeAnd (files.text printed) (λ text. 268_435_456 < length text)

-- Why an audit says no, with this line: the text is too long, and the line is 0; or the verdict names the line.
abbrev pub IsRefusedRun : List ℕ → List (List ℕ) → FilesSight → Opening → ℕ → Type 0
IsRefusedRun printed names files opening line =
    (IsLongRun printed files × (line ≡ 0)) ⊎ IsWrongRun printed names files opening line
