-- What was read of a file, and what it means.
use Rattle.std.specs.Prelude.{◌≡◌, ℕ, ◌+◌, ◌≤◌, ⊤, IsOk, Result, Ok, Err, List, length, All}
use Rattle.std.specs.List.{AllZip}
use Rattle.std.specs.Global.{Vec}
use Rattle.tatp_model.specs.declared.request.Request.{Request}
use Rattle.tatp_model.specs.Request.{IsInRange}
use Rattle.tatp_csv.specs.RequestFile.{Place, requests_of}
use Rattle.dude_io.specs.declared.file_text.FileText.{FileText}
use Rattle.dude_io.specs.declared.file_text.FileText.TheVariants.{Whole, TooLong}
use Rattle.dude_io.specs.FileText.{IsBounded, IsFileText}
use Rattle.dude_io.specs.Files.{FilesSight}
use Rattle.command_edges.specs.CommandFile.{CommandFile, file_limit}
use Rattle.command_edges.specs.declared.fault.Fault.{Fault}
use Rattle.command_edges.specs.declared.fault.Fault.TheVariants.{Text, Memory}
use Rattle.tatp_model.specs.Files.{requests_in}
use Rattle.command_edges.specs.Files.{IsFirst}

-- this is the text of the file, or it is too long, where the files are visible; no text is longer than it may be
abbrev pub IsTextOf : FilesSight → CommandFile → FileText → Type 0
IsTextOf files file text = IsFileText (file_limit file) files file.name text × IsBounded (file_limit file) text

-- the texts of these files
abbrev pub AreTextsOf : FilesSight → List CommandFile → Vec FileText → Type 0
AreTextsOf files wanted texts = AllZip (IsTextOf files) wanted texts.items

-- what the text means: its requests, or the place of its first bad record. One that is too long is bad at record 0
abbrev pub meaning_of : FileText → Result (List Request) Place
meaning_of (Whole bytes) = requests_of bytes.items
meaning_of TooLong = Err (0, 0)

-- the text means these requests, each in range, and at most 100,000
pub record HoldsRequests (text : FileText) (requests : List Request) : Type 0 where
  pub meant : meaning_of text ≡ Ok requests
  pub in_range : All IsInRange requests
  pub few : length requests ≤ 100000

-- each text means the requests of its list, each in range, and at most 100,000 of them
abbrev pub HoldEachRequests : List FileText → Vec (Vec Request) → Type 0
HoldEachRequests texts lists = AllZip HoldsRequests texts (requests_in lists.items)

-- why the text of the file of this number gave no requests
abbrev pub IsTextFault : FileText → ℕ → Fault → Type 0
IsTextFault text number (Text file row field) = (file ≡ number) × (meaning_of text ≡ Err (row, field))
IsTextFault text number Memory = ⊤
IsTextFault text number _ = ⊥

-- why texts, behind so many other files, didn't all give requests
abbrev pub IsFirstTextFault : ℕ → List FileText → Fault → Type 0
IsFirstTextFault before texts (Text number row field) = (place : ℕ) × (number ≡ before + place)
    × IsFirst (λ text. IsOk (meaning_of text)) (λ text. meaning_of text ≡ Err (row, field)) texts place
IsFirstTextFault before texts Memory = ⊤
IsFirstTextFault before texts _ = ⊥
