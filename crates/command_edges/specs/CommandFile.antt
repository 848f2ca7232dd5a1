-- A file that a command reads: its name, what it is to hold, and so how long it may be.
use Rattle.std.specs.Prelude.{◌≡◌, ℕ, ◌≤◌, Bool, true, false, IsTrue, Some, List, ◌∷◌, length, map, ⊤}
use Rattle.dude_io.specs.Files.{FilesSight}
use Rattle.command_edges.specs.declared.file_kind.FileKind.{FileKind}
use Rattle.command_edges.specs.declared.file_kind.FileKind.TheVariants.{Requests, Printed, Packets}
use Rattle.command_edges.specs.declared.file_wanted.FileWanted.{FileWanted}

-- how many bytes a file may have, by what it is to hold
abbrev pub limit_of : FileKind → ℕ
limit_of Requests = 16_777_216
limit_of Printed = 268_435_456
limit_of Packets = 16_777_216

-- Whether what a file is to hold is judged before the medium is called: requests are; what a run printed is never bad;
-- packets are judged behind the opening of the image, whose sizes they need.
abbrev pub is_judged_first : FileKind → Bool
is_judged_first Requests = true
is_judged_first Printed = true
is_judged_first Packets = false

-- a file that a command reads: its name, and what it is to hold
pub record CommandFile : Type 0 where
  pub name : List ℕ
  pub kind : FileKind

-- how many bytes the file may have
abbrev pub file_limit : CommandFile → ℕ
file_limit file = limit_of file.kind

-- files of this kind, by their names
abbrev pub files_of : FileKind → List (List ℕ) → List CommandFile
files_of kind names = map (λ name. record { name = name; kind = kind }) names

-- a file of requests
abbrev pub request_file : List ℕ → CommandFile
request_file name = record { name = name; kind = Requests }

-- files of requests, by their names
abbrev pub request_files : List (List ℕ) → List CommandFile
request_files names = files_of Requests names

-- files of packets, by their names
abbrev pub packet_files : List (List ℕ) → List CommandFile
packet_files names = files_of Packets names

-- what a run printed, and the files of its requests
abbrev pub audit_files : List ℕ → List (List ℕ) → List CommandFile
audit_files printed names = record { name = printed; kind = Printed } ∷ request_files names

-- what the code's values say
abbrev pub file_wanted : FileWanted → CommandFile
file_wanted wanted = record { name = wanted.name.now; kind = wanted.kind }

-- what the code says of several files
abbrev pub files_wanted : List FileWanted → List CommandFile
files_wanted wanted = map file_wanted wanted

-- A file of this kind isn't refused for its length before the medium is called, where the files are visible. One that a run
-- printed never is: that it is too long is an answer of its own.
abbrev pub IsInLimitAs : FileKind → FilesSight → List ℕ → Type 0
IsInLimitAs Requests files name = IsTrue files.is_visible → (text : List ℕ) → files.text name ≡ Some text → length text ≤ 16_777_216
IsInLimitAs Printed files name = ⊤
IsInLimitAs Packets files name = ⊤

-- the file isn't refused for its length
abbrev pub IsInLimit : FilesSight → CommandFile → Type 0
IsInLimit files file = IsInLimitAs file.kind files file.name
