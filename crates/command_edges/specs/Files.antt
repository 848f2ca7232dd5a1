-- What the files of a command hold, and why they give no requests.
use Rattle.std.specs.Prelude.{◌≡◌, ℕ, ◌+◌, ◌≤◌, ⊤, true, IsTrue, Some, None, IsSome, Result, Ok, Err, IsErr, IsErrAnd, List, [], ◌∷◌, ◌++◌, length, All, Any}
use Rattle.std.specs.List.{AllZip}
use Rattle.std.specs.Global.{Vec}
use Rattle.pmem_trait.specs.Sights.{Risen}
use Rattle.tatp_model.specs.declared.request.Request.{Request}
use Rattle.tatp_model.specs.Files.{requests_in}
use Rattle.tatp_model.specs.Request.{IsInRange}
use Rattle.tatp_csv.specs.RequestFile.{requests_of}
use Rattle.dude_io.specs.Files.{FilesSight, ReadMade}
use Rattle.command_edges.specs.CommandFile.{CommandFile}
use Rattle.command_edges.specs.declared.file_kind.FileKind.{FileKind}
use Rattle.command_edges.specs.declared.file_kind.FileKind.TheVariants.{Requests, Printed, Packets}
use Rattle.command_edges.specs.declared.fault.Fault.{Fault}
use Rattle.command_edges.specs.declared.fault.Fault.TheVariants.{File, Text, Memory}
use Rattle.command_edges.specs.Reads.{ReadsInOrder}

-- these are the requests of some text, which is that of the file of this name where the files are visible
abbrev pub OfFile : FilesSight → List ℕ → List Request → Type 0
OfFile files name requests =
    (text : List ℕ) × (requests_of text ≡ Ok requests) × (IsTrue files.is_visible → files.text name ≡ Some text)

-- the file of this name is there
abbrev pub IsThere : FilesSight → CommandFile → Type 0
IsThere files file = IsSome (files.text file.name)

-- Some text is first bad at this record and field, and is that of the file of this name where the files are visible. What a
-- run printed is never bad, and packets aren't before the image is opened.
abbrev pub IsBadAs : FileKind → FilesSight → List ℕ → ℕ → ℕ → Type 0
IsBadAs Requests files name row field =
    (text : List ℕ) × (requests_of text ≡ Err (row, field)) × (IsTrue files.is_visible → files.text name ≡ Some text)
IsBadAs Printed files name row field = ⊥
IsBadAs Packets files name row field = ⊥

-- the file of this name is there, and holds what it is to hold as far as that is judged first, where the files are visible
abbrev pub IsGoodAs : FileKind → FilesSight → List ℕ → Type 0
IsGoodAs Requests files name = (requests : List Request) × OfFile files name requests
IsGoodAs Printed files name = IsTrue files.is_visible → IsSome (files.text name)
IsGoodAs Packets files name = IsTrue files.is_visible → IsSome (files.text name)

-- the file is bad at this record and field
abbrev pub IsBadAt : FilesSight → CommandFile → ℕ → ℕ → Type 0
IsBadAt files file row field = IsBadAs file.kind files file.name row field

-- the file is good
abbrev pub IsGoodFile : FilesSight → CommandFile → Type 0
IsGoodFile files file = IsGoodAs file.kind files file.name

-- the file is there and bad, where the files are visible
abbrev pub IsBadFile : FilesSight → CommandFile → Type 0
IsBadFile files file = (row : ℕ) × (field : ℕ) × IsBadAt files file row field

-- some file isn't there
abbrev pub MissesFile : List CommandFile → FilesSight → Type 0
MissesFile wanted files = Any (λ file. files.text file.name ≡ None) wanted

-- some file is there and bad, where the files are visible
abbrev pub HasBadFile : List CommandFile → FilesSight → Type 0
HasBadFile wanted files = Any (IsBadFile files) wanted

-- `This` holds of the element of this number, counted from 1, and `Earlier` of each earlier one
pub record IsFirst {X : Type 0} (Earlier This : X → Type 0) (elements : List X) (number : ℕ) : Type 0 where
  pub earlier : List X
  pub this : X
  pub later : List X
  pub split : elements ≡ earlier ++ this ∷ later
  pub counted : number ≡ length earlier + 1
  pub each_earlier : All Earlier earlier
  pub is_this : This this

-- the file of this number, from 1, is bad at this record and field, and each earlier one is good
abbrev pub IsFirstBad : List CommandFile → FilesSight → ℕ → ℕ → ℕ → Type 0
IsFirstBad wanted files number row field =
    IsFirst (IsGoodFile files) (λ file. IsBadAt files file row field) wanted number

-- the last read is of this file and failed, where reads are listed
abbrev pub IsUnread : FilesSight → CommandFile → Type 0
IsUnread files file = IsTrue files.lists_reads
    → (earlier : List ReadMade) × (at : ℕ) × (files.reads ≡ earlier ++ record { name = file.name; at = at; failed = true } ∷ [])

-- the file of this number, from 1, couldn't be read at last, and each earlier one is there, where the files are visible
abbrev pub IsFirstUnread : List CommandFile → FilesSight → FilesSight → ℕ → Type 0
IsFirstUnread wanted old new number = IsFirst (λ file. IsTrue old.is_visible → IsThere old file) (IsUnread new) wanted number

-- Why the files weren't all read: reading one counted a fault, behind those that were read in order, or there was no memory.
abbrev pub HasReadFault : List CommandFile → FilesSight → FilesSight → Fault → Type 0
HasReadFault wanted old new (File number) =
    IsFirstUnread wanted old new number × Risen old.faults new.faults × ReadsInOrder wanted (Some (File number)) old new
HasReadFault wanted old new Memory = ⊤
HasReadFault wanted old new _ = ⊥

-- Why there are no requests: so it was, or all files are there and were read with no fault, and one is bad.
abbrev pub HasFileFault : List CommandFile → FilesSight → FilesSight → Fault → Type 0
HasFileFault wanted old new (Text number row field) =
    IsFirstBad wanted old number row field × (IsTrue old.is_visible → All (IsThere old) wanted) × (new.faults ≡ old.faults)
HasFileFault wanted old new fault = HasReadFault wanted old new fault

-- a file couldn't be read, or there was no memory
abbrev pub StoppedReading : Fault → Type 0
StoppedReading (File number) = ⊤
StoppedReading Memory = ⊤
StoppedReading _ = ⊥

-- the requests of each file, by its name
abbrev pub AreOfFiles : FilesSight → List (List ℕ) → Vec (Vec Request) → Type 0
AreOfFiles files names lists = AllZip (OfFile files) names (requests_in lists.items)

-- the numbers of each request are in their ranges
abbrev pub AreInRange : Vec (Vec Request) → Type 0
AreInRange lists = All (All IsInRange) (requests_in lists.items)

-- no file has more than 100,000 requests
abbrev pub AreFew : Vec (Vec Request) → Type 0
AreFew lists = All (λ list. length list ≤ 100000) (requests_in lists.items)

-- why not all files were read, of files seen so
abbrev pub IsReadFault : {F : Type 0} → (F → FilesSight) → List CommandFile → F → F → Fault → Type 0
IsReadFault sight wanted old new fault = HasReadFault wanted (sight old) (sight new) fault

-- why there are no requests, of files seen so
abbrev pub IsFileFault : {F : Type 0} → (F → FilesSight) → List CommandFile → F → F → Fault → Type 0
IsFileFault sight wanted old new fault = HasFileFault wanted (sight old) (sight new) fault

-- where the files are visible, one that isn't there ends the reading, before any is parsed
abbrev pub MissingStops : {X : Type 0} → FilesSight → List CommandFile → Result X Fault → Type 0
MissingStops files wanted result = IsTrue files.is_visible → MissesFile wanted files → IsErrAnd result StoppedReading

-- where the files are visible, a bad one is never passed over
abbrev pub BadStops : {X : Type 0} → FilesSight → List CommandFile → Result X Fault → Type 0
BadStops files wanted result = IsTrue files.is_visible → HasBadFile wanted files → IsErr result
