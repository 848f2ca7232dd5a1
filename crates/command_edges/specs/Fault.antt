-- The faults: the status of each, and the line that it prints.
use Rattle.std.specs.Prelude.{ℕ, Option, Some, None, List, [], ◌∷◌, ◌++◌, codes, decimal}
use Rattle.command_edges.specs.declared.fault.Fault.{Fault}
use Rattle.command_edges.specs.declared.fault.Fault.TheVariants.{Usage, File, Text, Small, TooFew, Unformatted, Damaged, NotDb, ManyFiles, Frames, FewSubscribers, Numbers, Device, Output, Memory, Audit, Strange}

-- the status that a command ends with
abbrev pub status_of : Option Fault → ℕ
status_of None = 0
status_of (Some Usage) = 2
status_of (Some (File _)) = 3
status_of (Some (Text _ _ _)) = 4
status_of (Some (Small _ _)) = 5
status_of (Some (TooFew _ _)) = 5
status_of (Some Unformatted) = 5
status_of (Some (Damaged _)) = 5
status_of (Some (NotDb _)) = 5
status_of (Some (ManyFiles _ _)) = 5
status_of (Some (Frames _ _)) = 5
status_of (Some (FewSubscribers _ _)) = 5
status_of (Some (Numbers _ _)) = 9
status_of (Some Device) = 6
status_of (Some Output) = 7
status_of (Some Memory) = 8
status_of (Some (Audit _)) = 10
status_of (Some (Strange _ _)) = 11

-- what a fault prints
abbrev pub fault_words : Fault → List ℕ
fault_words Usage = codes "usage"
fault_words (File file) = codes "file " ++ decimal file
fault_words (Text file row field) =
    codes "file " ++ decimal file ++ codes " record " ++ decimal row ++ codes " field " ++ decimal field
fault_words (Small has needs) = codes "too small: has " ++ decimal has ++ codes ", needs " ++ decimal needs
fault_words (TooFew rows calls) =
    codes "too few calls: " ++ decimal rows ++ codes " rows, " ++ decimal calls ++ codes " calls"
fault_words Unformatted = codes "unformatted"
fault_words (Damaged line) = codes "damaged line " ++ decimal line
fault_words (NotDb word) = codes "not a database, word " ++ decimal word
fault_words (ManyFiles files rings) =
    codes "too many files: " ++ decimal files ++ codes " files, " ++ decimal rings ++ codes " rings"
fault_words (Frames frames pages) = codes "frames " ++ decimal frames ++ codes ", pages " ++ decimal pages
fault_words (FewSubscribers subscribers files) =
    codes "too few subscribers: " ++ decimal subscribers ++ codes " subscribers, " ++ decimal files ++ codes " files"
fault_words (Numbers number requests) =
    codes "numbers: " ++ decimal number ++ codes ", " ++ decimal requests ++ codes " requests"
fault_words Device = codes "device"
fault_words Output = codes "output"
fault_words Memory = codes "memory"
fault_words (Audit line) = codes "audit line " ++ decimal line
fault_words (Strange file packet) = codes "strange packet " ++ decimal packet ++ codes " of file " ++ decimal file

-- the line of a fault: its text, and LF
abbrev pub fault_line : Fault → List ℕ
fault_line fault = fault_words fault ++ 10 ∷ []
