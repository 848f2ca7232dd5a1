-- What command words mean.
use Rattle.std.specs.Prelude.{ℕ, ◌≡◌, ◌<◌, ◌≤◌, ◌^◌, ◌-◌, ⊤, Bool, true, false, not, ◌==◌, ◌&&◌, Option, Some, None, IfSome, if◌then◌else◌, List, [], ◌∷◌, length, drop, map, codes}
use Rattle.std.specs.List.{list_all}
use Rattle.std.specs.Option.{option_map}
use Rattle.std.specs.Rc.{rc_str_bytes}
use Rattle.std.specs.Str.{bytes_eq}
use Rattle.dude_base.specs.declared.limits.TheConstants.{MAX_RINGS}
use Rattle.tatp_text.specs.Number.{number_in}
use Rattle.command_edges.specs.declared.command.Command.{Command}
use Rattle.command_edges.specs.declared.command.Command.TheVariants.{Fresh, Format, Run, Stream, Recover, Dump, Locate, Drive, Audit, Ship, Follow}

-- the command that words mean, with its numbers and the names of its files
pub data Meaning : Type 0 where
  -- format a medium for so many subscribers, and run this file
  FreshRun : (subscribers : ℕ) (file : List ℕ) → Meaning
  -- format a medium with these sizes, and with an index of the locations or without
  FormatImage : (indexed : Bool) (subscribers calls rings cells : ℕ) → Meaning
  -- run these files, over so many frames and locks where they are said
  RunFiles : (frames locks : Option ℕ) (files : List (List ℕ)) → Meaning
  -- do the same, and print each reply while others are still to come
  StreamFiles : (frames locks : Option ℕ) (files : List (List ℕ)) → Meaning
  -- recover the image
  RecoverImage : Meaning
  -- print the tables of the image
  DumpTables : Meaning
  -- print the subscribers whose locations are from the low to the high one, at most so many
  LocateRange : (low high limit : ℕ) → Meaning
  -- run so many requests of each of so many files, made from this seed
  DriveLoad : (seed count files : ℕ) → Meaning
  -- say whether this file is the printed run of these files
  AuditRun : (printed : List ℕ) (files : List (List ℕ)) → Meaning
  -- run these files, and print the bundles of the log as packets
  ShipFiles : (files : List (List ℕ)) → Meaning
  -- apply the packets of these files to the image
  FollowFiles : (files : List (List ℕ)) → Meaning

-- ---- words that are numbers and names

-- the number from the least to the greatest that a word says in one to twenty decimal digits
abbrev pub word_number : ℕ → ℕ → List ℕ → Option ℕ
word_number least greatest word = number_in 20 least greatest word

-- the name of a file: it isn't empty, and doesn't begin with `-`
abbrev pub is_file_name : List ℕ → Bool
is_file_name [] = false
is_file_name (first ∷ more) = not (first == 45)

-- one or more names of files
abbrev pub are_file_names : List (List ℕ) → Bool
are_file_names [] = false
are_file_names (file ∷ more) = is_file_name file && list_all is_file_name more

-- ---- what each command means by the words behind its name

-- `fresh S FILE`
abbrev pub fresh_of : List (List ℕ) → Option Meaning
fresh_of (subscribers ∷ file ∷ []) =
    if is_file_name file then option_map (λ number. FreshRun number file) (word_number 1 10_000 subscribers) else None
fresh_of _ = None

-- an image's sizes, where each is there
abbrev pub format_with : (indexed : Bool) (subscribers calls rings cells : Option ℕ) → Option Meaning
format_with indexed (Some subscribers) (Some calls) (Some rings) (Some cells) = Some (FormatImage indexed subscribers calls rings cells)
format_with indexed _ _ _ _ = None

-- `format S C N CELLS`, and `xformat S C N CELLS` where the image is indexed
abbrev pub format_of : Bool → List (List ℕ) → Option Meaning
format_of indexed (subscribers ∷ calls ∷ rings ∷ cells ∷ []) =
    format_with indexed (word_number 1 10_000 subscribers) (word_number 1 120_000 calls) (word_number 1 MAX_RINGS rings) (word_number 16 4_096 cells)
format_of indexed _ = None

-- what stands behind `run` and `stream`: the words of the options' numbers, where they are there, and the files
pub record RunWords : Type 0 where
  pub frames : Option (List ℕ)
  pub locks : Option (List ℕ)
  pub files : List (List ℕ)

-- the number word of an option that may stand in front, and the words behind it
abbrev pub in_front : List ℕ → List (List ℕ) → Option (List ℕ) × List (List ℕ)
in_front option (word ∷ number ∷ more) = if bytes_eq word option then (Some number, more) else (None, word ∷ number ∷ more)
in_front option words = (None, words)

-- behind `--frames F`: perhaps `--locks L`, then the files
abbrev pub behind_frames : List ℕ → List (List ℕ) → RunWords
behind_frames frames words = let given = in_front (codes "--locks") words in record { frames = Some frames; locks = given.0; files = given.1 }

-- behind `--locks L`: perhaps `--frames F`, then the files
abbrev pub behind_locks : List ℕ → List (List ℕ) → RunWords
behind_locks locks words = let given = in_front (codes "--frames") words in record { frames = given.0; locks = Some locks; files = given.1 }

-- `--frames F` and `--locks L`, each at most once in either order, then the files
abbrev pub run_words : List (List ℕ) → RunWords
run_words (option ∷ number ∷ more) =
    if bytes_eq option (codes "--frames") then behind_frames number more
    else (if bytes_eq option (codes "--locks") then behind_locks number more
    else record { frames = None; locks = None; files = option ∷ number ∷ more })
run_words files = record { frames = None; locks = None; files = files }

-- a number that may be left out: none where its word is, and refused where that word isn't one in the limits
abbrev pub optional_number : ℕ → ℕ → Option (List ℕ) → Option (Option ℕ)
optional_number least greatest None = Some None
optional_number least greatest (Some word) = option_map Some (word_number least greatest word)

-- what `run` and `stream` are given: the numbers of the options that stand there, and the files
pub record RunArguments : Type 0 where
  pub frames : Option ℕ
  pub locks : Option ℕ
  pub files : List (List ℕ)

-- these arguments, where the options' numbers are lawful and the files are names, of which there is at least one
abbrev pub run_with : (frames locks : Option (Option ℕ)) → List (List ℕ) → Option RunArguments
run_with (Some frames) (Some locks) files = if are_file_names files then Some (record { frames = frames; locks = locks; files = files }) else None
run_with _ _ files = None

-- the arguments that these words are: 1 to 32,768 frames and 1 to 65,536 locks
abbrev pub run_given : RunWords → Option RunArguments
run_given given = run_with (optional_number 1 32_768 given.frames) (optional_number 1 65_536 given.locks) given.files

-- `--frames F` and `--locks L` each at most once in either order, then one or more FILE
abbrev pub run_arguments : List (List ℕ) → Option RunArguments
run_arguments words = run_given (run_words words)

-- `run` with its arguments
abbrev pub run_of : List (List ℕ) → Option Meaning
run_of words = option_map (λ given. RunFiles given.frames given.locks given.files) (run_arguments words)

-- `stream` with the same
abbrev pub stream_of : List (List ℕ) → Option Meaning
stream_of words = option_map (λ given. StreamFiles given.frames given.locks given.files) (run_arguments words)

-- a command with no word behind its name
abbrev pub alone : Meaning → List (List ℕ) → Option Meaning
alone meaning [] = Some meaning
alone meaning (word ∷ more) = None

-- a least and a greatest number
abbrev pub Limits : Type 0
Limits = ℕ × ℕ

-- what three numbers make, where each is there
abbrev pub with_three : (ℕ → ℕ → ℕ → Meaning) → (first second third : Option ℕ) → Option Meaning
with_three made (Some first) (Some second) (Some third) = Some (made first second third)
with_three made _ _ _ = None

-- three words that are numbers, each in its limits
abbrev pub of_three : (ℕ → ℕ → ℕ → Meaning) → (p q r : Limits) → List (List ℕ) → Option Meaning
of_three made p q r (first ∷ second ∷ third ∷ []) =
    with_three made (word_number p.0 p.1 first) (word_number q.0 q.1 second) (word_number r.0 r.1 third)
of_three made p q r _ = None

-- `locate LOW HIGH LIMIT`
abbrev pub locate_of : List (List ℕ) → Option Meaning
locate_of words = of_three LocateRange (0, 4_294_967_295) (0, 4_294_967_295) (1, 10_000) words

-- `drive SEED COUNT FILES`
abbrev pub drive_of : List (List ℕ) → Option Meaning
drive_of words = of_three DriveLoad (0, 2 ^ 64 - 1) (0, 99_999) (1, MAX_RINGS) words

-- `audit PRINTED FILE..`
abbrev pub audit_of : List (List ℕ) → Option Meaning
audit_of [] = None
audit_of (printed ∷ files) = if is_file_name printed && are_file_names files then Some (AuditRun printed files) else None

-- `ship FILE..`
abbrev pub ship_of : List (List ℕ) → Option Meaning
ship_of files = if are_file_names files then Some (ShipFiles files) else None

-- `follow FILE..`
abbrev pub follow_of : List (List ℕ) → Option Meaning
follow_of files = if are_file_names files then Some (FollowFiles files) else None

-- ---- all commands

-- the first word is the command; each list of words that isn't one of these is refused
abbrev pub meaning_of : List (List ℕ) → Option Meaning
meaning_of [] = None
meaning_of (name ∷ words) =
    if bytes_eq name (codes "fresh") then fresh_of words
    else (if bytes_eq name (codes "format") then format_of false words
    else (if bytes_eq name (codes "xformat") then format_of true words
    else (if bytes_eq name (codes "run") then run_of words
    else (if bytes_eq name (codes "stream") then stream_of words
    else (if bytes_eq name (codes "recover") then alone RecoverImage words
    else (if bytes_eq name (codes "dump") then alone DumpTables words
    else (if bytes_eq name (codes "locate") then locate_of words
    else (if bytes_eq name (codes "drive") then drive_of words
    else (if bytes_eq name (codes "audit") then audit_of words
    else (if bytes_eq name (codes "ship") then ship_of words
    else (if bytes_eq name (codes "follow") then follow_of words
    else None)))))))))))

-- what a command of the code says
abbrev pub meaning_of_command : Command → Meaning
meaning_of_command (Fresh subscribers file) = FreshRun subscribers file.now
meaning_of_command (Format indexed subscribers calls rings cells) = FormatImage indexed subscribers calls rings cells
meaning_of_command (Run frames locks files) = RunFiles frames locks (map rc_str_bytes files.now)
meaning_of_command (Stream frames locks files) = StreamFiles frames locks (map rc_str_bytes files.now)
meaning_of_command Recover = RecoverImage
meaning_of_command Dump = DumpTables
meaning_of_command (Locate low high limit) = LocateRange low high limit
meaning_of_command (Drive seed count files) = DriveLoad seed count files
meaning_of_command (Audit printed files) = AuditRun printed.now (map rc_str_bytes files.now)
meaning_of_command (Ship files) = ShipFiles (map rc_str_bytes files.now)
meaning_of_command (Follow files) = FollowFiles (map rc_str_bytes files.now)

-- a command of the code, or none, means this
abbrev pub HasMeaning : Option Meaning → Option Command → Type 0
HasMeaning meaning command = option_map meaning_of_command command ≡ meaning

-- what words mean behind the first one, which names the command
abbrev pub behind_name : (List (List ℕ) → Option Meaning) → List (List ℕ) → Option Meaning
behind_name meaning words = meaning (drop 1 words)

-- a command with no word behind its name, or none
abbrev pub IsAlone : List (List ℕ) → Command → Option Command → Type 0
IsAlone words command result = HasMeaning (behind_name (alone (meaning_of_command command)) words) result

-- a number is from the least to the greatest
abbrev pub IsBetween : ℕ → ℕ → ℕ → Type 0
IsBetween least greatest number = (least ≤ number) × (number ≤ greatest)

-- the numbers of a command are in their limits, and `run`, `stream`, `audit`, `ship` and `follow` have a file
abbrev pub IsInLimits : Command → Type 0
IsInLimits (Fresh subscribers file) = IsBetween 1 10_000 subscribers
IsInLimits (Format indexed subscribers calls rings cells) =
    IsBetween 1 10_000 subscribers × IsBetween 1 120_000 calls × IsBetween 1 MAX_RINGS rings × IsBetween 16 4_096 cells
IsInLimits (Run frames locks files) =
    IfSome frames (IsBetween 1 32_768) × IfSome locks (IsBetween 1 65_536) × (0 < length files.now)
IsInLimits (Stream frames locks files) =
    IfSome frames (IsBetween 1 32_768) × IfSome locks (IsBetween 1 65_536) × (0 < length files.now)
IsInLimits Recover = ⊤
IsInLimits Dump = ⊤
IsInLimits (Locate low high limit) = (low < 2 ^ 32) × (high < 2 ^ 32) × IsBetween 1 10_000 limit
IsInLimits (Drive seed count files) = (seed < 2 ^ 64) × (count ≤ 99_999) × IsBetween 1 MAX_RINGS files
IsInLimits (Audit printed files) = 0 < length files.now
IsInLimits (Ship files) = 0 < length files.now
IsInLimits (Follow files) = 0 < length files.now
