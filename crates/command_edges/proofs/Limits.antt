-- What words mean is in the limits.
use Rattle.std.proofs.Common.{ℕ, ◌≡◌, ◌<◌, ◌≤◌, ◌^◌, ◌-◌, Bool, true, false, List, [], ◌∷◌, Option, Some, None, length, refl, sym, subst, arith}
use Rattle.std.specs.Prelude.{⊤, IfOk, IfSome, Result, Ok, Err, if◌then◌else◌, ◌&&◌, nat_le}
use Rattle.std.specs.Option.{option_map}
use Rattle.std.specs.Str.Parse.{digits_value}
use Rattle.std.specs.Rc.{rc_str_bytes}
use Rattle.std.proofs.lemmas.Bool.Decides.{nat_tests}
use Rattle.std.proofs.lemmas.Grind.{common_steps}
use Rattle.std.proofs.lemmas.List.{length-map}
use Rattle.dude_base.specs.declared.limits.TheConstants.{MAX_RINGS}
use Rattle.tatp_text.specs.Number.{is_decimal}
use Rattle.command_edges.specs.declared.command.Command.{Command}
use Rattle.command_edges.specs.declared.command.Command.TheVariants as command
use Rattle.command_edges.specs.Command.{Meaning, FreshRun, FormatImage, RunFiles, StreamFiles, RunArguments, RecoverImage, DumpTables, LocateRange, DriveLoad, AuditRun, ShipFiles, FollowFiles, IsBetween, IsInLimits, Limits, alone, are_file_names, audit_of, drive_of, follow_of, format_of, format_with, fresh_of, is_file_name, locate_of, meaning_of_command, of_three, optional_number, run_arguments, run_of, run_with, run_words, ship_of, stream_of, with_three, word_number}

-- `IsInLimits`, of a meaning
abbrev pub IsLawful : Meaning → Type 0
IsLawful (FreshRun subscribers file) = IsBetween 1 10_000 subscribers
IsLawful (FormatImage indexed subscribers calls rings cells) =
    IsBetween 1 10_000 subscribers × IsBetween 1 120_000 calls × IsBetween 1 MAX_RINGS rings × IsBetween 16 4_096 cells
IsLawful (RunFiles frames locks files) = IfSome frames (IsBetween 1 32_768) × IfSome locks (IsBetween 1 65_536) × (0 < length files)
IsLawful (StreamFiles frames locks files) = IfSome frames (IsBetween 1 32_768) × IfSome locks (IsBetween 1 65_536) × (0 < length files)
IsLawful RecoverImage = ⊤
IsLawful DumpTables = ⊤
IsLawful (LocateRange low high limit) = (low < 2 ^ 32) × (high < 2 ^ 32) × IsBetween 1 10_000 limit
IsLawful (DriveLoad seed count files) = (seed < 2 ^ 64) × (count ≤ 99_999) × IsBetween 1 MAX_RINGS files
IsLawful (AuditRun printed files) = 0 < length files
IsLawful (ShipFiles files) = 0 < length files
IsLawful (FollowFiles files) = 0 < length files

abbrev pub AreLawful : Option Meaning → Type 0
AreLawful meaning = IfSome meaning IsLawful

either-lawful : (b : Bool) (x y : Option Meaning) → AreLawful x → AreLawful y → AreLawful (if b then x else y)
either-lawful true x y p q = p
either-lawful false x y p q = q

-- a number that is read is in its limits
tested : (b : Bool) (n low high : ℕ) → (b ≡ true → IsBetween low high n) → IfSome (if b then Some n else None) (IsBetween low high)
tested true n low high h = h refl
tested false n low high h = tt

in-between : (b : Bool) (low high n : ℕ) → (b && nat_le low n && nat_le n high) ≡ true → IsBetween low high n
in-between b low high n h =
    let low_enough : low ≤ n = grind (arith, common_steps, nat_tests) in
    let high_enough : n ≤ high = grind (arith, common_steps, nat_tests) in
    (low_enough, high_enough)

word-between : (low high : ℕ) (word : List ℕ) → IfSome (word_number low high word) (IsBetween low high)
word-between low high word =
    tested (is_decimal 20 word && nat_le low (digits_value 10 word) && nat_le (digits_value 10 word) high) (digits_value 10 word) low high
    (in-between (is_decimal 20 word) low high (digits_value 10 word))

fresh-mapped : (number : Option ℕ) (file : List ℕ) → IfSome number (IsBetween 1 10_000) → AreLawful (option_map (λ n. FreshRun n file) number)
fresh-mapped (Some n) file h = h
fresh-mapped None file h = tt

pub fresh-lawful : (words : List (List ℕ)) → AreLawful (fresh_of words)
fresh-lawful [] = tt
fresh-lawful (s ∷ []) = tt
fresh-lawful (s ∷ file ∷ []) =
    either-lawful (is_file_name file) (option_map (λ n. FreshRun n file) (word_number 1 10_000 s)) None
    (fresh-mapped (word_number 1 10_000 s) file (word-between 1 10_000 s)) tt
fresh-lawful (s ∷ file ∷ x ∷ more) = tt

format-with : (indexed : Bool) (s c n k : Option ℕ) → IfSome s (IsBetween 1 10_000) → IfSome c (IsBetween 1 120_000) → IfSome n (IsBetween 1 MAX_RINGS) → IfSome k (IsBetween 16 4_096)
    → AreLawful (format_with indexed s c n k)
format-with indexed (Some s) (Some c) (Some n) (Some k) p q r t = (p, q, r, t)
format-with indexed None c n k p q r t = tt
format-with indexed (Some s) None n k p q r t = tt
format-with indexed (Some s) (Some c) None k p q r t = tt
format-with indexed (Some s) (Some c) (Some n) None p q r t = tt

pub format-lawful : (indexed : Bool) (words : List (List ℕ)) → AreLawful (format_of indexed words)
format-lawful indexed [] = tt
format-lawful indexed (s ∷ []) = tt
format-lawful indexed (s ∷ c ∷ []) = tt
format-lawful indexed (s ∷ c ∷ n ∷ []) = tt
format-lawful indexed (s ∷ c ∷ n ∷ k ∷ []) =
    format-with indexed (word_number 1 10_000 s) (word_number 1 120_000 c) (word_number 1 MAX_RINGS n) (word_number 16 4_096 k)
    (word-between 1 10_000 s) (word-between 1 120_000 c) (word-between 1 MAX_RINGS n) (word-between 16 4_096 k)
format-lawful indexed (s ∷ c ∷ n ∷ k ∷ l ∷ more) = tt

optional-mapped : (low high : ℕ) (number : Option ℕ) → IfSome number (IsBetween low high)
    → IfSome (option_map Some number) (λ given. IfSome given (IsBetween low high))
optional-mapped low high (Some n) h = h
optional-mapped low high None h = tt

optional-between : (low high : ℕ) (word : Option (List ℕ)) → IfSome (optional_number low high word) (λ given. IfSome given (IsBetween low high))
optional-between low high None = tt
optional-between low high (Some word) = optional-mapped low high (word_number low high word) (word-between low high word)

-- what `run` and `stream` are given
abbrev AreArguments : RunArguments → Type 0
AreArguments given = IfSome given.frames (IsBetween 1 32_768) × IfSome given.locks (IsBetween 1 65_536) × (0 < length given.files)

either-arguments : (b : Bool) (x : RunArguments) → AreArguments x → IfSome (if b then Some x else None) AreArguments
either-arguments true x p = p
either-arguments false x p = tt

run-with : (frames locks : Option (Option ℕ)) (files : List (List ℕ))
    → IfSome frames (λ given. IfSome given (IsBetween 1 32_768)) → IfSome locks (λ given. IfSome given (IsBetween 1 65_536))
    → IfSome (run_with frames locks files) AreArguments
run-with None locks files p q = tt
run-with (Some f) None files p q = tt
run-with (Some f) (Some l) [] p q = tt
run-with (Some f) (Some l) (file ∷ files) p q =
    either-arguments (are_file_names (file ∷ files)) (record { frames = f; locks = l; files = file ∷ files }) (p, q, omega arith)

arguments-lawful : (words : List (List ℕ)) → IfSome (run_arguments words) AreArguments
arguments-lawful words =
    let given = run_words words in
    run-with (optional_number 1 32_768 given.frames) (optional_number 1 65_536 given.locks) given.files
    (optional-between 1 32_768 given.frames) (optional-between 1 65_536 given.locks)

mapped-lawful : (meaning : RunArguments → Meaning) (given : Option RunArguments) → ((x : RunArguments) → AreArguments x → IsLawful (meaning x)) → IfSome given AreArguments
    → AreLawful (option_map meaning given)
mapped-lawful meaning (Some x) lawful h = lawful x h
mapped-lawful meaning None lawful h = tt

pub run-lawful : (words : List (List ℕ)) → AreLawful (run_of words)
run-lawful words = mapped-lawful (λ given. RunFiles given.frames given.locks given.files) (run_arguments words) (λ x h. h) (arguments-lawful words)

pub stream-lawful : (words : List (List ℕ)) → AreLawful (stream_of words)
stream-lawful words = mapped-lawful (λ given. StreamFiles given.frames given.locks given.files) (run_arguments words) (λ x h. h) (arguments-lawful words)

-- three numbers in their limits make what is lawful
module _ (made : ℕ → ℕ → ℕ → Meaning) (p q r : Limits)
    (lawful-made : (x y z : ℕ) → IsBetween p.0 p.1 x → IsBetween q.0 q.1 y → IsBetween r.0 r.1 z → IsLawful (made x y z)) where
  three-with : (s c n : Option ℕ) → IfSome s (IsBetween p.0 p.1) → IfSome c (IsBetween q.0 q.1) → IfSome n (IsBetween r.0 r.1)
      → AreLawful (with_three made s c n)
  three-with (Some s) (Some c) (Some n) first second third = lawful-made s c n first second third
  three-with None c n first second third = tt
  three-with (Some s) None n first second third = tt
  three-with (Some s) (Some c) None first second third = tt

  three-lawful : (words : List (List ℕ)) → AreLawful (of_three made p q r words)
  three-lawful [] = tt
  three-lawful (s ∷ []) = tt
  three-lawful (s ∷ c ∷ []) = tt
  three-lawful (s ∷ c ∷ n ∷ []) =
      three-with (word_number p.0 p.1 s) (word_number q.0 q.1 c) (word_number r.0 r.1 n)
      (word-between p.0 p.1 s) (word-between q.0 q.1 c) (word-between r.0 r.1 n)
  three-lawful (s ∷ c ∷ n ∷ x ∷ more) = tt

-- a number up to one below a limit
below : (n least greatest limit : ℕ) → greatest < limit → IsBetween least greatest n → n < limit
below n least greatest limit fits within =
    let most = within.1 in
    omega arith

pub drive-lawful : (words : List (List ℕ)) → AreLawful (drive_of words)
drive-lawful words =
    three-lawful DriveLoad (0, 2 ^ 64 - 1) (0, 99_999) (1, MAX_RINGS)
    (λ seed count files p q r. (below seed 0 (2 ^ 64 - 1) (2 ^ 64) (omega arith) p, q.1, r)) words

pub locate-lawful : (words : List (List ℕ)) → AreLawful (locate_of words)
locate-lawful words =
    three-lawful LocateRange (0, 4_294_967_295) (0, 4_294_967_295) (1, 10_000)
    (λ low high limit p q r. (below low 0 4_294_967_295 (2 ^ 32) (omega arith) p, below high 0 4_294_967_295 (2 ^ 32) (omega arith) q, r)) words

none-lawful : (b : Bool) (x : Option Meaning) → AreLawful (if b && false then x else None)
none-lawful true x = tt
none-lawful false x = tt

pub audit-lawful : (words : List (List ℕ)) → AreLawful (audit_of words)
audit-lawful [] = tt
audit-lawful (printed ∷ []) = none-lawful (is_file_name printed) (Some (AuditRun printed []))
audit-lawful (printed ∷ file ∷ files) =
    either-lawful (is_file_name printed && are_file_names (file ∷ files)) (Some (AuditRun printed (file ∷ files))) None (omega arith) tt

pub ship-lawful : (words : List (List ℕ)) → AreLawful (ship_of words)
ship-lawful [] = tt
ship-lawful (file ∷ files) = either-lawful (are_file_names (file ∷ files)) (Some (ShipFiles (file ∷ files))) None (omega arith) tt

pub follow-lawful : (words : List (List ℕ)) → AreLawful (follow_of words)
follow-lawful [] = tt
follow-lawful (file ∷ files) = either-lawful (are_file_names (file ∷ files)) (Some (FollowFiles (file ∷ files))) None (omega arith) tt

pub alone-lawful : (meaning : Meaning) (words : List (List ℕ)) → IsLawful meaning → AreLawful (alone meaning words)
alone-lawful meaning [] h = h
alone-lawful meaning (word ∷ more) h = tt

in-limits : (c : Command) → IsLawful (meaning_of_command c) → IsInLimits c
in-limits (command.Fresh s file) h = h
in-limits (command.Format indexed s c n k) h = h
in-limits (command.Run frames locks files) h =
    let same = length-map files.now rc_str_bytes in
    let some = h.2 in
    (h.0, h.1, omega arith)
in-limits (command.Stream frames locks files) h =
    let same = length-map files.now rc_str_bytes in
    let some = h.2 in
    (h.0, h.1, omega arith)
in-limits command.Recover h = tt
in-limits command.Dump h = tt
in-limits (command.Locate low high limit) h = h
in-limits (command.Drive s c n) h = h
in-limits (command.Audit printed files) h =
    let same = length-map files.now rc_str_bytes in
    omega arith
in-limits (command.Ship files) h =
    let same = length-map files.now rc_str_bytes in
    omega arith
in-limits (command.Follow files) h =
    let same = length-map files.now rc_str_bytes in
    omega arith

-- a command that means something lawful is in the limits
pub limits-in : (c : Option Command) (m : Option Meaning) → AreLawful m → option_map meaning_of_command c ≡ m → IfSome c IsInLimits
limits-in None m h e = tt
limits-in (Some c) m h e = in-limits c (subst AreLawful (sym e) h)

pub limits-if-ok : {E : Type 0} (r : Result (Option Command) E) (m : Option Meaning) → AreLawful m
    → IfOk r (λ c. option_map meaning_of_command c ≡ m) → IfOk r (λ c. IfSome c IsInLimits)
limits-if-ok (Ok c) m h e = limits-in c m h e
limits-if-ok (Err e) m h x = tt

-- the numbers of each command are in their limits
pub ruleset lawful = (limits-if-ok, limits-in, fresh-lawful, format-lawful, run-lawful, stream-lawful, locate-lawful, drive-lawful, audit-lawful, ship-lawful, follow-lawful, alone-lawful)
