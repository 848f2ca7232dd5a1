-- What texts that were read say of their files.
use Rattle.std.proofs.Common.{◌≡◌, ℕ, zero, suc, ◌+◌, ◌<◌, Bool, true, false, Option, Some, None, IsTrue, List, [], ◌∷◌, ◌++◌, length, get_or, take, refl, sym, ◌∙◌, ap, subst, arith}
use Rattle.std.specs.Prelude.{Result, Ok, Err, All, IfErr, IfOk, IsSome, IsSomeAnd, IsOk, if◌then◌else◌, nat_lt}
use Rattle.std.specs.Global.{Vec}
use Rattle.std.specs.List.{AllZip}
use Rattle.std.proofs.lemmas.Bool.Decides.{nat_tests}
use Rattle.std.proofs.lemmas.List.Elements.{All-append, All-cons, All-contains, All-nil}
use Rattle.tatp_model.specs.declared.request.Request.{Request}
use Rattle.tatp_csv.specs.RequestFile.{Place, requests_of}
use Rattle.dude_io.specs.declared.file_text.FileText.{FileText}
use Rattle.dude_io.specs.declared.file_text.FileText.TheVariants.{Whole, TooLong}
use Rattle.dude_io.specs.FileText.{HoldsText}
use Rattle.dude_io.specs.Files.{FilesSight, FilesStay}
use Rattle.command_edges.specs.CommandFile.{CommandFile, file_limit, request_file, request_files}
use Rattle.command_edges.specs.declared.file_kind.FileKind.{FileKind}
use Rattle.command_edges.specs.declared.file_kind.FileKind.TheVariants.{Requests, Printed, Packets}
use Rattle.command_edges.specs.declared.fault.Fault.{Fault}
use Rattle.command_edges.specs.declared.fault.Fault.TheVariants.{File, Text, Memory}
use Rattle.command_edges.specs.Files.{OfFile, IsBadAs, IsBadAt, IsGoodAs, IsGoodFile, IsThere, MissesFile, HasBadFile, IsFirst, HasFileFault, HasReadFault, MissingStops}
use Rattle.command_edges.specs.Texts.{AreTextsOf, IsTextOf, meaning_of, HoldsRequests, IsTextFault, IsFirstTextFault}
use Rattle.command_edges.proofs.Firsts.{IsFirst-at, IsFirst-behind, IsFirst-mapped, IsFirst-zip}
use Rattle.command_edges.proofs.Results.{ok_value}
use Rattle.command_edges.proofs.Zips.{AllZip-firsts, AllZip-unmapped}

-- what a later sight tells of a file, the earlier one told
pub told_before : (s t : FilesSight) (file : CommandFile) (text : FileText) → FilesStay s t → IsTextOf t file text → IsTextOf s file text
told_before s t file text stays is = (λ told. rw (← stays.text told) (is.0 (rw stays.is_visible told)), is.1)

is_there : (o : Option (List ℕ)) (P : List ℕ → Type 0) → IsSomeAnd o P → IsSome o
is_there None P h = absurd h
is_there (Some x) P h = refl

pub file_is_there : (s : FilesSight) (file : CommandFile) (text : FileText) → IsTextOf s file text → IsTrue s.is_visible → IsThere s file
file_is_there s file text is told = is_there (s.text file.name) (HoldsText (file_limit file) text) (is.0 told)

pub some_is : (o : Option (List ℕ)) (x : List ℕ) → IsSomeAnd o (λ y. x ≡ y) → o ≡ Some x
some_is None x h = absurd h
some_is (Some y) x h = ap (λ (z : List ℕ). Some z) (sym h)

-- ---- good files

pub of_file : (s : FilesSight) (name : List ℕ) (text : FileText) (requests : List Request) → IsTextOf s (request_file name) text → meaning_of text ≡ Ok requests → OfFile s name requests
of_file s name (Whole bytes) requests is e = (bytes.items, e, λ told. some_is (s.text name) bytes.items (is.0 told))
of_file s name TooLong requests is e = cc e

good_file : (s : FilesSight) (name : List ℕ) (text : FileText) → IsTextOf s (request_file name) text → IsOk (meaning_of text) → IsGoodFile s (request_file name)
good_file s name text is ok = let had = ok_value (meaning_of text) ok in (had.0, of_file s name text had.0 is had.1)

-- ---- bad files

-- a text of this length
some_text : (n : ℕ) → (text : List ℕ) × (length text ≡ n)
some_text zero = ([], refl)
some_text (suc n) = let shorter = some_text n in (0 ∷ shorter.0, ap suc shorter.1)

long_text : (text : List ℕ) × (16777216 < length text)
long_text = let long = some_text 16777217 in (long.0, omega (arith, long.1))

-- a text that is too long, and that of the file where it is told
pub long_file : (tells : Bool) (o : Option (List ℕ)) → (IsTrue tells → IsSomeAnd o (λ x. 16777216 < length x)) → (text : List ℕ) × (16777216 < length text) × (IsTrue tells → o ≡ Some text)
long_file true None h = absurd (h refl)
long_file true (Some x) h = (x, h refl, λ told. refl)
long_file false o h = (long_text.0, long_text.1, λ told. cc told)

if_true : {X : Type 0} (b : Bool) (x y : X) → b ≡ true → (if b then x else y) ≡ x
if_true true x y e = refl
if_true false x y e = cc e

too_long_is_bad : (text : List ℕ) → 16777216 < length text → requests_of text ≡ Err (0, 0)
too_long_is_bad text long = if_true (nat_lt 16777216 (length text)) _ _ (grind (arith, nat_tests))

bad_at : (s : FilesSight) (name : List ℕ) (text : FileText) (row field : ℕ) → IsTextOf s (request_file name) text → meaning_of text ≡ Err (row, field) → IsBadAt s (request_file name) row field
bad_at s name (Whole bytes) row field is e = (bytes.items, e, λ told. some_is (s.text name) bytes.items (is.0 told))
bad_at s name TooLong row field is e = let long = long_file s.is_visible (s.text name) is.0 in (long.0, too_long_is_bad long.0 long.1 ∙ e, long.2)

-- no file is good and bad
not_both_as : (kind : FileKind) (s : FilesSight) (name : List ℕ) (row field : ℕ) → IsTrue s.is_visible → IsGoodAs kind s name → IsBadAs kind s name row field → ⊥
not_both_as Requests s name row field told (requests, (good, means, its)) (bad, faulty, same) =
    let one : ◌≡◌ {A = Option (List ℕ)} (Some good) (Some bad) = sym (its told) ∙ same told in
    let text : good ≡ bad = cc in
    let both : ◌≡◌ {A = Result (List Request) Place} (Ok requests) (Err (row, field)) = sym means ∙ ap requests_of text ∙ faulty in
    cc
not_both_as Printed s name row field told good bad = bad
not_both_as Packets s name row field told good bad = bad

pub not_both : (s : FilesSight) (file : CommandFile) (row field : ℕ) → IsTrue s.is_visible → IsGoodFile s file → IsBadAt s file row field → ⊥
not_both s file row field told good bad = not_both_as file.kind s file.name row field told good bad

-- ---- the files of a command

pub none_missing : (s : FilesSight) (files : List CommandFile) (texts : List FileText) → AllZip (IsTextOf s) files texts → IsTrue s.is_visible → MissesFile files s → ⊥
none_missing s files texts read told (k, file, below, is, missing) =
    let all = AllZip-firsts (IsTextOf s) (IsThere s) files texts (λ n t h. file_is_there s n t h told) read in
    gone (s.text file.name) missing (All-contains (IsThere s) files file all (k, below, is))
  where
    gone : (o : Option (List ℕ)) → o ≡ None → IsSome o → ⊥
    gone None e h = cc h
    gone (Some x) e h = cc e

-- so one that isn't there ends the reading
pub missing_stops : (s t : FilesSight) (files : List CommandFile) (r : Result (Vec FileText) Fault) → IfOk r (AreTextsOf s files) → IfErr r (HasReadFault files s t) → MissingStops s files r
missing_stops s t files (Ok texts) read cause told missing = absurd (none_missing s files texts.items read told missing)
missing_stops s t files (Err (File number)) read cause told missing = tt
missing_stops s t files (Err Memory) read cause told missing = tt
missing_stops s t files (Err fault) read cause told missing = absurd cause

-- files of requests are good
pub all_good : (s : FilesSight) (names : List (List ℕ)) (lists : List (List Request)) → AllZip (OfFile s) names lists → All (IsGoodFile s) (request_files names)
all_good s [] [] read = All-nil (IsGoodFile s)
all_good s (name ∷ names) (list ∷ lists) read = All-cons (IsGoodFile s) (request_file name) (request_files names) (list, read.0) (all_good s names lists read.1)
all_good s [] (list ∷ lists) read = absurd read
all_good s (name ∷ names) [] read = absurd read

pub none_bad : (s : FilesSight) (names : List (List ℕ)) (lists : List (List Request)) → AllZip (OfFile s) names lists → IsTrue s.is_visible → HasBadFile (request_files names) s → ⊥
none_bad s names lists read told (k, file, below, is, bad) =
    not_both s file bad.0 bad.1 told (All-contains (IsGoodFile s) (request_files names) file (all_good s names lists read) (k, below, is)) bad.2

-- the first text that gave no requests
pub first_text_fault : (before : ℕ) (texts : List FileText) (i : ℕ) (d : FileText) (lists : List (List Request)) (fault : Fault) → i < length texts
    → AllZip HoldsRequests (take i texts) lists → IsTextFault (get_or texts i d) (before + (i + 1)) fault → IsFirstTextFault before texts fault
first_text_fault before texts i d lists (Text number row field) below parsed h = (
  i + 1,
  h.0,
  IsFirst-at (λ text. IsOk (meaning_of text)) (λ text. meaning_of text ≡ Err (row, field)) texts i d below
      (AllZip-firsts HoldsRequests (λ text. IsOk (meaning_of text)) (take i texts) lists (λ text list holds. is_ok (meaning_of text) list holds.meant) parsed) h.1,
)
  where
    is_ok : (r : Result (List Request) Place) (list : List Request) → r ≡ Ok list → IsOk r
    is_ok r list e = subst IsOk (sym e) refl
first_text_fault before texts i d lists Memory below parsed h = tt
first_text_fault before texts i d lists fault below parsed h = absurd h

-- and so the first file, behind others that are good
pub file_fault : (s t : FilesSight) (earlier : List CommandFile) (names : List (List ℕ)) (texts : List FileText) (fault : Fault) → t.faults ≡ s.faults
    → All (IsGoodFile s) earlier → (IsTrue s.is_visible → All (IsThere s) earlier)
    → AllZip (IsTextOf s) (request_files names) texts → IsFirstTextFault (length earlier) texts fault → HasFileFault (earlier ++ request_files names) s t fault
file_fault s t earlier names texts (Text number row field) calm good there read h = (
  subst (λ (n : ℕ). IsFirst (IsGoodFile s) (λ file. IsBadAt s file row field) (earlier ++ request_files names) n) (sym h.1)
      (IsFirst-behind (IsGoodFile s) (λ file. IsBadAt s file row field) earlier (request_files names) h.0 good
      (IsFirst-mapped request_file (IsGoodFile s) (λ file. IsBadAt s file row field) names h.0
      (IsFirst-zip (λ name text. IsTextOf s (request_file name) text) (λ text. IsOk (meaning_of text)) (λ text. meaning_of text ≡ Err (row, field))
      (λ name. IsGoodFile s (request_file name)) (λ name. IsBadAt s (request_file name) row field)
      (good_file s) (λ name text. bad_at s name text row field) names texts h.0 (AllZip-unmapped (IsTextOf s) request_file names texts read) h.2))),
  λ told. All-append (IsThere s) earlier (request_files names) (there told) (AllZip-firsts (IsTextOf s) (IsThere s) (request_files names) texts (λ n x is. file_is_there s n x is told) read),
  calm,
)
file_fault s t earlier names texts Memory calm good there read h = tt
file_fault s t earlier names texts fault calm good there read h = absurd h
