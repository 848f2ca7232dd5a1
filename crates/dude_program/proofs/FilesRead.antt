-- What is known of files that were read.
use Rattle.std.proofs.Common.{◌≡◌, ℕ, ◌+◌, ◌<◌, ◌≤◌, Bool, true, false, IsTrue, List, [], ◌∷◌, length, get_or, inl, inr, refl, sym, ap, ◌∙◌, subst, arith, Option, Some, None, IsSome, Result, Ok, Err, Vec, Global}
use Rattle.std.specs.Prelude.{if◌then◌else◌, nat_lt}
use Rattle.std.specs.List.{All, AllZip, list_all}
use Rattle.std.proofs.lemmas.Bool.Decides.{nat_tests}
use Rattle.std.proofs.lemmas.List.{length-append, length-map, get_or_append_left}
use Rattle.std.proofs.lemmas.List.Elements.{All-cons, All-nil}
use Rattle.std.proofs.lemmas.Slice.Zip.{AllZip-long}
use Rattle.std.proofs.Math.Seq.{get_or-append_seam}
use Rattle.tatp_model.specs.declared.request.Request.{Request}
use Rattle.tatp_model.specs.Files.{requests_in}
use Rattle.tatp_csv.specs.RequestFile.{requests_of}
use Rattle.dude_io.specs.Files.{FilesSight}
use Rattle.command_edges.specs.CommandFile.{CommandFile, IsInLimit, IsInLimitAs, is_judged_first, packet_files, request_file, request_files}
use Rattle.command_edges.specs.declared.file_kind.FileKind.{FileKind}
use Rattle.command_edges.specs.declared.file_kind.FileKind.TheVariants.{Requests, Printed, Packets}
use Rattle.command_edges.specs.Files.{IsBadAs, IsBadAt, IsFirst, IsFirstBad, IsGoodAs, IsGoodFile, MissesFile, OfFile}
use Rattle.command_edges.specs.Reads.{ReadsInOrder}
use Rattle.command_edges.proofs.Told.{all_good, not_both}
use Rattle.command_edges.proofs.Order.{IsNoReadFault, all_in_order, then_fault, whole_none}
use Rattle.command_edges.specs.Command.{Meaning, Meaning.FreshRun, Meaning.FormatImage, Meaning.RunFiles, Meaning.StreamFiles, Meaning.RecoverImage, Meaning.DumpTables, Meaning.LocateRange, Meaning.DriveLoad, Meaning.AuditRun, Meaning.ShipFiles, Meaning.FollowFiles}
use Rattle.command_edges.specs.declared.fault.Fault.{Fault}
use Rattle.command_edges.specs.declared.fault.Fault.TheVariants.{Text}
use Rattle.dude_program.specs.Opening.{command_files, judges_files}
use Rattle.dude_program.specs.Causes.{FilesRefuse}

-- The files of the command were read, and are good.
pub record FilesRead (meaning : Meaning) (f g : FilesSight) : Type 0 where
  pub good : All (IsGoodFile f) (command_files meaning)
  pub reads : ReadsInOrder (command_files meaning) None f g

-- the element that is the first, where all are as said
this_of : {X : Type 0} (P : X → Type 0) {Earlier This : X → Type 0} (xs : List X) (number : ℕ) → All P xs → (first : IsFirst Earlier This xs number) → P first.this
this_of P xs number all first =
    let long : length xs ≡ length first.earlier + length (first.this ∷ first.later) = ap length first.split ∙ length-append first.earlier (first.this ∷ first.later) in
    subst P (ap (λ l. get_or l (length first.earlier) first.this) first.split ∙ get_or-append_seam first.earlier first.this first.later first.this)
    (all (length first.earlier) first.this (omega (arith, long)))

-- where all files are good, none is the first bad one
pub good_none_bad : (f : FilesSight) (names : List CommandFile) (number row field : ℕ) → IsTrue f.is_visible → All (IsGoodFile f) names → IsFirstBad names f number row field → ⊥
good_none_bad f names number row field visible good first = not_both f first.this row field visible (this_of (IsGoodFile f) names number good first) first.is_this

place_of : {X : Type 0} {Earlier This : X → Type 0} {xs : List X} {number : ℕ} (d : X) (first : IsFirst Earlier This xs number) → get_or xs (length first.earlier) d ≡ first.this
place_of d first = ap (λ l. get_or l (length first.earlier) d) first.split ∙ get_or-append_seam first.earlier first.this first.later d

-- any file, where a list needs one
abbrev no_file : CommandFile
no_file = request_file []

not_before : (f : FilesSight) (names : List CommandFile) (n m r s c d : ℕ) → IsTrue f.is_visible → (a : IsFirstBad names f n r c) → (b : IsFirstBad names f m s d) → length a.earlier < length b.earlier → ⊥
not_before f names n m r s c d visible a b below =
    let here : get_or b.earlier (length a.earlier) no_file ≡ a.this =
    sym (ap (λ l. get_or l (length a.earlier) no_file) b.split ∙ get_or_append_left b.earlier (b.this ∷ b.later) no_file (length a.earlier) below) ∙ place_of no_file a in
    not_both f a.this r c visible (subst (IsGoodFile f) here (b.each_earlier (length a.earlier) no_file below)) a.is_this

-- the place in a result
abbrev row_of : Result (List Request) (ℕ × ℕ) → ℕ
row_of (Ok x) = 0
row_of (Err place) = place.0

abbrev field_of : Result (List Request) (ℕ × ℕ) → ℕ
field_of (Ok x) = 0
field_of (Err place) = place.1

-- a file is bad at one place
one_place : (kind : FileKind) (f : FilesSight) (name : List ℕ) (r c s d : ℕ) → IsTrue f.is_visible → IsBadAs kind f name r c → IsBadAs kind f name s d → (r ≡ s) × (c ≡ d)
one_place Requests f name r c s d visible a b =
    let one = a.2 visible in
    let other = b.2 visible in
    let same : a.0 ≡ b.0 = cc in
    let bad : ◌≡◌ {A = Result (List Request) (ℕ × ℕ)} (Err (r, c)) (Err (s, d)) = sym a.1 ∙ (ap requests_of same ∙ b.1) in
    (ap row_of bad, ap field_of bad)
one_place Printed f name r c s d visible a b = absurd a
one_place Packets f name r c s d visible a b = absurd a

-- there is one first bad file, and one place in it
pub one_bad : (f : FilesSight) (names : List CommandFile) (n m r s c d : ℕ) → IsTrue f.is_visible → IsFirstBad names f n r c → IsFirstBad names f m s d
    → ◌≡◌ {A = Option Fault} (Some (Text n r c)) (Some (Text m s d))
one_bad f names n m r s c d visible a b =
    let low = not_before f names n m r s c d visible a b in
    let high = not_before f names m n s r d c visible b a in
    let same : length a.earlier ≡ length b.earlier = omega (arith, low, high) in
    let number : n ≡ m = omega (arith, same, a.counted, b.counted) in
    let this : a.this ≡ b.this = sym (place_of no_file a) ∙ (ap (λ (i : ℕ). get_or names i no_file) same ∙ place_of no_file b) in
    let place = one_place b.this.kind f b.this.name r c s d visible (subst (λ (file : CommandFile). IsBadAt f file r c) this a.is_this) b.is_this in
    let rows = place.0 in
    let fields = place.1 in
    cc

-- ---- files of requests

-- there are as many lists as files
pub as_many_lists : (f : FilesSight) (names : List (List ℕ)) (lists : List (Vec Request Global)) → AllZip (OfFile f) names (requests_in lists) → length lists ≡ length names
as_many_lists f names lists read = sym (length-map lists (λ (list : Vec Request Global). list.items)) ∙ AllZip-long (OfFile f) names (requests_in lists) read

pub all_judged : (names : List (List ℕ)) → IsTrue (list_all (λ file. is_judged_first file.kind) (request_files names))
all_judged [] = refl
all_judged (name ∷ names) = all_judged names

all_packets : (names : List (List ℕ)) → All (λ file. file.kind ≡ Packets) (packet_files names)
all_packets [] = All-nil (λ file. file.kind ≡ Packets)
all_packets (name ∷ names) = All-cons (λ file. file.kind ≡ Packets) (record { name = name; kind = Packets }) (packet_files names) refl (all_packets names)

-- a command of which a file is bad has its files judged first: packets are never bad there
pub all_read : (meaning : Meaning) (f : FilesSight) (number row field : ℕ) → IsFirstBad (command_files meaning) f number row field → IsTrue (judges_files meaning)
all_read (FreshRun subscribers file) f number row field first = refl
all_read (FormatImage x s c n k) f number row field first = refl
all_read (RunFiles frames locks files) f number row field first = all_judged files
all_read (StreamFiles frames locks files) f number row field first = all_judged files
all_read RecoverImage f number row field first = refl
all_read DumpTables f number row field first = refl
all_read (LocateRange low high limit) f number row field first = refl
all_read (DriveLoad seed count files) f number row field first = refl
all_read (AuditRun printed files) f number row field first = all_judged files
all_read (ShipFiles files) f number row field first = all_judged files
all_read (FollowFiles files) f number row field first =
    absurd (subst (λ (kind : FileKind). IsBadAs kind f first.this.name row field) (this_of (λ file. file.kind ≡ Packets) (packet_files files) number (all_packets files) first) first.is_this)

-- a text that isn't refused isn't too long
not_long : {X E : Type 0} (b : Bool) (n : ℕ) (e : E) (rest : Result X E) (x : X) → nat_lt 16777216 n ≡ b → (if b then Err e else rest) ≡ Ok x → n ≤ 16777216
not_long true n e rest x is h = cc h
not_long false n e rest x is h = in_limit n is
  where
    in_limit : (n : ℕ) → nat_lt 16777216 n ≡ false → n ≤ 16777216
    in_limit n h = grind (arith, nat_tests)

some_one : (x y : List ℕ) → ◌≡◌ {A = Option (List ℕ)} (Some x) (Some y) → x ≡ y
some_one x y same = cc

good_in_limit : (kind : FileKind) (f : FilesSight) (name : List ℕ) → IsGoodAs kind f name → IsInLimitAs kind f name
good_in_limit Requests f name good = λ visible text is.
    let same : good.1.0 ≡ text = some_one good.1.0 text (sym (good.1.2 visible) ∙ is) in
    subst (λ (t : List ℕ). length t ≤ 16777216) same (not_long (nat_lt 16777216 (length good.1.0)) (length good.1.0) (0, 0) _ good.0 refl good.1.1)
good_in_limit Printed f name good = tt
good_in_limit Packets f name good = tt

files_in_limit : (f : FilesSight) (files : List CommandFile) → All (IsGoodFile f) files → All (IsInLimit f) files
files_in_limit f files good = λ k d below. good_in_limit (get_or files k d).kind f (get_or files k d).name (good k d below)

-- a good file is there
there : (kind : FileKind) (f : FilesSight) (name : List ℕ) → IsTrue f.is_visible → IsGoodAs kind f name → IsSome (f.text name)
there Requests f name visible good = subst IsSome (sym (good.1.2 visible)) refl
there Printed f name visible good = good visible
there Packets f name visible good = good visible

gone : (o : Option (List ℕ)) → o ≡ None → IsSome o → ⊥
gone None e h = cc h
gone (Some x) e h = cc e

module _ {meaning : Meaning} {f g : FilesSight} (files : FilesRead meaning f g) where
  pub read_missing : IsTrue f.is_visible → MissesFile (command_files meaning) f → ⊥
  read_missing visible missing =
      let good : IsGoodFile f missing.1 = subst (IsGoodFile f) missing.3 (files.good missing.0 missing.1 missing.2) in
      gone (f.text missing.1.name) missing.4 (there missing.1.kind f missing.1.name visible good)

  pub read_bad : (number row field : ℕ) → IsTrue f.is_visible → IsFirstBad (command_files meaning) f number row field → ⊥
  read_bad number row field visible first = good_none_bad f (command_files meaning) number row field visible files.good first

  -- they were read before any other fault came
  pub read_before : (fault : Option Fault) → IsNoReadFault fault → ReadsInOrder (command_files meaning) fault f g
  read_before fault other = then_fault fault other files.reads

  pub read_fits : FilesRefuse meaning f → ⊥
  read_fits refuse = elim refuse.why [ inl bad ↦ bad files.good | inr long ↦ long (files_in_limit f (command_files meaning) files.good) ]

-- the request file of `fresh`
pub fresh_files : (subscribers : ℕ) (file : List ℕ) {f g : FilesSight} (lists : List (List Request)) → AllZip (OfFile f) (file ∷ []) lists
    → ReadsInOrder (request_files (file ∷ [])) None f g → FilesRead (FreshRun subscribers file) f g
fresh_files subscribers file {f} lists read reads = record { good = all_good f (file ∷ []) lists read; reads = reads }

-- a command without files
pub no_files : (meaning : Meaning) (f : FilesSight) → command_files meaning ≡ [] → FilesRead meaning f f
no_files meaning f none = record {
  good = subst (λ files. All (IsGoodFile f) files) (sym none) (All-nil (IsGoodFile f));
  reads = subst (λ files. ReadsInOrder files None f f) (sym none) (all_in_order [] (whole_none f));
}
