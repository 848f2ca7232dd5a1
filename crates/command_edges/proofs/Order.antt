-- Files that are read one behind another.
use Rattle.std.proofs.Common.{◌≡◌, ℕ, ◌+◌, ◌≤◌, Bool, true, Option, Some, None, List, [], ◌∷◌, ◌++◌, length, refl, sym, ◌∙◌, ap, subst, inl, inr, arith, append-nil, append_assoc, length-append}
use Rattle.std.specs.Prelude.{⊤, Result, Ok, Err, IfErr, IsErrAnd, flat_map}
use Rattle.std.specs.Result.{result_err}
use Rattle.std.specs.List.{AllZip}
use Rattle.std.proofs.lemmas.List.Sums.{sum_by-append, sum_by-cons}
use Rattle.std.proofs.lemmas.List.Concat.{flat_map-append}
use Rattle.dude_io.specs.declared.file_text.FileText.{FileText}
use Rattle.dude_io.specs.declared.file_fault.FileFault.TheVariants.{Failed, NoMemory}
use Rattle.dude_io.specs.Files.{FilesSight, FilesStay, ReadMade, ListsReads}
use Rattle.dude_io.specs.ReadsOfFile.{ReadsOfFile, ReadsOnce}
use Rattle.dude_io.proofs.ReadLaws.{files_stay, files_stay-then, no_reads, reads-then, few_reads}
use Rattle.command_edges.specs.declared.fault.Fault.{Fault}
use Rattle.command_edges.specs.declared.fault.Fault.TheVariants.{File, Memory}
use Rattle.command_edges.specs.CommandFile.{CommandFile, file_limit}
use Rattle.command_edges.specs.Files.{IsUnread}
use Rattle.command_edges.specs.Texts.{IsFirstTextFault}
use Rattle.command_edges.specs.Reads.{EndsReading, ReadsFile, ReadsInOrder, most_reads}
use Rattle.command_edges.proofs.Zips.{AllZip-more}

-- the reads of all these files, file by file
abbrev pub joined : List (List ReadMade) → List ReadMade
joined each = flat_map (λ reads. reads) each

joined-more : (each : List (List ReadMade)) (reads : List ReadMade) → joined (each ++ reads ∷ []) ≡ joined each ++ reads
joined-more each reads = flat_map-append (λ reads. reads) each (reads ∷ []) ∙ ap (λ (l : List ReadMade). joined each ++ l) (append-nil reads)

-- these files were read whole, one behind another
pub record ReadWhole (files : List CommandFile) (s t : FilesSight) : Type 0 where
  pub stays : FilesStay s t
  pub each : List (List ReadMade)
  pub each_whole : AllZip (ReadsFile s) files each
  pub made : ListsReads (joined each) s t

pub whole_none : (s : FilesSight) → ReadWhole [] s s
whole_none s = record { stays = files_stay; each = []; each_whole = tt; made = no_reads s }

-- what a later sight tells of the reads of a file, the earlier one told
whole_before : {s t : FilesSight} (file : CommandFile) {reads : List ReadMade} → FilesStay s t → ReadsFile t file reads → ReadsFile s file reads
whole_before {s} {t} file stays reads = record { of_file = reads.of_file; whole = λ told. rw (← stays.text told) (reads.whole (rw stays.is_visible told)) }

pub whole_more : (files : List CommandFile) (file : CommandFile) (text : FileText) {s t u : FilesSight} → ReadWhole files s t → FilesStay t u → ReadsOnce (file_limit file) file.name (Ok text) t u
    → ReadWhole (files ++ file ∷ []) s u
whole_more files file text {s} {t} {u} before stays next = record {
  stays = files_stay-then before.stays stays;
  each = before.each ++ next.0 ∷ [];
  each_whole = AllZip-more (ReadsFile s) files before.each file next.0 before.each_whole (whole_before file before.stays next.1);
  made = rw (joined-more before.each next.0) (reads-then (joined before.each) next.0 s t u before.made next.2);
}

few_whole : (s : FilesSight) (files : List CommandFile) (each : List (List ReadMade)) → AllZip (ReadsFile s) files each → length (joined each) ≤ most_reads files
few_whole s [] [] both = omega arith
few_whole s [] (reads ∷ each) both = absurd both
few_whole s (file ∷ files) [] both = absurd both
few_whole s (file ∷ files) (reads ∷ each) both =
    let first = few_reads both.0.of_file in
    let rest = few_whole s files each both.1 in
    let long = length-append reads (joined each) in
    let most = sum_by-cons (λ (f : CommandFile). file_limit f + 1) file files in
    omega (arith, first, rest, long, most)

-- all reads of these, and some of one more
few_both : (files whole : List CommandFile) (file : CommandFile) (later : List CommandFile) (before last : List ReadMade) → files ≡ whole ++ file ∷ later
    → length before ≤ most_reads whole → length last ≤ file_limit file + 1 → length (before ++ last) ≤ most_reads files
few_both files whole file later before last split few more =
    let all = ap most_reads split ∙ sum_by-append (λ (f : CommandFile). file_limit f + 1) whole (file ∷ later) in
    let here = sum_by-cons (λ (f : CommandFile). file_limit f + 1) file later in
    let both = length-append before last in
    omega (arith, all, here, both, few, more)

few_all : (s : FilesSight) (files whole : List CommandFile) (each : List (List ReadMade)) (left : List CommandFile) → files ≡ whole ++ left → AllZip (ReadsFile s) whole each
    → length (joined each ++ []) ≤ most_reads files
few_all s files whole each left split both =
    let all = ap most_reads split ∙ sum_by-append (λ (f : CommandFile). file_limit f + 1) whole left in
    let few = few_whole s whole each both in
    let none = length-append (joined each) [] in
    omega (arith, all, few, none)

-- nothing was read behind them
made_none : (each : List (List ReadMade)) (s t : FilesSight) → ListsReads (joined each) s t → ListsReads (joined each ++ []) s t
made_none each s t made = rw (append-nil (joined each)) made

-- all files were read
pub all_in_order : (files : List CommandFile) {s t : FilesSight} → ReadWhole files s t → ReadsInOrder files None s t
all_in_order files {s} {t} before = record {
  stays = before.stays;
  whole = files;
  left = [];
  split = sym (append-nil files);
  each = before.each;
  each_whole = before.each_whole;
  last = [];
  ended = (refl, refl);
  made = made_none before.each s t before.made;
  few = few_all s files files before.each [] (sym (append-nil files)) before.each_whole;
}

-- the reading ended with reads of one of them
ended_in_order : (fault : Fault) {failed : Bool} (files whole : List CommandFile) (file : CommandFile) (later : List CommandFile) (last : List ReadMade) {s t u : FilesSight} → files ≡ whole ++ file ∷ later
    → ReadWhole whole s t → FilesStay t u → ReadsOfFile (file_limit file) file.name failed last → ListsReads last t u → EndsReading (Some fault) whole (file ∷ later) last → ReadsInOrder files (Some fault) s u
ended_in_order fault files whole file later last {s} {t} {u} split before stays of_file made ended = record {
  stays = files_stay-then before.stays stays;
  whole = whole;
  left = file ∷ later;
  split = split;
  each = before.each;
  each_whole = before.each_whole;
  last = last;
  ended = ended;
  made = reads-then (joined before.each) last s t u before.made made;
  few = few_both files whole file later (joined before.each) last split (few_whole s whole before.each before.each_whole) (few_reads of_file);
}

-- it couldn't be read
pub unread_in_order : (files whole : List CommandFile) (file : CommandFile) (later : List CommandFile) (number : ℕ) {s t u : FilesSight} → files ≡ whole ++ file ∷ later → number ≡ length whole + 1
    → ReadWhole whole s t → FilesStay t u → ReadsOnce (file_limit file) file.name (Err Failed) t u → ReadsInOrder files (Some (File number)) s u
unread_in_order files whole file later number split counted before stays next =
    ended_in_order (File number) files whole file later next.0 split before stays next.1 next.2 (counted, next.1)

-- its last read is the last one of all
pub is_unread : (file : CommandFile) (t u : FilesSight) → ReadsOnce (file_limit file) file.name (Err Failed) t u → IsUnread u file
is_unread file t u next told =
    let made = next.1 in (
      t.reads ++ made.gave,
      made.end,
      (next.2 told).1 ∙ ap (λ (l : List ReadMade). t.reads ++ l) made.last ∙ sym (append_assoc t.reads made.gave (record { name = file.name; at = made.end; failed = true } ∷ [])),
    )

-- there was no memory for one of them
pub dropped_in_order : (files whole : List CommandFile) (file : CommandFile) (later : List CommandFile) {s t u : FilesSight} → files ≡ whole ++ file ∷ later
    → ReadWhole whole s t → FilesStay t u → ReadsOnce (file_limit file) file.name (Err NoMemory) t u → ReadsInOrder files (Some Memory) s u
dropped_in_order files whole file later split before stays next =
    ended_in_order Memory files whole file later next.0 split before stays next.1 next.2 (inr next.1)

-- there was no memory behind the first of them
ends_no_memory : (whole left : List CommandFile) → EndsReading (Some Memory) whole left []
ends_no_memory whole [] = refl
ends_no_memory whole (file ∷ later) = inl refl

pub stopped_in_order : (files whole left : List CommandFile) {s t : FilesSight} → files ≡ whole ++ left → ReadWhole whole s t → ReadsInOrder files (Some Memory) s t
stopped_in_order files whole left {s} {t} split before = record {
  stays = before.stays;
  whole = whole;
  left = left;
  split = split;
  each = before.each;
  each_whole = before.each_whole;
  last = [];
  ended = ends_no_memory whole left;
  made = made_none before.each s t before.made;
  few = few_all s files whole before.each left split before.each_whole;
}

-- a result whose error is want of memory
pub is_memory : {X : Type 0} (r : Result X Fault) → IsErrAnd r (λ fault. fault ≡ Memory) → result_err r ≡ Some Memory
is_memory (Ok x) is = absurd is
is_memory (Err fault) is = ap (λ (f : Fault). Some f) is

-- there was no memory before the first of them
pub unbegun : {X : Type 0} (files : List CommandFile) (s : FilesSight) (r : Result X Fault) → IsErrAnd r (λ fault. fault ≡ Memory) → ReadsInOrder files (result_err r) s s
unbegun files s r is = subst (λ (fault : Option Fault). ReadsInOrder files fault s s) (sym (is_memory r is)) (stopped_in_order files [] files refl (whole_none s))

-- the fault isn't that a file couldn't be read
abbrev pub IsNoReadFault : Option Fault → Type 0
IsNoReadFault (Some (File number)) = ⊥
IsNoReadFault _ = ⊤

ends_otherwise : (fault : Option Fault) (whole left : List CommandFile) (last : List ReadMade) → IsNoReadFault fault → EndsReading None whole left last → EndsReading fault whole left last
ends_otherwise None whole left last other ended = ended
ends_otherwise (Some (File number)) whole left last other ended = absurd other
ends_otherwise (Some Memory) whole [] last other ended = ended.1
ends_otherwise (Some Memory) whole (file ∷ later) last other ended = inl ended.1
ends_otherwise (Some fault) whole left last other ended = ended

-- all files were read, and another fault came then
pub then_fault : {files : List CommandFile} {s t : FilesSight} (fault : Option Fault) → IsNoReadFault fault → ReadsInOrder files None s t → ReadsInOrder files fault s t
then_fault fault other reads = record {
  stays = reads.stays;
  whole = reads.whole;
  left = reads.left;
  split = reads.split;
  ended = ends_otherwise fault reads.whole reads.left reads.last other reads.ended;
  each = reads.each;
  each_whole = reads.each_whole;
  last = reads.last;
  made = reads.made;
  few = reads.few;
}

-- to parse texts is to read no file
pub parsed_reads : {X : Type 0} (before : ℕ) (texts : List FileText) (r : Result X Fault) → IfErr r (IsFirstTextFault before texts) → IsNoReadFault (result_err r)
parsed_reads before texts (Ok x) h = tt
parsed_reads before texts (Err (File number)) h = absurd h
parsed_reads before texts (Err fault) h = tt
