-- Reading a file piece by piece.
use Rattle.std.proofs.Common.{◌≡◌, ℕ, ◌+◌, ◌<◌, ◌≤◌, Bool, false, IsTrue, List, [], ◌∷◌, ◌++◌, length, take, drop, Option, Some, None, refl, sym, ◌∙◌, ap, subst, arith, append_assoc, length-append, append-nil}
use Rattle.std.specs.Prelude.{◌-◌, true, IfSome, IfErr, IsSomeAnd, IsErrAnd, Result, Ok, Err}
use Rattle.pmem_trait.specs.Sights.{Risen}
use Rattle.std.proofs.lemmas.List.{take-append-drop}
use Rattle.std.proofs.Math.Seq.{drop-append_seam}
use Rattle.dude_io.specs.Files.{FilesSight, FilesStay, ReadMade, ListsRead, ListsReads, GivesBytes, Gave}
use Rattle.dude_io.specs.FileText.{IsReadFault}
use Rattle.dude_io.specs.ReadsOfFile.{GaveUpTo, GaveUpTo.none, GaveUpTo.more, ReadsOfFile, ReadsWhole, ReadsOnce}
use Rattle.dude_io.specs.declared.file_text.FileText.{FileText}
use Rattle.dude_io.specs.declared.file_fault.FileFault.{FileFault}
use Rattle.dude_io.specs.declared.file_fault.FileFault.TheVariants.{Failed, NoMemory}

pub files_stay : {s : FilesSight} → FilesStay s s
files_stay {s} = record { faults = omega arith; is_visible = refl; text = λ _. refl }

pub files_stay-then : {s t u : FilesSight} → FilesStay s t → FilesStay t u → FilesStay s u
files_stay-then {s} {t} {u} a b = record {
  faults = omega arith;
  is_visible = b.is_visible ∙ a.is_visible;
  text = λ told. b.text (rw a.is_visible told) ∙ a.text told;
}

-- no read was made
pub no_reads : (s : FilesSight) → ListsReads [] s s
no_reads s told = (told, sym (append-nil s.reads))

-- some reads, and then others
pub reads-then : (before next : List ReadMade) (s t u : FilesSight) → ListsReads before s t → ListsReads next t u → ListsReads (before ++ next) s u
reads-then before next s t u a b told =
    let later = b told in
    let sooner = a later.0 in
    (sooner.0, later.1 ∙ ap (λ (l : List ReadMade). l ++ next) sooner.1 ∙ append_assoc s.reads before next)

-- there are no more reads than bytes that they gave
pub few_gave : {name : List ℕ} {end : ℕ} {reads : List ReadMade} → GaveUpTo name end reads → length reads ≤ end
few_gave none = omega arith
few_gave {name} (more {at} {next} {reads} gave longer) =
    let few = few_gave gave in
    let long = length-append reads (record { name = name; at = at; failed = false } ∷ []) in
    omega (arith, few, longer, long)

-- so there is at most one read more than the limit
pub few_reads : {limit : ℕ} {name : List ℕ} {failed : Bool} {reads : List ReadMade} → ReadsOfFile limit name failed reads → length reads ≤ limit + 1
few_reads {limit} {name} {failed} {reads} file =
    let few = few_gave file.up_to in
    let long = ap length file.last ∙ length-append file.gave (record { name = name; at = file.end; failed = failed } ∷ []) in
    let within = file.within in
    omega (arith, few, long, within)

-- what was read so far, from s to t, with no fault: a prefix of the file's text, where that is visible
pub record ReadSoFar (name bytes : List ℕ) (s t : FilesSight) : Type 0 where
  pub stays : FilesStay s t
  pub calm : t.faults ≡ s.faults
  pub gave : List ReadMade
  pub up_to : GaveUpTo name (length bytes) gave
  pub listed : ListsReads gave s t
  pub prefix : IsTrue s.is_visible → (text : List ℕ) → s.text name ≡ Some text → (rest : List ℕ) × (text ≡ bytes ++ rest)

pub read_none : {name : List ℕ} {s : FilesSight} → ReadSoFar name [] s s
read_none {name} {s} = record { stays = files_stay; calm = refl; gave = []; up_to = none; listed = no_reads s; prefix = λ told text is. (text, refl) }

-- of the text that a file is known to have, what is said of the text that it has
some_and : (o : Option (List ℕ)) (x : List ℕ) (P : List ℕ → Type 0) → o ≡ Some x → IsSomeAnd o P → P x
some_and o x P e h = subst (λ (q : Option (List ℕ)). IsSomeAnd q P) e h

-- what the file has, and that it is so of it
and_some : (o : Option (List ℕ)) (P Q : List ℕ → Type 0) → IsSomeAnd o P → ((x : List ℕ) → o ≡ Some x → P x → Q x) → IsSomeAnd o Q
and_some None P Q h f = h
and_some (Some x) P Q h f = f x refl h

-- what is said of the text that a file has, if it has one
if_some : (o : Option (List ℕ)) (P Q : List ℕ → Type 0) → IsSomeAnd o P → ((x : List ℕ) → P x → Q x) → IfSome o Q
if_some None P Q h f = tt
if_some (Some x) P Q h f = f x h

-- a prefix as long as the text is the text
prefix_is_all : {bytes text : List ℕ} (rest : List ℕ) → text ≡ bytes ++ rest → length text ≤ length bytes → bytes ≡ text
prefix_is_all {bytes} [] e short = sym (e ∙ append-nil bytes)
prefix_is_all {bytes} {text} (x ∷ rest) e short = absurd (let long : length text ≡ length bytes + length (x ∷ rest) = ap length e ∙ length-append bytes (x ∷ rest) in omega arith)

-- the reads so far, and a last one from where they ended
pub read_last : {name bytes : List ℕ} {at limit : ℕ} {s t : FilesSight} (u : FilesSight) (failed : Bool) → at ≡ length bytes → length bytes ≤ limit
    → (sofar : ReadSoFar name bytes s t) → ListsRead name at failed t u
    → (reads : List ReadMade) × ((file : ReadsOfFile limit name failed reads) × (file.end ≡ length bytes)) × ListsReads reads s u
read_last {name} {bytes} {s = s} {t = t} u failed here within sofar listed =
    let last = record { name = name; at = length bytes; failed = failed } ∷ [] in (
      sofar.gave ++ last,
      (record { end = length bytes; within = within; gave = sofar.gave; up_to = sofar.up_to; last = refl }, refl),
      reads-then sofar.gave last s t u sofar.listed (rw here at listed),
    )

module _ {name bytes : List ℕ} {at n : ℕ} {old new : List ℕ} {s t u : FilesSight} where
  -- the file is there, a prefix of its text was read, and the next piece is given
  given : at ≡ length bytes → ReadSoFar name bytes s t → Gave name at n old new t u → IsTrue s.is_visible
      → IsSomeAnd (s.text name) (λ text. GivesBytes text (length bytes) n old new)
  given here sofar gave told = rw (← here, ← sofar.stays.text told) (gave.told (rw sofar.stays.is_visible told))

  -- the piece lengthens the prefix
  pub read_more : at ≡ length bytes → length bytes < length (bytes ++ take n new) → ReadSoFar name bytes s t → Gave name at n old new t u → ReadSoFar name (bytes ++ take n new) s u
  read_more here longer sofar gave = record {
    stays = files_stay-then sofar.stays gave.stays;
    calm = gave.calm ∙ sofar.calm;
    gave = sofar.gave ++ record { name = name; at = length bytes; failed = false } ∷ [];
    up_to = more sofar.up_to longer;
    listed = reads-then sofar.gave (record { name = name; at = length bytes; failed = false } ∷ []) s t u sofar.listed (rw here at gave.listed);
    prefix = λ told text is.
        let had = sofar.prefix told text is in
        let gives = some_and (s.text name) text (λ text. GivesBytes text (length bytes) n old new) is (given here sofar gave told) in
        let piece : take n new ≡ take n had.0 = gives.bytes ∙ ap (λ z. take n (drop (length bytes) z)) had.1 ∙ ap (take n) (drop-append_seam bytes had.0) in
        (drop n had.0, had.1 ∙ ap (λ z. bytes ++ z) (sym (take-append-drop n had.0)) ∙ sym (append_assoc bytes (take n had.0) (drop n had.0)) ∙ ap (λ z. (bytes ++ z) ++ drop n had.0) (sym piece));
  }

  -- an empty piece comes at the end of the text
  pub read_end : at ≡ length bytes → ReadSoFar name bytes s t → Gave name at n old new t u → n ≡ 0 → IsTrue s.is_visible
      → IsSomeAnd (s.text name) (λ text. bytes ≡ text)
  read_end here sofar gave empty told =
      and_some (s.text name) (λ text. GivesBytes text (length bytes) n old new) (λ text. bytes ≡ text) (given here sofar gave told) (λ text is gives.
      let had = sofar.prefix told text is in prefix_is_all had.0 had.1 (gives.end empty))

  -- no more was read of the file, and its end came, if its text is within the limit
  read_ended : (limit : ℕ) → at ≡ length bytes → length bytes ≤ limit → ReadSoFar name bytes s t → Gave name at n old new t u → (IsTrue s.is_visible → IfSome (s.text name) (λ text. length text ≤ limit → length bytes ≡ length text))
      → (reads : List ReadMade) × ReadsWhole limit s name reads × ListsReads reads s u
  read_ended limit here within sofar gave ended =
      let last = read_last u false here within sofar gave.listed in (
        last.0,
        record { of_file = last.1.0; whole = λ told. subst (λ end. IfSome (s.text name) (λ text. length text ≤ limit → end ≡ length text)) (sym last.1.1) (ended told) },
        last.2,
      )

  -- so the file was read whole, up to its end
  pub read_whole : (limit : ℕ) → at ≡ length bytes → length bytes ≤ limit → ReadSoFar name bytes s t → Gave name at n old new t u → n ≡ 0
      → (reads : List ReadMade) × ReadsWhole limit s name reads × ListsReads reads s u
  read_whole limit here within sofar gave empty = read_ended limit here within sofar gave (λ told.
      if_some (s.text name) (λ text. bytes ≡ text) _ (read_end here sofar gave empty told) (λ text all short. ap length all))

  -- more came than the limit
  pub read_over : (limit : ℕ) → at ≡ length bytes → length bytes ≤ limit → ReadSoFar name bytes s t → Gave name at n old new t u → limit - length bytes < n
      → (reads : List ReadMade) × ReadsWhole limit s name reads × ListsReads reads s u
  read_over limit here within sofar gave over = read_ended limit here within sofar gave (λ told.
      if_some (s.text name) (λ text. GivesBytes text (length bytes) n old new) _ (given here sofar gave told)
      (λ text gives short. absurd (let rest = gives.within in omega (arith, rest, over, within, short))))

  -- so its text is over the limit
  pub read_past : (limit : ℕ) → at ≡ length bytes → length bytes ≤ limit → ReadSoFar name bytes s t → Gave name at n old new t u → limit - length bytes < n → IsTrue s.is_visible
      → IsSomeAnd (s.text name) (λ text. limit < length text)
  read_past limit here within sofar gave over told =
      and_some (s.text name) (λ text. GivesBytes text (length bytes) n old new) (λ text. limit < length text) (given here sofar gave told) (λ text is gives.
      let rest = gives.within in omega (arith, rest, over, within))

-- a fault of the files has its cause
pub failed_cause : (s t : FilesSight) (r : Result FileText FileFault) → IsErrAnd r (λ fault. fault ≡ Failed) → Risen s.faults t.faults → IfErr r (IsReadFault s t)
failed_cause s t (Ok text) is risen = tt
failed_cause s t (Err Failed) is risen = risen
failed_cause s t (Err NoMemory) is risen = tt

-- the reads of a file of which the last one failed, by what they came to
pub failed_reads : (limit : ℕ) (s t : FilesSight) (name : List ℕ) (r : Result FileText FileFault) → IsErrAnd r (λ fault. fault ≡ Failed)
    → (reads : List ReadMade) × ReadsOfFile limit name true reads × ListsReads reads s t → ReadsOnce limit name r s t
failed_reads limit s t name (Ok text) is made = absurd is
failed_reads limit s t name (Err Failed) is made = made
failed_reads limit s t name (Err NoMemory) is made = absurd (let no : ⊥ = cc in no)

-- those of a file for which there was no memory
pub dropped_reads : (limit : ℕ) (s t : FilesSight) (name : List ℕ) (r : Result FileText FileFault) → IsErrAnd r (λ fault. fault ≡ NoMemory)
    → (reads : List ReadMade) × ReadsOfFile limit name false reads × ListsReads reads s t → ReadsOnce limit name r s t
dropped_reads limit s t name (Ok text) is made = absurd is
dropped_reads limit s t name (Err NoMemory) is made = made
dropped_reads limit s t name (Err Failed) is made = absurd (let no : ⊥ = cc in no)
