-- The words of `run` and `stream`.
use Rattle.std.proofs.Common.{inl, inr, ℕ, ◌≡◌, ◌∙◌, ◌<◌, ◌^◌, Bool, true, false, List, [], ◌∷◌, Option, Some, None, length, refl, sym, arith, codes, drop, ◌≤◌, map}
use Rattle.std.specs.Option.{option_map}
use Rattle.std.specs.Prelude.{◌==◌, ◌&&◌, if◌then◌else◌}
use Rattle.std.specs.Str.{bytes_eq}
use Rattle.std.proofs.lemmas.Bool.{cases_Bool}
use Rattle.std.proofs.lemmas.Slice.Eq.{bytes_eq-Decides}
use Rattle.clap.specs.Lexer.{usize_max}
use Rattle.clap.specs.Walk.{Text, rows_of}
use Rattle.clap.specs.Simple.{App}
use Rattle.clap.specs.Matches.{found_of}
use Rattle.clap.specs.declared.parser.matches.ArgMatches.{ArgMatches}
use Rattle.clap.specs.ValueTests.{accepts}
use Rattle.clap.specs.declared.builder.value_parser.ValueParser.TheVariants as vp
use Rattle.command_edges.specs.Command.{RunArguments, RunWords, are_file_names, behind_frames, behind_locks, optional_number, run_arguments, run_given, run_with, run_words}
use Rattle.command_edges.specs.Clap.{IsReading, has_run_form, is_number, is_number_or_absent, number_of, parsed_number, run_app, run_in}
use Rattle.command_edges.proofs.NumberWords.{both, first-digit, parsed_number-passes, word_number-parsed}
use Rattle.command_edges.proofs.Readings.{Reads, reads-by, refused-in, taken-in}
use Rattle.command_edges.proofs.Rows.{value_row, values_row}
use Rattle.command_edges.proofs.RunWalk.{RunOption, of_frames, of_locks, other, id_of, word_of, number_passes, fault_of-files, fault_of-one, fault_of-two, matches_of-files, matches_of-one, matches_of-two}

-- ---- what the words mean

-- of two, the one of `frames`
abbrev pick : RunOption → Option Text → Option Text → Option Text
pick of_frames v w = v
pick of_locks v w = w

-- what stands behind the name, where the option has this number word and the other one that
abbrev given_by : RunOption → Option Text → Option Text → List Text → RunWords
given_by o v w files = record { frames = pick o v w; locks = pick (other o) v w; files = files }

parsed-cases : (p : Bool) (number : Option ℕ) → (p ≡ true → (n : ℕ) × (number ≡ Some n))
    → option_map Some (if p then number else None) ≡ (if p then Some number else None)
parsed-cases false number some = refl
parsed-cases true number some = let there = some refl in rw there.1 refl

-- an option's word gives its number where it passes
optional_number-parsed : (low high : ℕ) (word : Text) → high < 2 ^ 64 → is_number word ≡ true
    → optional_number low high (Some word) ≡ (if accepts false (vp.Unsigned low high) word then Some (parsed_number word) else None)
optional_number-parsed low high word fits form =
    rw (word_number-parsed low high word fits form)
    (parsed-cases (accepts false (vp.Unsigned low high) word) (parsed_number word) (λ passes. (_, parsed_number-passes low high word passes)))

-- an option that is refused, or the other one, refuses the run
with-both : (p q : Bool) (f l : Option ℕ) (files : List Text) → are_file_names files ≡ true
    → run_with (if p then Some f else None) (if q then Some l else None) files ≡ (if p && q then Some (record { frames = f; locks = l; files = files }) else None)
with-both true true f l files names = rw names refl
with-both true false f l files names = refl
with-both false q f l files names = refl

swapped : (p q : Bool) {X : Type 0} (x : Option X) → (if p && q then x else None) ≡ (if q && p then x else None)
swapped true true x = refl
swapped true false x = refl
swapped false true x = refl
swapped false false x = refl

-- what the words of one option, or of two, mean
means-one : (o : RunOption) (v : Text) (files : List Text) → is_number v ≡ true → are_file_names files ≡ true
    → run_given (given_by o (Some v) None files) ≡ (if number_passes o v then run_in files (value_row (id_of o) v ∷ values_row (codes "files") files ∷ []) else None)
means-one of_frames v files number names =
    rw (optional_number-parsed 1 32_768 v (omega arith) number) (with-both (number_passes of_frames v) true (parsed_number v) None files names ∙ swapped (number_passes of_frames v) true _)
means-one of_locks v files number names =
    rw (optional_number-parsed 1 65_536 v (omega arith) number) (with-both true (number_passes of_locks v) None (parsed_number v) files names)

means-two : (o : RunOption) (v w : Text) (files : List Text) → is_number v ≡ true → is_number w ≡ true → are_file_names files ≡ true
    → run_given (given_by o (Some v) (Some w) files)
    ≡ (if number_passes o v && number_passes (other o) w then run_in files (value_row (id_of o) v ∷ value_row (id_of (other o)) w ∷ values_row (codes "files") files ∷ []) else None)
means-two of_frames v w files one two names =
    rw (optional_number-parsed 1 32_768 v (omega arith) one, optional_number-parsed 1 65_536 w (omega arith) two)
    (with-both (number_passes of_frames v) (number_passes of_locks w) (parsed_number v) (parsed_number w) files names)
means-two of_locks v w files one two names =
    rw (optional_number-parsed 1 65_536 v (omega arith) one, optional_number-parsed 1 32_768 w (omega arith) two)
    (with-both (number_passes of_frames w) (number_passes of_locks v) (parsed_number w) (parsed_number v) files names ∙ swapped (number_passes of_frames w) (number_passes of_locks v) _)

-- ---- the arrangements of the words

data Arrangement : List Text → RunWords → Type 0 where
  no-option : (files : List Text) → Arrangement files (record { frames = None; locks = None; files = files })
  one-option : (o : RunOption) (v : Text) (files : List Text) → Arrangement (word_of o ∷ v ∷ files) (given_by o (Some v) None files)
  two-options : (o : RunOption) (v w : Text) (files : List Text) → Arrangement (word_of o ∷ v ∷ word_of (other o) ∷ w ∷ files) (given_by o (Some v) (Some w) files)

same-text : (xs ys : Text) → bytes_eq xs ys ≡ true → xs ≡ ys
same-text xs ys e = (bytes_eq-Decides xs ys).0 e

-- behind an option and its number
abbrev behind_of : RunOption → Text → List Text → RunWords
behind_of of_frames = behind_frames
behind_of of_locks = behind_locks

given-one : (words : Option Text × List Text → RunWords) (b : Bool) (x y : Option Text × List Text) → words (if b then x else y) ≡ (if b then words x else words y)
given-one words true x y = refl
given-one words false x y = refl

behind_of-two : (o : RunOption) (v word w : Text) (files : List Text) → behind_of o v (word ∷ w ∷ files)
    ≡ (if bytes_eq word (word_of (other o)) then given_by o (Some v) (Some w) files else given_by o (Some v) None (word ∷ w ∷ files))
behind_of-two of_frames v word w files = given-one (λ given. record { frames = Some v; locks = given.0; files = given.1 }) (bytes_eq word (codes "--locks")) _ _
behind_of-two of_locks v word w files = given-one (λ given. record { frames = given.0; locks = Some v; files = given.1 }) (bytes_eq word (codes "--frames")) _ _

behind : (o : RunOption) (v : Text) (more : List Text) → Arrangement (word_of o ∷ v ∷ more) (behind_of o v more)
behind of_frames v [] = one-option of_frames v []
behind of_locks v [] = one-option of_locks v []
behind of_frames v (file ∷ []) = one-option of_frames v (file ∷ [])
behind of_locks v (file ∷ []) = one-option of_locks v (file ∷ [])
behind o v (word ∷ w ∷ files) = rw (behind_of-two o v word w files) (elim (cases_Bool (bytes_eq word (word_of (other o)))) [
  | inl same ↦ rw (same, same-text word (word_of (other o)) same) (two-options o v w files)
  | inr different ↦ rw different (one-option o v (word ∷ w ∷ files))
])

arrangement : (words : List Text) → Arrangement words (run_words words)
arrangement [] = no-option []
arrangement (file ∷ []) = no-option (file ∷ [])
arrangement (option ∷ number ∷ more) = elim (cases_Bool (bytes_eq option (codes "--frames"))) [
  | inl same ↦ rw (same, same-text option (codes "--frames") same) (behind of_frames number more)
  | inr first ↦ elim (cases_Bool (bytes_eq option (codes "--locks"))) [
    | inl same ↦ rw (first, same, same-text option (codes "--locks") same) (behind of_locks number more)
    | inr second ↦ rw (first, second) (no-option (option ∷ number ∷ more))
  ]
]

-- ---- what `clap` makes of them

-- what `clap` makes of words that give this
abbrev RunReads : Text → List Text → RunWords → Type 0
RunReads name words given = Reads run_app (name ∷ words) (run_given given) (run_in given.files)

files-read : (name file : Text) (files : List Text) → are_file_names (file ∷ files) ≡ true → length files < usize_max
    → RunReads name (file ∷ files) (record { frames = None; locks = None; files = file ∷ files })
files-read name file files names few =
    reads-by run_app (name ∷ file ∷ files) _ (run_in (file ∷ files)) true (values_row (codes "files") (file ∷ files) ∷ [])
    (fault_of-files name file files names few) (matches_of-files name file files names) (rw names refl)

-- one option before the files
one-digits : (o : RunOption) (name : Text) (a : ℕ) (f file : Text) (files : List Text) → (a == 45) ≡ false → are_file_names (file ∷ files) ≡ true → length files < usize_max
    → run_given (given_by o (Some (a ∷ f)) None (file ∷ files))
    ≡ (if number_passes o (a ∷ f) then run_in (file ∷ files) (value_row (id_of o) (a ∷ f) ∷ values_row (codes "files") (file ∷ files) ∷ []) else None)
    → RunReads name (word_of o ∷ (a ∷ f) ∷ file ∷ files) (given_by o (Some (a ∷ f)) None (file ∷ files))
one-digits o name a f file files na names few means =
    reads-by run_app (name ∷ word_of o ∷ (a ∷ f) ∷ file ∷ files) _ (run_in (file ∷ files)) (number_passes o (a ∷ f))
    (value_row (id_of o) (a ∷ f) ∷ values_row (codes "files") (file ∷ files) ∷ [])
    (fault_of-one o name a f file files na names few) (matches_of-one o name a f file files na names) means

one-read : (o : RunOption) (name v file : Text) (files : List Text) → is_number v ≡ true → are_file_names (file ∷ files) ≡ true → length files < usize_max
    → RunReads name (word_of o ∷ v ∷ file ∷ files) (given_by o (Some v) None (file ∷ files))
one-read o name v file files number names few =
    let one = first-digit v number in
    let means = means-one o v (file ∷ files) number names in
    rw (one.2) (one-digits o name one.0 one.1 file files one.3 names few (rw (one.2) at means))

-- both, in either order
two-digits : (o : RunOption) (name : Text) (a : ℕ) (f : Text) (b : ℕ) (l file : Text) (files : List Text) → (a == 45) ≡ false → (b == 45) ≡ false → are_file_names (file ∷ files) ≡ true → length files < usize_max
    → run_given (given_by o (Some (a ∷ f)) (Some (b ∷ l)) (file ∷ files))
    ≡ (if number_passes o (a ∷ f) && number_passes (other o) (b ∷ l) then run_in (file ∷ files) (value_row (id_of o) (a ∷ f) ∷ value_row (id_of (other o)) (b ∷ l) ∷ values_row (codes "files") (file ∷ files) ∷ []) else None)
    → RunReads name (word_of o ∷ (a ∷ f) ∷ word_of (other o) ∷ (b ∷ l) ∷ file ∷ files) (given_by o (Some (a ∷ f)) (Some (b ∷ l)) (file ∷ files))
two-digits o name a f b l file files na nb names few means =
    reads-by run_app (name ∷ word_of o ∷ (a ∷ f) ∷ word_of (other o) ∷ (b ∷ l) ∷ file ∷ files) _ (run_in (file ∷ files)) (number_passes o (a ∷ f) && number_passes (other o) (b ∷ l))
    (value_row (id_of o) (a ∷ f) ∷ value_row (id_of (other o)) (b ∷ l) ∷ values_row (codes "files") (file ∷ files) ∷ [])
    (fault_of-two o name a f b l file files na nb names few) (matches_of-two o name a f b l file files na nb names) means

two-read : (o : RunOption) (name v w file : Text) (files : List Text) → is_number v ≡ true → is_number w ≡ true → are_file_names (file ∷ files) ≡ true → length files < usize_max
    → RunReads name (word_of o ∷ v ∷ word_of (other o) ∷ w ∷ file ∷ files) (given_by o (Some v) (Some w) (file ∷ files))
two-read o name v w file files number second names few =
    let one = first-digit v number in
    let two = first-digit w second in
    let means = means-two o v w (file ∷ files) number second names in
    rw (one.2, two.2) (two-digits o name one.0 one.1 two.0 two.1 file files one.3 two.3 names few (rw (one.2, two.2) at means))

no-names : (b : Bool) → (b && false) ≡ true → ⊥
no-names true h = cc h
no-names false h = cc h

-- which words of a form are numbers
number-one : (o : RunOption) (v : Text) (files : List Text) → has_run_form (given_by o (Some v) None files) ≡ true → (is_number v ≡ true) × (are_file_names files ≡ true)
number-one of_frames v files h = let outer = both _ _ h in let inner = both _ _ outer.0 in (inner.0, outer.1)
number-one of_locks v files h = both _ _ h

number-two : (o : RunOption) (v w : Text) (files : List Text) → has_run_form (given_by o (Some v) (Some w) files) ≡ true → (is_number v ≡ true) × (is_number w ≡ true) × (are_file_names files ≡ true)
number-two of_frames v w files h = let outer = both _ _ h in let inner = both _ _ outer.0 in (inner.0, inner.1, outer.1)
number-two of_locks v w files h = let outer = both _ _ h in let inner = both _ _ outer.0 in (inner.1, inner.0, outer.1)

arranged : (name : Text) (words : List Text) (given : RunWords) → Arrangement words given → has_run_form given ≡ true → length words < usize_max → RunReads name words given
arranged name words given (no-option []) h few = absurd (no-names true h)
arranged name words given (no-option (file ∷ files)) h few = files-read name file files h (omega arith)
arranged name words given (one-option o v []) h few = absurd (let no : false ≡ true = (number-one o v [] h).1 in cc no)
arranged name words given (one-option o v (file ∷ files)) h few =
    let form = number-one o v (file ∷ files) h in
    one-read o name v file files form.0 form.1 (omega arith)
arranged name words given (two-options o v w []) h few = absurd (let no : false ≡ true = (number-two o v w [] h).2 in cc no)
arranged name words given (two-options o v w (file ∷ files)) h few =
    let form = number-two o v w (file ∷ files) h in
    two-read o name v w file files form.0 form.1 form.2 (omega arith)

-- words of the form, behind a name
pub run-reads : (words : List Text) → 1 ≤ length words → length words ≤ usize_max → has_run_form (run_words (drop 1 words)) ≡ true
    → Reads run_app words (run_arguments (drop 1 words)) (run_in (run_words (drop 1 words)).files)
run-reads [] some few h = absurd (omega arith)
run-reads (name ∷ words) some few h = arranged name words (run_words words) (arrangement words) h (omega arith)

-- what the code makes of matches
pub run-taken : (app : App) (words : List Text) (given : RunWords) (found : Option ArgMatches) (m : ArgMatches) (frames locks : Option ℕ)
    → app ≡ run_app → 1 ≤ length words → length words ≤ usize_max → given ≡ run_words (drop 1 words) → has_run_form given ≡ true
    → found ≡ Some m → IsReading app words found
    → frames ≡ number_of (codes "frames") (rows_of (found_of m)) → locks ≡ number_of (codes "locks") (rows_of (found_of m))
    → ◌≡◌ {A = Option RunArguments} (Some (record { frames = frames; locks = locks; files = given.files })) (run_arguments (drop 1 words))
run-taken app words given found m frames locks same some few is form met read first second =
    rw (first, second, is)
    (sym (taken-in app run_app words found m (run_arguments (drop 1 words)) (run_in (run_words (drop 1 words)).files) same met read (run-reads words some few (rw is at form))))

pub run-refused : (app : App) (words : List Text) (given : RunWords) (found : Option ArgMatches)
    → app ≡ run_app → 1 ≤ length words → length words ≤ usize_max → given ≡ run_words (drop 1 words) → has_run_form given ≡ true
    → found ≡ None → IsReading app words found → run_arguments (drop 1 words) ≡ None
run-refused app words given found same some few is form met read =
    refused-in app run_app words found (run_arguments (drop 1 words)) (run_in (run_words (drop 1 words)).files) same met read (run-reads words some few (rw is at form))

-- words without the form
passing : (low high : ℕ) (word : Option Text) → is_number_or_absent word ≡ false → optional_number low high word ≡ None
passing low high None h = cc h
passing low high (Some word) h = rw h refl

run_with-first : (locks : Option (Option ℕ)) (files : List Text) → run_with None locks files ≡ None
run_with-first locks files = refl

run_with-second : (frames : Option (Option ℕ)) (files : List Text) → run_with frames None files ≡ None
run_with-second None files = refl
run_with-second (Some frames) files = refl

run_with-third : (frames locks : Option (Option ℕ)) (files : List Text) → are_file_names files ≡ false → run_with frames locks files ≡ None
run_with-third None locks files h = refl
run_with-third (Some frames) None files h = refl
run_with-third (Some frames) (Some locks) files h = rw h refl

pub run-unformed : (given : RunWords) → has_run_form given ≡ false → run_given given ≡ None
run-unformed given h = elim (cases_Bool (is_number_or_absent given.frames)) [
  | inr bad ↦ rw (passing 1 32_768 given.frames bad) refl
  | inl one ↦ elim (cases_Bool (is_number_or_absent given.locks)) [
    | inr bad ↦ rw (passing 1 65_536 given.locks bad) (run_with-second (optional_number 1 32_768 given.frames) given.files)
    | inl two ↦ run_with-third (optional_number 1 32_768 given.frames) (optional_number 1 65_536 given.locks) given.files (rw (one, two) at h)
  ]
]

-- the words behind the first
pub behind-first : {X : Type 0} (f : X → Text) (xs rest : List X) (x : X) → xs ≡ x ∷ rest → drop 1 (map f xs) ≡ map f rest
behind-first f xs rest x e = rw e refl
