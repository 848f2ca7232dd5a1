-- The words of `run`, as `clap` walks them.
use Rattle.std.proofs.Common.{inl, inr, suc, ℕ, ◌≡◌, ◌<◌, ◌∙◌, Bool, true, false, List, [], ◌∷◌, ◌++◌, length, Some, refl, sym, subst, ap, append_assoc, arith, codes}
use Rattle.std.specs.Prelude.{◌==◌, ◌&&◌, fold}
use Rattle.std.specs.List.{list_all}
use Rattle.std.proofs.lemmas.List.{append-nil}
use Rattle.std.proofs.lemmas.Bool.{cases_Bool}
use Rattle.std.proofs.lemmas.Bool.Decides.{nat_tests}
use Rattle.std.proofs.lemmas.Grind.{common_steps}
use Rattle.clap.specs.Lexer.{usize_max}
use Rattle.clap.specs.Walk.{Held, Row, Rule, Text, Walk, has_row, idle, is_pending, nothing_held, option, positional, settled, walk, walked}
use Rattle.clap.specs.Simple.{Shape, built, filled, matches_of, with_index}
use Rattle.clap.specs.Faults.{defaults_fault, fault_of, is_simple_and_free, settle_fault, turn_fault, walk_fault}
use Rattle.clap.specs.Kinds.{Kinds, or_else, range_kinds, values_kinds}
use Rattle.clap.specs.ValueTests.{accepts}
use Rattle.clap.specs.declared.builder.value_parser.ValueParser.TheVariants as vp
use Rattle.clap.proofs.OnLiterals.{clap_on_literals}
use Rattle.command_edges.specs.Command.{is_file_name}
use Rattle.command_edges.specs.Clap.{files_rule, run_app}
use Rattle.command_edges.proofs.NumberWords.{both}
use Rattle.command_edges.proofs.Plain.{at, fault-idle, fault-option, fault-positional, first-of-name, walked-idle, walked-option, walked-positional}
use Rattle.command_edges.proofs.Readings.{failing_unless}
use Rattle.command_edges.proofs.Rows.{held, value_row, values_row}

pub simple-run : is_simple_and_free run_app ≡ true
unfolding clap_on_literals
simple-run = refl

abbrev run_shape : Shape
run_shape = (built run_app).top

-- the options of `run`
pub data RunOption : Type 0 where
  of_frames : RunOption
  of_locks : RunOption

abbrev pub other : RunOption → RunOption
other of_frames = of_locks
other of_locks = of_frames

-- an option's name, its word, and the most that its number may be
abbrev pub id_of : RunOption → Text
id_of of_frames = codes "frames"
id_of of_locks = codes "locks"

abbrev pub word_of : RunOption → Text
word_of of_frames = codes "--frames"
word_of of_locks = codes "--locks"

abbrev pub most_of : RunOption → ℕ
most_of of_frames = 32_768
most_of of_locks = 65_536

abbrev pub number_passes : RunOption → Text → Bool
number_passes o word = accepts false (vp.Unsigned 1 (most_of o)) word

-- each is the name of a file
abbrev pub AreFiles : List Text → Type 0
AreFiles files = list_all is_file_name files ≡ true

-- one more file
file-step : (rows : List Row) (done : List Text) (file : Text) → is_file_name file ≡ true
    → walked run_shape.rules [] (at (held rows (codes "files") done) positional 1) file ≡ at (held rows (codes "files") (done ++ file ∷ [])) positional 1
file-step rows done file h =
    let f = first-of-name file h in
    subst (λ (word : Text). walked run_shape.rules [] (at (held rows (codes "files") done) positional 1) word ≡ at (held rows (codes "files") (done ++ word ∷ [])) positional 1)
    (sym f.2) (walked-positional run_shape.rules (held rows (codes "files") done) 1 f.0 f.1 f.3)

files-walk : (rows : List Row) (done files : List Text) → AreFiles files
    → fold (walked run_shape.rules []) (at (held rows (codes "files") done) positional 1) files ≡ at (held rows (codes "files") (done ++ files)) positional 1
files-walk rows done [] h = rw (append-nil done) refl
files-walk rows done (file ∷ rest) h =
    let b = both _ _ h in
    rw (file-step rows done file b.0) (files-walk rows (done ++ file ∷ []) rest b.1
    ∙ ap (λ (l : List Text). at (held rows (codes "files") l) positional 1) (append_assoc done (file ∷ []) rest))

-- what is held after the first file: what was pending is used
abbrev with_file : Held → List Text → Held
with_file h files = record { rows = (settled run_shape.rules h).rows; pending = Some (codes "files", files); skip = h.skip }

abbrev built_files : Rule
built_files = with_index 1 (filled files_rule)

-- the first file, after what is held
first-file : (h : Held) (file : Text) → is_pending built_files h.pending ≡ false → is_file_name file ≡ true
    → walked run_shape.rules [] (at h idle 1) file ≡ at (with_file h (file ∷ [])) positional 1
first-file h file other e =
    let f = first-of-name file e in
    subst (λ (word : Text). walked run_shape.rules [] (at h idle 1) word ≡ at (with_file h (word ∷ [])) positional 1)
    (sym f.2) (walked-idle run_shape.rules h 1 f.0 f.1 f.3 ∙ rw other refl)

-- all the files
all-files : (h : Held) (file : Text) (files : List Text) → is_pending built_files h.pending ≡ false → h.skip ≡ 0 → AreFiles (file ∷ files)
    → fold (walked run_shape.rules []) (at h idle 1) (file ∷ files) ≡ at (held (settled run_shape.rules h).rows (codes "files") (file ∷ files)) positional 1
all-files h file files other skip e =
    let b = both _ _ e in
    rw (first-file h file other b.0, skip) (files-walk (settled run_shape.rules h).rows (file ∷ []) files b.1)

-- an option and its number
abbrev after_option : Held → Text → Text → Held
after_option h id word = held (settled run_shape.rules h).rows id (word ∷ [])

-- what is held after one option, or two, and their numbers
abbrev after_one : RunOption → Text → Held
after_one o v = after_option nothing_held (id_of o) v

abbrev after_two : RunOption → Text → Text → Held
after_two o v w = after_option (after_one o v) (id_of (other o)) w

-- the word of an option, which waits for its number
abbrev awaiting : Held → RunOption → Held
awaiting h o = record (settled run_shape.rules h) { pending = Some (id_of o, []) }

option-word : (o : RunOption) (h : Held) → walked run_shape.rules [] (at h idle 1) (word_of o) ≡ at (awaiting h o) (option (id_of o)) 1
unfolding walked
option-word of_frames h = refl
option-word of_locks h = refl

number-word : (o : RunOption) (h : Held) (d : ℕ) (ds : Text) → h.skip ≡ 0 → (d == 45) ≡ false
    → walked run_shape.rules [] (at (awaiting h o) (option (id_of o)) 1) (d ∷ ds) ≡ at (after_option h (id_of o) (d ∷ ds)) idle 1
number-word of_frames h d ds skip e = walked-option run_shape.rules (awaiting h of_frames) (codes "frames") 1 d ds e ∙ rw skip refl
number-word of_locks h d ds skip e = walked-option run_shape.rules (awaiting h of_locks) (codes "locks") 1 d ds e ∙ rw skip refl

option-walk : (o : RunOption) (h : Held) (d : ℕ) (ds : Text) → h.skip ≡ 0 → (d == 45) ≡ false
    → walked run_shape.rules [] (walked run_shape.rules [] (at h idle 1) (word_of o)) (d ∷ ds) ≡ at (after_option h (id_of o) (d ∷ ds)) idle 1
option-walk o h d ds skip e = rw (option-word o h) (number-word o h d ds skip e)

-- an option isn't the files
no-file : (o : RunOption) (word : Text) → is_pending built_files (Some (id_of o, word ∷ [])) ≡ false
no-file of_frames word = refl
no-file of_locks word = refl

rows-one : (o : RunOption) (v : Text) → (settled run_shape.rules (after_one o v)).rows ≡ value_row (id_of o) v ∷ []
rows-one of_frames v = refl
rows-one of_locks v = refl

rows-two : (o : RunOption) (v w : Text) → (settled run_shape.rules (after_two o v w)).rows ≡ value_row (id_of o) v ∷ value_row (id_of (other o)) w ∷ []
rows-two of_frames v w = refl
rows-two of_locks v w = refl

-- the files behind what gave these rows
abbrev with_files : List Text → List Row → Walk
with_files files rows = at (held rows (codes "files") files) positional 1

-- the walk over the words
walk-one : (o : RunOption) (a : ℕ) (f : Text) (file : Text) (files : List Text) → (a == 45) ≡ false → AreFiles (file ∷ files)
    → walk run_shape.rules [] nothing_held (word_of o ∷ (a ∷ f) ∷ file ∷ files) ≡ with_files (file ∷ files) (value_row (id_of o) (a ∷ f) ∷ [])
walk-one o a f file files na e =
    ap (λ (w : Walk). fold (walked run_shape.rules []) w (file ∷ files)) (option-walk o nothing_held a f refl na)
    ∙ all-files (after_one o (a ∷ f)) file files (no-file o (a ∷ f)) refl e
    ∙ ap (with_files (file ∷ files)) (rows-one o (a ∷ f))

walk-two : (o : RunOption) (a : ℕ) (f : Text) (b : ℕ) (l : Text) (file : Text) (files : List Text)
    → (a == 45) ≡ false → (b == 45) ≡ false → AreFiles (file ∷ files)
    → walk run_shape.rules [] nothing_held (word_of o ∷ (a ∷ f) ∷ word_of (other o) ∷ (b ∷ l) ∷ file ∷ files)
    ≡ with_files (file ∷ files) (value_row (id_of o) (a ∷ f) ∷ value_row (id_of (other o)) (b ∷ l) ∷ [])
walk-two o a f b l file files na nb e =
    ap (λ (w : Walk). fold (walked run_shape.rules []) w (word_of (other o) ∷ (b ∷ l) ∷ file ∷ files)) (option-walk o nothing_held a f refl na)
    ∙ ap (λ (w : Walk). fold (walked run_shape.rules []) w (file ∷ files)) (option-walk (other o) (after_one o (a ∷ f)) b l refl nb)
    ∙ all-files (after_two o (a ∷ f) (b ∷ l)) file files (no-file (other o) (b ∷ l)) refl e
    ∙ ap (with_files (file ∷ files)) (rows-two o (a ∷ f) (b ∷ l))

-- the matches of `run FILE..`
pub matches_of-files : (name file : Text) (files : List Text) → AreFiles (file ∷ files) → matches_of run_app (name ∷ file ∷ files) ≡ values_row (codes "files") (file ∷ files) ∷ []
matches_of-files name file files e = rw (all-files nothing_held file files refl refl e) refl

-- with one option
pub matches_of-one : (o : RunOption) (name : Text) (a : ℕ) (f : Text) (file : Text) (files : List Text) → (a == 45) ≡ false → AreFiles (file ∷ files)
    → matches_of run_app (name ∷ word_of o ∷ (a ∷ f) ∷ file ∷ files) ≡ value_row (id_of o) (a ∷ f) ∷ values_row (codes "files") (file ∷ files) ∷ []
matches_of-one of_frames name a f file files na e = rw (walk-one of_frames a f file files na e) refl
matches_of-one of_locks name a f file files na e = rw (walk-one of_locks a f file files na e) refl

-- with two
pub matches_of-two : (o : RunOption) (name : Text) (a : ℕ) (f : Text) (b : ℕ) (l : Text) (file : Text) (files : List Text)
    → (a == 45) ≡ false → (b == 45) ≡ false → AreFiles (file ∷ files)
    → matches_of run_app (name ∷ word_of o ∷ (a ∷ f) ∷ word_of (other o) ∷ (b ∷ l) ∷ file ∷ files)
    ≡ value_row (id_of o) (a ∷ f) ∷ value_row (id_of (other o)) (b ∷ l) ∷ values_row (codes "files") (file ∷ files) ∷ []
matches_of-two of_frames name a f b l file files na nb e = rw (walk-two of_frames a f b l file files na nb e) refl
matches_of-two of_locks name a f b l file files na nb e = rw (walk-two of_locks a f b l file files na nb e) refl

-- ---- what may fail

or-nil : (k : Kinds) → or_else k [] ≡ k
or-nil [] = refl
or-nil (x ∷ xs) = refl

-- one more file fails in nothing: its values are still being read
file-fault : (rows : List Row) (done : List Text) (file : Text) → is_file_name file ≡ true
    → turn_fault run_shape [] (at (held rows (codes "files") done) positional 1) file ≡ []
file-fault rows done file h =
    let f = first-of-name file h in
    subst (λ (word : Text). turn_fault run_shape [] (at (held rows (codes "files") done) positional 1) word ≡ [])
    (sym f.2) (fault-positional run_shape (held rows (codes "files") done) 1 f.0 f.1 f.3)

files-fault : (rows : List Row) (done files : List Text) → AreFiles files
    → walk_fault run_shape [] (at (held rows (codes "files") done) positional 1) files ≡ []
unfolding walk_fault
files-fault rows done [] h = refl
files-fault rows done (file ∷ rest) h =
    let b = both _ _ h in
    rw (file-fault rows done file b.0, file-step rows done file b.0) (files-fault rows (done ++ file ∷ []) rest b.1)

-- a text is no bad value of a file
texts-pass : (files : List Text) → values_kinds false vp.String files ≡ []
texts-pass [] = refl
texts-pass (file ∷ rest) = texts-pass rest

-- the first file makes what is pending be used
first-fault : (h : Held) (file : Text) → is_pending built_files h.pending ≡ false → is_file_name file ≡ true
    → turn_fault run_shape [] (at h idle 1) file ≡ settle_fault run_shape.rules false h
first-fault h file other e =
    let f = first-of-name file e in
    subst (λ (word : Text). turn_fault run_shape [] (at h idle 1) word ≡ settle_fault run_shape.rules false h)
    (sym f.2) (fault-idle run_shape h 1 f.0 f.1 f.3 ∙ rw other refl)

-- an option word makes what is pending be used, and its number fails in nothing yet
option-fault : (o : RunOption) (h : Held) → turn_fault run_shape [] (at h idle 1) (word_of o) ≡ settle_fault run_shape.rules false h
option-fault of_frames h = or-nil (settle_fault run_shape.rules false h)
option-fault of_locks h = or-nil (settle_fault run_shape.rules false h)

-- the walk over the files, from what is held, fails as what is pending does
walk-fault-files : (h : Held) (file : Text) (files : List Text) → is_pending built_files h.pending ≡ false → h.skip ≡ 0 → AreFiles (file ∷ files)
    → walk_fault run_shape [] (at h idle 1) (file ∷ files) ≡ settle_fault run_shape.rules false h
unfolding walk_fault
walk-fault-files h file files other skip e =
    let b = both _ _ e in
    rw (first-fault h file other b.0, first-file h file other b.0, skip, files-fault (settled run_shape.rules h).rows (file ∷ []) files b.1) (or-nil (settle_fault run_shape.rules false h))

-- one or more files are as many as may be
count-passes : (n : ℕ) → n < usize_max → range_kinds 1 usize_max (suc n) ≡ []
count-passes n h = grind (arith, common_steps, nat_tests)

-- an option and its number make what is pending be used
option-walk-fault : (o : RunOption) (h : Held) (d : ℕ) (ds : Text) (rest : List Text) → h.skip ≡ 0 → (d == 45) ≡ false
    → walk_fault run_shape [] (at h idle 1) (word_of o ∷ (d ∷ ds) ∷ rest)
    ≡ or_else (settle_fault run_shape.rules false h) (walk_fault run_shape [] (at (after_option h (id_of o) (d ∷ ds)) idle 1) rest)
unfolding walk_fault
option-walk-fault o h d ds rest skip e =
    rw (option-fault o h, option-word o h, fault-option run_shape (awaiting h o) (id_of o) 1 d ds e, number-word o h d ds skip e) refl

-- a number that is used fails where it doesn't pass, if its option wasn't there before
number-fault : (o : RunOption) (h : Held) (word : Text) → has_row (id_of o) (settled run_shape.rules h).rows ≡ false
    → settle_fault run_shape.rules false (after_option h (id_of o) word) ≡ failing_unless (number_passes o word)
number-fault of_frames h word fresh = elim (cases_Bool (number_passes of_frames word)) [ inr bad ↦ rw (fresh, bad) refl | inl good ↦ rw (fresh, good) refl ]
number-fault of_locks h word fresh = elim (cases_Bool (number_passes of_locks word)) [ inr bad ↦ rw (fresh, bad) refl | inl good ↦ rw (fresh, good) refl ]

not-again : (o : RunOption) (v : Text) → has_row (id_of (other o)) (settled run_shape.rules (after_one o v)).rows ≡ false
not-again of_frames v = refl
not-again of_locks v = refl

both-kinds : (p q : Bool) → or_else (failing_unless p) (failing_unless q) ≡ failing_unless (p && q)
both-kinds true q = refl
both-kinds false q = refl

-- the walk over one option, or two, and the files
walk-fault-one : (o : RunOption) (a : ℕ) (f : Text) (file : Text) (files : List Text) → (a == 45) ≡ false → AreFiles (file ∷ files)
    → walk_fault run_shape [] (at nothing_held idle 1) (word_of o ∷ (a ∷ f) ∷ file ∷ files) ≡ failing_unless (number_passes o (a ∷ f))
walk-fault-one o a f file files na e =
    option-walk-fault o nothing_held a f (file ∷ files) refl na
    ∙ walk-fault-files (after_one o (a ∷ f)) file files (no-file o (a ∷ f)) refl e
    ∙ number-fault o nothing_held (a ∷ f) refl

walk-fault-two : (o : RunOption) (a : ℕ) (f : Text) (b : ℕ) (l : Text) (file : Text) (files : List Text)
    → (a == 45) ≡ false → (b == 45) ≡ false → AreFiles (file ∷ files)
    → walk_fault run_shape [] (at nothing_held idle 1) (word_of o ∷ (a ∷ f) ∷ word_of (other o) ∷ (b ∷ l) ∷ file ∷ files)
    ≡ failing_unless (number_passes o (a ∷ f) && number_passes (other o) (b ∷ l))
walk-fault-two o a f b l file files na nb e =
    option-walk-fault o nothing_held a f (word_of (other o) ∷ (b ∷ l) ∷ file ∷ files) refl na
    ∙ option-walk-fault (other o) (after_one o (a ∷ f)) b l (file ∷ files) refl nb
    ∙ ap (or_else (settle_fault run_shape.rules false (after_one o (a ∷ f))))
    (walk-fault-files (after_two o (a ∷ f) (b ∷ l)) file files (no-file (other o) (b ∷ l)) refl e ∙ number-fault (other o) (after_one o (a ∷ f)) (b ∷ l) (not-again o (a ∷ f)))
    ∙ ap (λ (k : Kinds). or_else k (failing_unless (number_passes (other o) (b ∷ l)))) (number-fault o nothing_held (a ∷ f) refl)
    ∙ both-kinds (number_passes o (a ∷ f)) (number_passes (other o) (b ∷ l))

-- whether `run FILE..` fails: never, but for memory
pub fault_of-files : (name file : Text) (files : List Text) → AreFiles (file ∷ files) → length files < usize_max → fault_of run_app (name ∷ file ∷ files) ≡ []
unfolding defaults_fault
fault_of-files name file files e few =
    rw (walk-fault-files nothing_held file files refl refl e, all-files nothing_held file files refl refl e, count-passes (length files) few, texts-pass files) refl

-- with one option it fails only where its number doesn't pass
pub fault_of-one : (o : RunOption) (name : Text) (a : ℕ) (f : Text) (file : Text) (files : List Text) → (a == 45) ≡ false → AreFiles (file ∷ files) → length files < usize_max
    → fault_of run_app (name ∷ word_of o ∷ (a ∷ f) ∷ file ∷ files) ≡ failing_unless (number_passes o (a ∷ f))
unfolding defaults_fault
fault_of-one of_frames name a f file files na e few =
    rw (walk-fault-one of_frames a f file files na e, walk-one of_frames a f file files na e, count-passes (length files) few, texts-pass files) (or-nil _)
fault_of-one of_locks name a f file files na e few =
    rw (walk-fault-one of_locks a f file files na e, walk-one of_locks a f file files na e, count-passes (length files) few, texts-pass files) (or-nil _)

-- with two, only where a number doesn't pass
pub fault_of-two : (o : RunOption) (name : Text) (a : ℕ) (f : Text) (b : ℕ) (l : Text) (file : Text) (files : List Text)
    → (a == 45) ≡ false → (b == 45) ≡ false → AreFiles (file ∷ files) → length files < usize_max
    → fault_of run_app (name ∷ word_of o ∷ (a ∷ f) ∷ word_of (other o) ∷ (b ∷ l) ∷ file ∷ files)
    ≡ failing_unless (number_passes o (a ∷ f) && number_passes (other o) (b ∷ l))
unfolding defaults_fault
fault_of-two of_frames name a f b l file files na nb e few =
    rw (walk-fault-two of_frames a f b l file files na nb e, walk-two of_frames a f b l file files na nb e, count-passes (length files) few, texts-pass files) (or-nil _)
fault_of-two of_locks name a f b l file files na nb e few =
    rw (walk-fault-two of_locks a f b l file files na nb e, walk-two of_locks a f b l file files na nb e, count-passes (length files) few, texts-pass files) (or-nil _)
