-- How `clap` reads a word that doesn't begin with `-`.
use Rattle.std.proofs.Common.{ℕ, ◌≡◌, ◌+◌, Bool, true, false, List, [], ◌∷◌, None, refl}
use Rattle.std.specs.Prelude.{◌==◌, not}
use Rattle.clap.specs.Lexer.{long_of, short_of}
use Rattle.clap.specs.Walk.{Held, Rule, Text, Waiting, Walk, arg_by_id, arg_by_index, idle, option, option_word, positional, to_positional, value, walked}
use Rattle.clap.specs.Faults.{step_fault, turn_fault, walk_fault}
use Rattle.clap.specs.Kinds.{or_else}
use Rattle.clap.specs.Simple.{Shape}
use Rattle.command_edges.specs.Command.{is_file_name}

-- the walk between two words, before any `--`
abbrev pub at : Held → Waiting → ℕ → Walk
at h waiting position = record { held = h; waiting = waiting; position = position; is_trailing = false; stopped = None }

long-none : (d : ℕ) (ds : Text) → (d == 45) ≡ false → long_of (d ∷ ds) ≡ None
long-none d ds e = rw e refl

short-none : (d : ℕ) (ds : Text) → (d == 45) ≡ false → short_of (d ∷ ds) ≡ None
short-none d ds e = rw e refl

-- nothing waits for it
pub walked-idle : (c : List Rule) (h : Held) (position d : ℕ) (ds : Text) → (d == 45) ≡ false
    → walked c [] (at h idle position) (d ∷ ds) ≡ to_positional c (arg_by_index c position) (d ∷ ds) (at h idle position) h
unfolding walked
walked-idle c h position d ds e = rw (e, short-none d ds e) refl

pub walked-positional : (c : List Rule) (h : Held) (position d : ℕ) (ds : Text) → (d == 45) ≡ false
    → walked c [] (at h positional position) (d ∷ ds) ≡ to_positional c (arg_by_index c position) (d ∷ ds) (at h positional position) h
unfolding walked
walked-positional c h position d ds e = rw (e, short-none d ds e) refl

-- an option waits for it
pub walked-option : (c : List Rule) (h : Held) (id : Text) (position d : ℕ) (ds : Text) → (d == 45) ≡ false
    → walked c [] (at h (option id) position) (d ∷ ds)
    ≡ at (option_word (arg_by_id c id) id (d ∷ ds) h).0 (option_word (arg_by_id c id) id (d ∷ ds) h).1 position
unfolding walked
walked-option c h id position d ds e = rw (e, short-none d ds e) refl

-- the same of what may fail
pub fault-idle : (s : Shape) (h : Held) (position d : ℕ) (ds : Text) → (d == 45) ≡ false
    → turn_fault s [] (at h idle position) (d ∷ ds) ≡ step_fault s position h value
fault-idle s h position d ds e = rw (e, short-none d ds e) refl

-- the walk fails at it, or behind it
pub fault-turn : (s : Shape) (h next : Held) (position d : ℕ) (ds : Text) (rest : List Text) → (d == 45) ≡ false
    → walked s.rules [] (at h idle position) (d ∷ ds) ≡ at next idle (position + 1)
    → walk_fault s [] (at h idle position) ((d ∷ ds) ∷ rest)
    ≡ or_else (step_fault s position h value) (walk_fault s [] (at next idle (position + 1)) rest)
unfolding walk_fault
fault-turn s h next position d ds rest e turned = rw (fault-idle s h position d ds e, turned) refl

-- nothing is left that may fail
pub fault-end : (s : Shape) (walk : Walk) → walk_fault s [] walk [] ≡ []
unfolding walk_fault
fault-end s walk = refl

pub fault-positional : (s : Shape) (h : Held) (position d : ℕ) (ds : Text) → (d == 45) ≡ false
    → turn_fault s [] (at h positional position) (d ∷ ds) ≡ step_fault s position h value
fault-positional s h position d ds e = rw (e, short-none d ds e) refl

pub fault-option : (s : Shape) (h : Held) (id : Text) (position d : ℕ) (ds : Text) → (d == 45) ≡ false
    → turn_fault s [] (at h (option id) position) (d ∷ ds) ≡ []
fault-option s h id position d ds e = rw (e, short-none d ds e) refl

-- the name of a file has a first byte, which is no `-`
pub first-of-name : (file : Text) → is_file_name file ≡ true → (d : ℕ) × (ds : Text) × (file ≡ d ∷ ds) × ((d == 45) ≡ false)
first-of-name [] h = absurd (let no : false ≡ true = h in cc no)
first-of-name (d ∷ ds) h = (d, ds, refl, not-false (d == 45) h)
  where
    not-false : (b : Bool) → not b ≡ true → b ≡ false
    not-false false e = refl
    not-false true e = cc e
