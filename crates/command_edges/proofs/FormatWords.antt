-- The words of `format` and `xformat`.
use Rattle.std.proofs.lemmas.Bool.{cases_Bool}
use Rattle.std.proofs.Common.{inl, inr, ℕ, ◌≡◌, Bool, true, false, List, [], ◌∷◌, Option, Some, None, refl, arith, codes, drop}
use Rattle.std.specs.Prelude.{◌==◌, ◌&&◌, if◌then◌else◌}
use Rattle.dude_base.specs.declared.limits.TheConstants.{MAX_RINGS}
use Rattle.clap.specs.Walk.{Held, Row, Text, idle, nothing_held, value, walked}
use Rattle.clap.specs.Simple.{Shape, built, matches_of}
use Rattle.clap.specs.Faults.{defaults_fault, fault_of, step_fault, walk_fault}
use Rattle.clap.specs.Kinds.{or_else}
use Rattle.clap.specs.ValueTests.{accepts}
use Rattle.clap.specs.declared.builder.value_parser.ValueParser.TheVariants as vp
use Rattle.command_edges.specs.Command.{format_of, format_with}
use Rattle.command_edges.specs.Clap.{format_app, format_in, has_format_form, is_number, parsed_number}
use Rattle.command_edges.proofs.NumberWords.{both, first-digit, word_number-parsed}
use Rattle.command_edges.proofs.Plain.{at, fault-idle, walked-idle}
use Rattle.command_edges.proofs.Readings.{Reads, failing_unless, reads-by}
use Rattle.command_edges.proofs.Rows.{held, subscribers_held, value_row}

-- what a parse reads of it, built
abbrev format_shape : Shape
format_shape = (built format_app).top

abbrev after_two : Text → Text → Held
after_two s c = held (value_row (codes "subscribers") s ∷ []) (codes "calls") (c ∷ [])

abbrev after_three : Text → Text → Text → Held
after_three s c n =
    held (value_row (codes "subscribers") s ∷ value_row (codes "calls") c ∷ []) (codes "rings") (n ∷ [])

abbrev after_four : Text → Text → Text → Text → Held
after_four s c n k =
    held (value_row (codes "subscribers") s ∷ value_row (codes "calls") c ∷ value_row (codes "rings") n ∷ []) (codes "cells") (k ∷ [])

step-one : (a : ℕ) (s : Text) → (a == 45) ≡ false → walked format_shape.rules [] (at nothing_held idle 1) (a ∷ s) ≡ at (subscribers_held (a ∷ s)) idle 2
step-one a s e = walked-idle format_shape.rules nothing_held 1 a s e

step-two : (s : Text) (b : ℕ) (c : Text) → (b == 45) ≡ false → walked format_shape.rules [] (at (subscribers_held s) idle 2) (b ∷ c) ≡ at (after_two s (b ∷ c)) idle 3
step-two s b c e = walked-idle format_shape.rules (subscribers_held s) 2 b c e

step-three : (s c : Text) (d : ℕ) (n : Text) → (d == 45) ≡ false → walked format_shape.rules [] (at (after_two s c) idle 3) (d ∷ n) ≡ at (after_three s c (d ∷ n)) idle 4
step-three s c d n e = walked-idle format_shape.rules (after_two s c) 3 d n e

step-four : (s c n : Text) (f : ℕ) (k : Text) → (f == 45) ≡ false → walked format_shape.rules [] (at (after_three s c n) idle 4) (f ∷ k) ≡ at (after_four s c n (f ∷ k)) idle 5
step-four s c n f k e = walked-idle format_shape.rules (after_three s c n) 4 f k e

abbrev format_rows : Text → Text → Text → Text → List Row
format_rows s c n k =
    value_row (codes "subscribers") s ∷ value_row (codes "calls") c ∷ value_row (codes "rings") n ∷ value_row (codes "cells") k ∷ []

-- the matches
matches_of-format : (name : Text) (a : ℕ) (s : Text) (b : ℕ) (c : Text) (d : ℕ) (n : Text) (f : ℕ) (k : Text)
    → (a == 45) ≡ false → (b == 45) ≡ false → (d == 45) ≡ false → (f == 45) ≡ false
    → matches_of format_app (name ∷ (a ∷ s) ∷ (b ∷ c) ∷ (d ∷ n) ∷ (f ∷ k) ∷ []) ≡ format_rows (a ∷ s) (b ∷ c) (d ∷ n) (f ∷ k)
matches_of-format name a s b c d n f k na nb nd nf =
    rw (step-one a s na, step-two (a ∷ s) b c nb, step-three (a ∷ s) (b ∷ c) d n nd, step-four (a ∷ s) (b ∷ c) (d ∷ n) f k nf) refl

fault-walk : (a : ℕ) (s : Text) (b : ℕ) (c : Text) (d : ℕ) (n : Text) (f : ℕ) (k : Text)
    → (a == 45) ≡ false → (b == 45) ≡ false → (d == 45) ≡ false → (f == 45) ≡ false
    → walk_fault format_shape [] (at nothing_held idle 1) ((a ∷ s) ∷ (b ∷ c) ∷ (d ∷ n) ∷ (f ∷ k) ∷ [])
    ≡ or_else (step_fault format_shape 1 nothing_held value)
    (or_else (step_fault format_shape 2 (subscribers_held (a ∷ s)) value)
    (or_else (step_fault format_shape 3 (after_two (a ∷ s) (b ∷ c)) value)
    (or_else (step_fault format_shape 4 (after_three (a ∷ s) (b ∷ c) (d ∷ n)) value) [])))
unfolding walk_fault
fault-walk a s b c d n f k na nb nd nf =
    rw (
      fault-idle format_shape nothing_held 1 a s na,
      step-one a s na,
      fault-idle format_shape (subscribers_held (a ∷ s)) 2 b c nb,
      step-two (a ∷ s) b c nb,
      fault-idle format_shape (after_two (a ∷ s) (b ∷ c)) 3 d n nd,
      step-three (a ∷ s) (b ∷ c) d n nd,
      fault-idle format_shape (after_three (a ∷ s) (b ∷ c) (d ∷ n)) 4 f k nf,
    ) refl

-- each number passes its parser
abbrev format_passes : Text → Text → Text → Text → Bool
format_passes s c n k =
    accepts false (vp.Unsigned 1 10_000) s && accepts false (vp.Unsigned 1 120_000) c && accepts false (vp.Unsigned 1 MAX_RINGS) n && accepts false (vp.Unsigned 16 4_096) k

-- it fails only where a number doesn't pass
fault_of-format : (name : Text) (a : ℕ) (s : Text) (b : ℕ) (c : Text) (d : ℕ) (n : Text) (f : ℕ) (k : Text)
    → (a == 45) ≡ false → (b == 45) ≡ false → (d == 45) ≡ false → (f == 45) ≡ false
    → fault_of format_app (name ∷ (a ∷ s) ∷ (b ∷ c) ∷ (d ∷ n) ∷ (f ∷ k) ∷ []) ≡ failing_unless (format_passes (a ∷ s) (b ∷ c) (d ∷ n) (f ∷ k))
unfolding defaults_fault
fault_of-format name a s b c d n f k na nb nd nf =
    rw (fault-walk a s b c d n f k na nb nd nf, step-one a s na, step-two (a ∷ s) b c nb, step-three (a ∷ s) (b ∷ c) d n nd, step-four (a ∷ s) (b ∷ c) (d ∷ n) f k nf)
    (elim (cases_Bool (accepts false (vp.Unsigned 1 10_000) (a ∷ s))) [
      | inr bad ↦ rw bad refl
      | inl one ↦ elim (cases_Bool (accepts false (vp.Unsigned 1 120_000) (b ∷ c))) [
        | inr bad ↦ rw (one, bad) refl
        | inl two ↦ elim (cases_Bool (accepts false (vp.Unsigned 1 MAX_RINGS) (d ∷ n))) [
          | inr bad ↦ rw (one, two, bad) refl
          | inl three ↦ elim (cases_Bool (accepts false (vp.Unsigned 16 4_096) (f ∷ k))) [
            | inr bad ↦ rw (one, two, three, bad) refl
            | inl four ↦ rw (one, two, three, four) refl
          ]
        ]
      ]
    ])

-- four numbers, each where its test holds
none-last : (indexed : Bool) (s c n : Option ℕ) → format_with indexed s c n None ≡ None
none-last indexed None c n = refl
none-last indexed (Some a) None n = refl
none-last indexed (Some a) (Some b) None = refl
none-last indexed (Some a) (Some b) (Some d) = refl

none-third : (indexed : Bool) (s c k : Option ℕ) → format_with indexed s c None k ≡ None
none-third indexed None c k = refl
none-third indexed (Some a) None k = refl
none-third indexed (Some a) (Some b) k = refl

none-second : (indexed : Bool) (s n k : Option ℕ) → format_with indexed s None n k ≡ None
none-second indexed None n k = refl
none-second indexed (Some a) n k = refl

all-pass : (indexed p q r t : Bool) (s c n k : Option ℕ)
    → format_with indexed (if p then s else None) (if q then c else None) (if r then n else None) (if t then k else None)
    ≡ (if p && q && r && t then format_with indexed s c n k else None)
all-pass indexed true true true true s c n k = refl
all-pass indexed false q r t s c n k = refl
all-pass indexed true false r t s c n k = none-second indexed s (if r then n else None) (if t then k else None)
all-pass indexed true true false t s c n k = none-third indexed s c (if t then k else None)
all-pass indexed true true true false s c n k = none-last indexed s c n

format_of-parsed : (indexed : Bool) (s c n k : Text) → is_number s ≡ true → is_number c ≡ true → is_number n ≡ true → is_number k ≡ true
    → format_of indexed (s ∷ c ∷ n ∷ k ∷ []) ≡ (if format_passes s c n k then format_in indexed (format_rows s c n k) else None)
format_of-parsed indexed s c n k one two three four =
    rw (word_number-parsed 1 10_000 s (omega arith) one, word_number-parsed 1 120_000 c (omega arith) two, word_number-parsed 1 MAX_RINGS n (omega arith) three, word_number-parsed 16 4_096 k (omega arith) four)
    (all-pass indexed (accepts false (vp.Unsigned 1 10_000) s) (accepts false (vp.Unsigned 1 120_000) c) (accepts false (vp.Unsigned 1 MAX_RINGS) n) (accepts false (vp.Unsigned 16 4_096) k)
    (parsed_number s) (parsed_number c) (parsed_number n) (parsed_number k))

four-numbers : (indexed : Bool) (name : Text) (a : ℕ) (s : Text) (b : ℕ) (c : Text) (d : ℕ) (n : Text) (f : ℕ) (k : Text)
    → (a == 45) ≡ false → (b == 45) ≡ false → (d == 45) ≡ false → (f == 45) ≡ false
    → format_of indexed ((a ∷ s) ∷ (b ∷ c) ∷ (d ∷ n) ∷ (f ∷ k) ∷ [])
    ≡ (if format_passes (a ∷ s) (b ∷ c) (d ∷ n) (f ∷ k) then format_in indexed (format_rows (a ∷ s) (b ∷ c) (d ∷ n) (f ∷ k)) else None)
    → Reads format_app (name ∷ (a ∷ s) ∷ (b ∷ c) ∷ (d ∷ n) ∷ (f ∷ k) ∷ []) (format_of indexed ((a ∷ s) ∷ (b ∷ c) ∷ (d ∷ n) ∷ (f ∷ k) ∷ [])) (format_in indexed)
four-numbers indexed name a s b c d n f k na nb nd nf means =
    reads-by format_app (name ∷ (a ∷ s) ∷ (b ∷ c) ∷ (d ∷ n) ∷ (f ∷ k) ∷ []) _ (format_in indexed)
    (format_passes (a ∷ s) (b ∷ c) (d ∷ n) (f ∷ k)) (format_rows (a ∷ s) (b ∷ c) (d ∷ n) (f ∷ k))
    (fault_of-format name a s b c d n f k na nb nd nf) (matches_of-format name a s b c d n f k na nb nd nf) means

-- words of the form
abbrev FormatReads : Bool → Text → Text → Text → Text → Text → Type 0
FormatReads indexed name s c n k = Reads format_app (name ∷ s ∷ c ∷ n ∷ k ∷ []) (format_of indexed (s ∷ c ∷ n ∷ k ∷ [])) (format_in indexed)

format-words : (indexed : Bool) (name s c n k : Text) → is_number s ≡ true → is_number c ≡ true → is_number n ≡ true → is_number k ≡ true → FormatReads indexed name s c n k
format-words indexed name s c n k fs fc fn fk =
    let one = first-digit s fs in
    let two = first-digit c fc in
    let three = first-digit n fn in
    let four = first-digit k fk in
    let means = format_of-parsed indexed s c n k fs fc fn fk in
    rw (one.2, two.2, three.2, four.2)
    (four-numbers indexed name one.0 one.1 two.0 two.1 three.0 three.1 four.0 four.1 one.3 two.3 three.3 four.3 (rw (one.2, two.2, three.2, four.2) at means))

pub format-reads : (indexed : Bool) (words : List Text) → has_format_form words ≡ true → Reads format_app words (format_of indexed (drop 1 words)) (format_in indexed)
format-reads indexed [] h = cc h
format-reads indexed (name ∷ []) h = cc h
format-reads indexed (name ∷ s ∷ []) h = cc h
format-reads indexed (name ∷ s ∷ c ∷ []) h = cc h
format-reads indexed (name ∷ s ∷ c ∷ n ∷ []) h = cc h
format-reads indexed (name ∷ s ∷ c ∷ n ∷ k ∷ l ∷ more) h = cc h
format-reads indexed (name ∷ s ∷ c ∷ n ∷ k ∷ []) h =
    let last = both _ _ h in
    let third = both _ _ last.0 in
    let second = both _ _ third.0 in
    format-words indexed name s c n k second.0 second.1 third.1 last.1
