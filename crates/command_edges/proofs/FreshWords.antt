-- The words of `fresh`.
use Rattle.std.proofs.lemmas.Bool.{cases_Bool}
use Rattle.std.proofs.Common.{inl, inr, ℕ, ◌≡◌, Bool, true, false, List, [], ◌∷◌, Option, Some, None, refl, arith, codes, drop}
use Rattle.std.specs.Option.{option_map}
use Rattle.std.specs.Prelude.{◌==◌, if◌then◌else◌}
use Rattle.clap.specs.Walk.{Held, Row, Text, idle, nothing_held, value, walked}
use Rattle.clap.specs.Simple.{Shape, built, matches_of}
use Rattle.clap.specs.Faults.{defaults_fault, fault_of, is_simple_and_free, step_fault, walk_fault}
use Rattle.clap.specs.Kinds.{or_else}
use Rattle.clap.specs.ValueTests.{accepts}
use Rattle.clap.specs.declared.builder.value_parser.ValueParser.TheVariants as vp
use Rattle.clap.proofs.OnLiterals.{clap_on_literals}
use Rattle.command_edges.specs.Command.{FreshRun, fresh_of, is_file_name}
use Rattle.command_edges.specs.Clap.{fresh_app, fresh_in, fresh_with, has_fresh_form, is_number, parsed_number}
use Rattle.command_edges.proofs.NumberWords.{both, first-digit, word_number-parsed}
use Rattle.command_edges.proofs.Plain.{at, fault-idle, first-of-name, walked-idle}
use Rattle.command_edges.proofs.Readings.{Reads, failing_unless, reads-by}
use Rattle.command_edges.proofs.Rows.{held, subscribers_held, value_row}

pub simple-fresh : is_simple_and_free fresh_app ≡ true
unfolding clap_on_literals
simple-fresh = refl

-- what a parse reads of it, built
abbrev fresh_shape : Shape
fresh_shape = (built fresh_app).top

abbrev after_two : Text → Text → Held
after_two s f = held (value_row (codes "subscribers") s ∷ []) (codes "file") (f ∷ [])

step-one : (a : ℕ) (s : Text) → (a == 45) ≡ false → walked fresh_shape.rules [] (at nothing_held idle 1) (a ∷ s) ≡ at (subscribers_held (a ∷ s)) idle 2
step-one a s e = walked-idle fresh_shape.rules nothing_held 1 a s e

step-two : (s : Text) (b : ℕ) (f : Text) → (b == 45) ≡ false → walked fresh_shape.rules [] (at (subscribers_held s) idle 2) (b ∷ f) ≡ at (after_two s (b ∷ f)) idle 3
step-two s b f e = walked-idle fresh_shape.rules (subscribers_held s) 2 b f e

abbrev fresh_rows : Text → Text → List Row
fresh_rows s f = value_row (codes "subscribers") s ∷ value_row (codes "file") f ∷ []

-- the matches
matches_of-fresh : (name : Text) (a : ℕ) (s : Text) (b : ℕ) (f : Text) → (a == 45) ≡ false → (b == 45) ≡ false
    → matches_of fresh_app (name ∷ (a ∷ s) ∷ (b ∷ f) ∷ []) ≡ fresh_rows (a ∷ s) (b ∷ f)
matches_of-fresh name a s b f na nb = rw (step-one a s na, step-two (a ∷ s) b f nb) refl

fault-walk : (a : ℕ) (s : Text) (b : ℕ) (f : Text) → (a == 45) ≡ false → (b == 45) ≡ false
    → walk_fault fresh_shape [] (at nothing_held idle 1) ((a ∷ s) ∷ (b ∷ f) ∷ [])
    ≡ or_else (step_fault fresh_shape 1 nothing_held value) (or_else (step_fault fresh_shape 2 (subscribers_held (a ∷ s)) value) [])
unfolding walk_fault
fault-walk a s b f na nb =
    rw (fault-idle fresh_shape nothing_held 1 a s na, step-one a s na, fault-idle fresh_shape (subscribers_held (a ∷ s)) 2 b f nb) refl

-- it fails only where the number doesn't pass
fault_of-fresh : (name : Text) (a : ℕ) (s : Text) (b : ℕ) (f : Text) → (a == 45) ≡ false → (b == 45) ≡ false
    → fault_of fresh_app (name ∷ (a ∷ s) ∷ (b ∷ f) ∷ []) ≡ failing_unless (accepts false (vp.Unsigned 1 10_000) (a ∷ s))
unfolding defaults_fault
fault_of-fresh name a s b f na nb =
    rw (fault-walk a s b f na nb, step-one a s na, step-two (a ∷ s) b f nb)
    (elim (cases_Bool (accepts false (vp.Unsigned 1 10_000) (a ∷ s))) [ inr bad ↦ rw bad refl | inl one ↦ rw one refl ])

mapped : (passes : Bool) (number : Option ℕ) (file : Text)
    → option_map (λ n. FreshRun n file) (if passes then number else None) ≡ (if passes then fresh_with number (Some file) else None)
mapped true (Some n) file = refl
mapped true None file = refl
mapped false number file = refl

fresh_of-parsed : (s f : Text) → is_number s ≡ true → is_file_name f ≡ true
    → fresh_of (s ∷ f ∷ []) ≡ (if accepts false (vp.Unsigned 1 10_000) s then fresh_in (fresh_rows s f) else None)
fresh_of-parsed s f number file =
    rw (file, word_number-parsed 1 10_000 s (omega arith) number) (mapped (accepts false (vp.Unsigned 1 10_000) s) (parsed_number s) f)

number-and-file : (name : Text) (a : ℕ) (s : Text) (b : ℕ) (f : Text) → (a == 45) ≡ false → (b == 45) ≡ false
    → fresh_of ((a ∷ s) ∷ (b ∷ f) ∷ []) ≡ (if accepts false (vp.Unsigned 1 10_000) (a ∷ s) then fresh_in (fresh_rows (a ∷ s) (b ∷ f)) else None)
    → Reads fresh_app (name ∷ (a ∷ s) ∷ (b ∷ f) ∷ []) (fresh_of ((a ∷ s) ∷ (b ∷ f) ∷ [])) fresh_in
number-and-file name a s b f na nb means =
    reads-by fresh_app (name ∷ (a ∷ s) ∷ (b ∷ f) ∷ []) _ fresh_in (accepts false (vp.Unsigned 1 10_000) (a ∷ s)) (fresh_rows (a ∷ s) (b ∷ f))
    (fault_of-fresh name a s b f na nb) (matches_of-fresh name a s b f na nb) means

fresh-words : (name s f : Text) → is_number s ≡ true → is_file_name f ≡ true → Reads fresh_app (name ∷ s ∷ f ∷ []) (fresh_of (s ∷ f ∷ [])) fresh_in
fresh-words name s f number file =
    let one = first-digit s number in
    let two = first-of-name f file in
    let means = fresh_of-parsed s f number file in
    rw (one.2, two.2) (number-and-file name one.0 one.1 two.0 two.1 one.3 two.3 (rw (one.2, two.2) at means))

-- words of the form
pub fresh-reads : (words : List Text) → has_fresh_form words ≡ true → Reads fresh_app words (fresh_of (drop 1 words)) fresh_in
fresh-reads [] h = cc h
fresh-reads (name ∷ []) h = cc h
fresh-reads (name ∷ s ∷ []) h = cc h
fresh-reads (name ∷ s ∷ f ∷ x ∷ more) h = cc h
fresh-reads (name ∷ s ∷ f ∷ []) h =
    let parts = both _ _ h in
    fresh-words name s f parts.0 parts.1
